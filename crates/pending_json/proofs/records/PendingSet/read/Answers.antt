use Rattle.text_and_lists.proofs.Reading.{found_so, only}
use Rattle.pending_json.proofs.Relations.{set_found, set_only}
use Rattle.pending_json.specs.Fault.{wanting}
use Rattle.pending_json.specs.Records.{Spell}
use Rattle.pending_json.specs.Trees.{set_tree}
use Rattle.pending_json.specs.declared.records.PendingSet.{PendingSet}
use Rattle.pending_json.proofs.records.PendingSet.read.Goals as goal

pub returns-clause-found : goal.returns-clause-found
returns-clause-found c = found_so wanting (λ (x : PendingSet). Spell c.args.bytes.now (set_tree x)) c.set_of.result _
    (set_found c.args.bytes.now) c.set_of.ensures

pub returns-clause-only : goal.returns-clause-only
returns-clause-only c p f e = only wanting c.set_of.result _ p (set_only c.args.bytes.now p f e) c.set_of.ensures
