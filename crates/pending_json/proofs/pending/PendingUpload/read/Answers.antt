use Rattle.text_and_lists.proofs.Reading.{found_so, only}
use Rattle.pending_json.proofs.Relations.{pending_found, pending_only}
use Rattle.pending_json.specs.Fault.{wanting}
use Rattle.pending_json.specs.Pending.{Pending}
use Rattle.pending_json.specs.Records.{Spell}
use Rattle.pending_json.specs.Trees.{pending_tree}
use Rattle.pending_json.proofs.pending.PendingUpload.read.Goals as goal

pub returns-clause-found : goal.returns-clause-found
returns-clause-found c = found_so wanting (λ (x : Pending). Spell c.args.bytes.now (pending_tree x)) c.pending_of.result _
    (pending_found c.args.bytes.now) c.pending_of.ensures

pub returns-clause-only : goal.returns-clause-only
returns-clause-only c p f e = only wanting c.pending_of.result _ p (pending_only c.args.bytes.now p f e) c.pending_of.ensures
