use Rattle.text_and_lists.proofs.Reading.{found_so, only}
use Rattle.pending_json.proofs.Relations.{success_found, success_only}
use Rattle.pending_json.specs.Fault.{wanting}
use Rattle.pending_json.specs.Records.{Spell}
use Rattle.pending_json.specs.Trees.{success_tree}
use Rattle.pending_json.specs.declared.records.SuccessMark.{SuccessMark}
use Rattle.pending_json.proofs.records.SuccessMark.read.Goals as goal

pub returns-clause-found : goal.returns-clause-found
returns-clause-found c = found_so wanting (λ (x : SuccessMark). Spell c.args.bytes.now (success_tree x)) c.success_of.result _
    (success_found c.args.bytes.now) c.success_of.ensures

pub returns-clause-only : goal.returns-clause-only
returns-clause-only c m e = only wanting c.success_of.result _ m (success_only c.args.bytes.now m e) c.success_of.ensures
