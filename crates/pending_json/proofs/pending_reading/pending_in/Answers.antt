use Rattle.pending_json.proofs.Whole.{pending_whole}
use Rattle.pending_json.specs.Fault.{Gives}
use Rattle.pending_json.specs.Pending.{Pending}
use Rattle.pending_json.specs.declared.fault.RecordFault.{RecordFault}
use Rattle.serde_json.specs.View.{view}
use Rattle.std.proofs.Common.{Result, subst}
use Rattle.pending_json.proofs.pending_reading.pending_in.Goals as goal

pub returns : goal.returns
returns c = subst (λ (read : Result Pending RecordFault). Gives c.pending_by.result read) (pending_whole (view c.args.value.now))
    c.pending_by.ensures
