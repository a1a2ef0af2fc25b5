-- The standing of an actor, and what is known of the driver's operations, as `States` keeps them.
use Rattle.job_model.specs.declared.events.Op.{Op}
use Rattle.job_spec.specs.States.{Decided, EndedSo, NotBegun, Past, Unended, end_verdict}
use Rattle.job_states.specs.declared.standing.Decision.{Decision}
use Rattle.job_states.specs.declared.standing.Standing.{Standing}
use Rattle.s3_types.specs.declared.request.Actor.{Actor}
use Rattle.std.specs.Prelude.{Bool, None, Option, Some, false, option_map, true}
use Rattle.job_model.specs.declared.events.Op.TheVariants as ops
use Rattle.job_states.specs.declared.standing.Decision.TheVariants as kept

-- The standing of an actor: its state, the operation that it began last, and whether it has reported.
abbrev pub standing : Past → Actor → Standing
standing p a = record { state = p.state a; begun = option_map (λ d. d.op) (p.doing a); reported = p.reported a }

-- True if both operations are the same.
abbrev pub same_op : Op → Op → Bool
same_op ops.Setup ops.Setup = true
same_op ops.Write ops.Write = true
same_op ops.Commit ops.Commit = true
same_op ops.Abort ops.Abort = true
same_op ops.Clean ops.Clean = true
same_op _ _ = false

-- True if this operation is the one that was begun last.
abbrev pub began : Op → Option Op → Bool
began op None = false
began op (Some last) = same_op op last

-- What is kept of an operation that decides: for one that ended, the status for its end.
abbrev pub decision : Decided → Decision
decision NotBegun = kept.NotBegun
decision Unended = kept.Unended
decision (EndedSo end) = kept.Ended (end_verdict end)
