-- An operation has a next request exactly until it is over, and each actor has its operations.
use Rattle.job_model.specs.Attempts.{Who}
use Rattle.job_model.specs.Known.{Known}
use Rattle.job_model.specs.declared.events.Op.{Op}
use Rattle.job_protocol.specs.OperationLaws.{OneOf, has_op}
use Rattle.job_protocol.specs.Operations.{Operation, Reports, Setting, asks, over, start_of}
use Rattle.s3_types.specs.declared.request.Actor.{Actor}
use Rattle.std.proofs.Common.{arith, is_some, ◌≡◌}

pub goes_on : (g : Setting) (a : Who) (k : Known) (op : Operation) → OneOf (asks g a k op) (over op)
goes_on g a k op = grind arith

pub starts : (g : Setting) (a : Actor) (op : Op) (r : Reports) (k : Known) → is_some (start_of g a op r k) ≡ has_op a op
starts g a op r k = grind arith
