use Rattle.std.proofs.Common.{take, ◌≡◌}
use Rattle.task_requests.specs.Publishing.{picked}
use Rattle.task_requests.specs.inner.Publishing.{records_of}
use Rattle.task_requests.proofs.publishing.pendings.Given as goal

abbrev pub invariant-loop-place : goal.invariant-loop-place
invariant-loop-place l = l.list ≡ records_of l.plan (picked l.plan.files (take l.place-index l.places))
