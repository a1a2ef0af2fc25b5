use Rattle.std.proofs.Common.{◌≡◌, ◌+◌, None, drop, length}
use Rattle.audit_judge.specs.inner.Picking.{least_up}
use Rattle.audit_judge.proofs.narrow.least_up.Given as goal

abbrev pub invariant-loop-number : goal.invariant-loop-number
invariant-loop-number l = record {
  all : l.k + length l.number-iterator ≡ length l.attempts;
  least : least_up l.number-iterator (drop l.k l.flags) l.least ≡ least_up l.attempts l.flags None;
}
