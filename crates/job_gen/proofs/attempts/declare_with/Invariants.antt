use Rattle.job_gen.proofs.Adding.{IsAdding}
use Rattle.job_gen.proofs.attempts.declare_with.Given as goal

abbrev pub invariant-loop-path : goal.invariant-loop-path
invariant-loop-path l = IsAdding l.fn.attempts l.fn.name l.files l.attempts l.path-iterator
