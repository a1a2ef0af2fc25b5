use Rattle.std.proofs.Common.{map}
use Rattle.audit_claims.proofs.Dirs.{IsAdding}
use Rattle.audit_claims.proofs.dir_set.DirSet.add_all.Given as goal

abbrev pub invariant-loop-dir : goal.invariant-loop-dir
invariant-loop-dir l = IsAdding l.fn.self l.other l.self (map (λ d. d.items) l.dir-iterator)
