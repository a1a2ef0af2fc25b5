use Rattle.audit_claims.proofs.Dirs.{NoneUpTo}
use Rattle.audit_claims.proofs.dir_set.DirSet.reaches.Given as goal

abbrev pub invariant-loop-n : goal.invariant-loop-n
invariant-loop-n l = NoneUpTo l.path l.self l.n
