use Rattle.std.proofs.Common.{map}
use Rattle.audit_claims.proofs.Dirs.{IsSharing}
use Rattle.audit_claims.proofs.dir_set.DirSet.shared.Given as goal

abbrev pub invariant-loop-dir : goal.invariant-loop-dir
invariant-loop-dir l = IsSharing l.self l.other l.shared (map (λ d. d.items) l.dir-iterator)
