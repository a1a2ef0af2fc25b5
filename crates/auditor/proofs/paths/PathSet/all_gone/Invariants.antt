use Rattle.std.proofs.Common.{◌≡◌, ◌++◌, None}
use Rattle.auditor.specs.inner.Paths.{given}
use Rattle.auditor.proofs.paths.PathSet.all_gone.Given as goal

abbrev pub invariant-loop-path : goal.invariant-loop-path
invariant-loop-path l = l.changes.items ++ given l.path-iterator None ≡ given l.self None
