use Rattle.std.proofs.Common.{◌≡◌, ◌||◌, ℕ, List, drop}
use Rattle.audit_model.specs.Answers.{seen_paths}
use Rattle.auditor.specs.inner.Paths.{has_path}
use Rattle.auditor.proofs.paths.seen_paths.Given as goal

abbrev pub invariant-loop-key : goal.invariant-loop-key
invariant-loop-key l = (p : List ℕ) → (has_path p l.paths || has_path p (seen_paths l.dest l.bucket (drop l.key-index l.keys)))
    ≡ has_path p (seen_paths l.dest l.bucket l.keys)
