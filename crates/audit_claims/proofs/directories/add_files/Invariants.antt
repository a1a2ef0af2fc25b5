use Rattle.std.proofs.Common.{◌≡◌, ◌||◌, ℕ, List}
use Rattle.soundness.specs.Claims.{writes_into}
use Rattle.audit_claims.specs.Directories.{has_dir}
use Rattle.audit_claims.proofs.directories.add_files.Given as goal

abbrev pub invariant-loop-path : goal.invariant-loop-path
invariant-loop-path l = (d : List ℕ) → (has_dir d l.dirs || writes_into d l.path-iterator) ≡ (has_dir d l.fn.dirs || writes_into d l.files)
