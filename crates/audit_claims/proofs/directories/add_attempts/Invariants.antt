use Rattle.std.proofs.Common.{◌≡◌, ◌||◌, ℕ, List}
use Rattle.std.specs.List.{list_any}
use Rattle.soundness.specs.Claims.{writes_into}
use Rattle.audit_claims.specs.Directories.{files_of, has_dir}
use Rattle.audit_claims.proofs.directories.add_attempts.Given as goal

abbrev pub invariant-loop-files : goal.invariant-loop-files
invariant-loop-files l =
    (d : List ℕ) → (has_dir d l.dirs || list_any (writes_into d) (files_of l.files-iterator))
    ≡ (has_dir d l.fn.dirs || list_any (writes_into d) (files_of l.attempts))
