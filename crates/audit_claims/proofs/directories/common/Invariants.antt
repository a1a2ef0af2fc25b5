use Rattle.std.proofs.Common.{◌≡◌, ◌&&◌, ℕ, List}
use Rattle.std.specs.List.{list_all}
use Rattle.soundness.specs.Claims.{writes_into}
use Rattle.audit_claims.specs.Directories.{all_write, files_of, has_dir}
use Rattle.audit_claims.proofs.directories.common.Given as goal

abbrev pub invariant-loop-files : goal.invariant-loop-files
invariant-loop-files l =
    (d : List ℕ) → (has_dir d l.common && list_all (writes_into d) (files_of l.files-iterator)) ≡ all_write d (files_of l.attempts)
