-- A clean in progress, as data.
use Rattle.cleanup.specs.declared.clean_state.CleanStage.{CleanStage}
use Rattle.cleanup.specs.declared.clean_state.CleanState.{CleanState}
use Rattle.job_protocol.specs.Cleanups.{Aborting, Clean, CleanOver, Naming, Sweeping, Walking, removing}
use Rattle.list_walk.specs.Walks.{Sweep}
use Rattle.s3_types.specs.declared.request.UploadRef.{UploadRef}
use Rattle.std.specs.Prelude.{List, drop, ℕ, [], ◌∷◌}
use Rattle.job_model.specs.declared.ends.CleanEnd.TheVariants as ends
use Rattle.cleanup.specs.declared.clean_state.CleanStage.TheVariants as stages

-- The clean that aborts these uploads, of which there are some.
abbrev pub aborting_from : List UploadRef → Clean
aborting_from [] = CleanOver ends.Done
aborting_from (u ∷ us) = Aborting u us

-- The clean at a stage, with the uploads, the sweep, the paths, and the place among the uploads or the paths.
abbrev pub clean_at : CleanStage → List UploadRef → Sweep → List (List ℕ) → ℕ → Clean
clean_at stages.Walking found sweep paths at = Walking found
clean_at stages.Aborting found sweep paths at = aborting_from (drop at found)
clean_at stages.Sweeping found sweep paths at = Sweeping sweep
clean_at stages.Naming found sweep paths at = Naming
clean_at stages.Removing found sweep paths at = removing (drop at paths)
clean_at (stages.Over end) found sweep paths at = CleanOver end

-- The clean that the kept values represent.
abbrev pub clean_of : CleanState → Clean
clean_of h = clean_at h.stage h.uploads h.sweep h.paths h.at
