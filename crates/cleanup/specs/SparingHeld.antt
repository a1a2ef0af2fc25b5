-- A sparing clean in progress, as data.
use Rattle.cleanup.specs.declared.sparing_state.SparingStage.{SparingStage}
use Rattle.cleanup.specs.declared.sparing_state.SparingState.{SparingState}
use Rattle.job_protocol.specs.Sparing.{Aborting, Naming, Reading, Sparing, SparingOver, Walking, deleting, removing}
use Rattle.list_walk.specs.Walks.{keys_on}
use Rattle.s3_types.specs.declared.request.Committer.{Committer}
use Rattle.s3_types.specs.declared.request.Committer.TheVariants.{Magic}
use Rattle.s3_types.specs.declared.request.UploadRef.{UploadRef}
use Rattle.std.specs.Prelude.{List, drop, ℕ, [], ◌∷◌}
use Rattle.job_model.specs.declared.ends.CleanEnd.TheVariants as ends
use Rattle.cleanup.specs.declared.sparing_state.SparingStage.TheVariants as stages

-- The first value for the magic committer, the second for the others.
abbrev pub by_committer : {X : Type 0} → Committer → X → X → X
by_committer Magic magic staging = magic
by_committer _ magic staging = staging

-- The places that a clean reads: the keys of a magic job's records, or the paths of a staging job's files.
abbrev pub places_of : Committer → SparingState → List (List ℕ)
places_of c h = by_committer c h.records h.paths

-- All keys or files that the clean deletes in the end.
abbrev pub all_of : Committer → SparingState → List (List ℕ)
all_of c h = by_committer c h.keys h.paths

-- The clean that reads these places, of which there are some.
abbrev pub reading_from : List UploadRef → List (List ℕ) → List (List ℕ) → Sparing
reading_from named [] all = SparingOver ends.Done
reading_from named (p ∷ ps) all = Reading named p ps all

-- The clean that aborts these uploads, of which there are some.
abbrev pub aborting_from : List UploadRef → List (List ℕ) → Sparing
aborting_from [] all = SparingOver ends.Done
aborting_from (u ∷ us) all = Aborting u us all

-- The sparing clean at a stage. Its arguments are the keys walked, the places to read, all that it deletes, the keys, the paths, the named
-- uploads, and the place among these.
abbrev pub sparing_at : SparingStage → (walked places all keys paths : List (List ℕ)) → List UploadRef → ℕ → Sparing
sparing_at stages.Walking walked places all keys paths named at = Walking walked
sparing_at stages.Naming walked places all keys paths named at = Naming
sparing_at stages.Reading walked places all keys paths named at = reading_from named (drop at places) all
sparing_at stages.Aborting walked places all keys paths named at = aborting_from (drop at named) all
sparing_at stages.Deleting walked places all keys paths named at = deleting (drop at keys)
sparing_at stages.Removing walked places all keys paths named at = removing (drop at paths)
sparing_at (stages.Over end) walked places all keys paths named at = SparingOver end

-- The sparing clean of a committer that the kept values represent.
abbrev pub sparing_of : Committer → SparingState → Sparing
sparing_of c h = sparing_at h.stage (keys_on h.walk) (places_of c h) (all_of c h) h.keys h.paths h.named h.at
