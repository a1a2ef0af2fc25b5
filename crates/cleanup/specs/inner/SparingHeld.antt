-- Definitions beside those of `SparingHeld` that no public contract cites.
use Rattle.cleanup.specs.SparingHeld.{places_of}
use Rattle.cleanup.specs.declared.sparing_state.SparingStage.{SparingStage}
use Rattle.cleanup.specs.declared.sparing_state.SparingState.{SparingState}
use Rattle.job_model.specs.JobScript.{Script}
use Rattle.job_protocol.specs.Sparing.{record_request}
use Rattle.s3_types.specs.declared.request.Committer.{Committer}
use Rattle.s3_types.specs.declared.request.Committer.TheVariants.{Magic}
use Rattle.s3_types.specs.declared.request.Request.{Request}
use Rattle.std.specs.Prelude.{Bool, List, None, Option, Some, false, length, nat_lt, not, true, ℕ, [], ◌∷◌}
use Rattle.cleanup.specs.declared.sparing_state.SparingStage.TheVariants as stages

-- True for a magic job, whose clean lists keys of the store; a staging job's clean lists files of the cluster.
abbrev pub lists_keys : Committer → Bool
lists_keys Magic = true
lists_keys _ = false

-- The first stage, which lists the keys or the files.
abbrev pub start_stage : Committer → SparingStage
start_stage Magic = stages.Walking
start_stage _ = stages.Naming

-- True if the stage lists what the committer lists, and the place is below the number of items.
abbrev pub within : SparingStage → Bool → (at places named keys paths : ℕ) → Bool
within stages.Walking by_keys at places named keys paths = by_keys
within stages.Naming by_keys at places named keys paths = not by_keys
within stages.Reading by_keys at places named keys paths = nat_lt at places
within stages.Aborting by_keys at places named keys paths = nat_lt at named
within stages.Deleting by_keys at places named keys paths = nat_lt at keys
within stages.Removing by_keys at places named keys paths = nat_lt at paths
within (stages.Over end) by_keys at places named keys paths = true

-- True if the stage lists what the committer lists, and the place is that of a kept item.
abbrev pub within_of : Committer → SparingState → Bool
within_of c h = within h.stage (lists_keys c) h.at (length (places_of c h)) (length h.named) (length h.keys) (length h.paths)

-- The read of the first of these places.
abbrev pub read_asks : Committer → Script → List (List ℕ) → Option Request
read_asks c w [] = None
read_asks c w (p ∷ ps) = Some (record_request c w p)
