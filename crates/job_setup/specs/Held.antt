-- A set-up in progress, as data.
use Rattle.job_model.specs.declared.ends.SetupEnd.{SetupEnd}
use Rattle.job_protocol.specs.Setup.{Checking, Clearing, Heading, Setup, SetupOver, Sweeping}
use Rattle.job_setup.specs.declared.setup_state.SetupStage.{SetupStage}
use Rattle.job_setup.specs.declared.setup_state.SetupState.{SetupState}
use Rattle.list_walk.specs.Walks.{Sweep, keys_on}
use Rattle.std.specs.Prelude.{List, ℕ}
use Rattle.job_setup.specs.declared.setup_state.SetupStage.TheVariants as stages

-- The set-up at a stage, with the keys of the walk, the sweep, and the end.
abbrev pub setup_at : SetupStage → List (List ℕ) → Sweep → SetupEnd → Setup
setup_at stages.Heading keys sweep end = Heading
setup_at stages.Checking keys sweep end = Checking keys
setup_at stages.Clearing keys sweep end = Clearing
setup_at stages.Sweeping keys sweep end = Sweeping sweep
setup_at stages.Over keys sweep end = SetupOver end

-- The set-up that the kept values represent.
abbrev pub setup_of : SetupState → Setup
setup_of h = setup_at h.stage (keys_on h.walk) h.sweep h.end
