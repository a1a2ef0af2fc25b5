use Rattle.soundness_examples.proofs.Runs as runs
use Rattle.soundness_examples.proofs.sound_runs.Goals as goal

pub returns : goal.returns
returns c = record { sound = runs.sound_runs }
