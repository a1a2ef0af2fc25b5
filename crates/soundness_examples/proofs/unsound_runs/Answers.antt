use Rattle.soundness_examples.proofs.Runs as runs
use Rattle.soundness_examples.proofs.unsound_runs.Goals as goal

pub returns : goal.returns
returns c = record { unsound = runs.unsound_runs }
