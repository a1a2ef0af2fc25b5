use Rattle.script_steps.proofs.Running.{is_run}
use Rattle.script_steps.proofs.runs.Goals as goal

pub returns : goal.returns
returns c = record { run = λ g opening x j is_opening past ends ahead. is_run g opening j is_opening x past ends ahead }
