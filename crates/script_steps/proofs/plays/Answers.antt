use Rattle.script_steps.proofs.Played.{happenings_play}
use Rattle.script_steps.proofs.plays.Goals as goal

pub returns : goal.returns
returns c = record { played = happenings_play }
