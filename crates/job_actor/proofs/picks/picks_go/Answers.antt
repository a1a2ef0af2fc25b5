use Rattle.job_actor.proofs.Picking as picking
use Rattle.job_actor.proofs.picks.picks_go.Goals as goal

pub returns : goal.returns
returns c = picking.picks_go
