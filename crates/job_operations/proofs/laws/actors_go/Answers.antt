use Rattle.job_operations.proofs.ActorsGo.{actors_go}
use Rattle.job_operations.proofs.laws.actors_go.Goals as goal

pub returns : goal.returns
returns c = actors_go
