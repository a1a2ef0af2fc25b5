use Rattle.twin_facts.proofs.TwinRuns.{twins_keep, moments, turned}
use Rattle.twin_facts.proofs.twins.Goals as goal

pub returns : goal.returns
returns c = record { keep = twins_keep; moments = moments; turn = turned }
