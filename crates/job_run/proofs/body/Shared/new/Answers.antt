use Rattle.std.proofs.Common.{refl}
use Rattle.job_run.proofs.body.Shared.new.Goals as goal

pub returns-clause-first : goal.returns-clause-first
returns-clause-first c = record { store = c.in-Ok.ensures; journal = c.new.ensures; events = refl }
