use Rattle.job_model.proofs.Entries.{insert_new}
use Rattle.job_model.specs.Attempts.{same_name}
use Rattle.std.proofs.Common.{◌∙◌}
use Rattle.job_model.proofs.attempts.Attempts.declare.Goals as goal

pub returns-in-Ok-clause-ok : goal.returns-in-Ok-clause-ok
returns-in-Ok-clause-ok c = rw (← c.new.ensures) (c.in-Ok.ensures.entries ∙ insert_new same_name c.self.inside.declared c.args.name
    c.new.result c.args.self.now c.self.view_is c.requires)
