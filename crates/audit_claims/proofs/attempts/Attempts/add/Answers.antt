use Rattle.std.proofs.Common.{◌∙◌, nat_eq}
use Rattle.audit_claims.proofs.Entries.{insert_new}
use Rattle.audit_claims.proofs.attempts.Attempts.add.Goals as goal

pub returns-in-Ok-clause-ok : goal.returns-in-Ok-clause-ok
returns-in-Ok-clause-ok c =
    rw (← c.new.ensures.empty) (c.in-Ok.ensures.entries ∙ insert_new nat_eq c.self.inside.attempts c.args.attempt c.new.result
    c.args.self.now c.self.view_is c.requires.other)
