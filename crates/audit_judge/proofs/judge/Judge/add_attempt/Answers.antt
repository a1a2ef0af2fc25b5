use Rattle.audit_judge.proofs.Heading.{attempt_waits}
use Rattle.audit_judge.proofs.judge.Judge.add_attempt.Goals as goal

pub returns-clause-waits : goal.returns-clause-waits
returns-clause-waits c = attempt_waits c.args.self.now c.self.inside.known c.add_attempt.new.self c.self.inside.begun c.self.inside.marker
    c.self.inside.needed c.self.inside.candidates.items c.self.view_is c.requires.waits c.args.task c.args.attempt c.in_ok-is_new.is_new
    c.requires.below c.in_ok-is_new.ensures.after
