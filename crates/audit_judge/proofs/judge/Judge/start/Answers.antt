use Rattle.audit_judge.proofs.Heading.{start_follows}
use Rattle.audit_judge.proofs.judge.Judge.start.Goals as goal

pub returns-clause-follows : goal.returns-clause-follows
returns-clause-follows c = start_follows c.args.self.now c.self.inside.known c.start.new.self c.self.inside.begun c.self.inside.marker
    c.self.inside.needed c.self.inside.candidates.items c.self.view_is c.requires.waits c.in_ok-candidates.candidates.items
    c.in_ok-candidates.ensures.up c.in_ok-start.ensures.ok
