use Rattle.audit_judge.proofs.Heading.{file_waits}
use Rattle.audit_judge.proofs.judge.Judge.add_file.Goals as goal

pub returns-clause-waits : goal.returns-clause-waits
returns-clause-waits c = file_waits c.args.self.now c.self.inside.known c.add_file.new.self c.self.inside.begun c.self.inside.marker
    c.self.inside.needed c.self.inside.candidates.items c.self.view_is c.requires.waits c.args.path c.args.etags c.in_ok-fit.fit
    c.requires.some c.in_ok-fit.ensures.fit c.in_ok-fit.ensures.after
