use Rattle.std.proofs.Common.{ap}
use Rattle.audit_judge.proofs.Loops.{always_is}
use Rattle.audit_judge.specs.Scene.{Scene}
use Rattle.audit_judge.proofs.known.Known.is_always_reached.Goals as goal

pub returns : goal.returns
returns c = record {
  reached = always_is c.args.self.now.tasks c.args.self.now.claimed.listed c.self.inside.claims.listed c.self.inside.directories
      c.in-Some.directories c.is_always_reached.result c.args.path.now c.requires.good (ap (λ (s : Scene). s.claimed.listed) c.self.view_is)
      c.in-Some.is c.self.invariant c.is_always_reached.ensures.reached;
}
