use Rattle.std.proofs.Common.{ap}
use Rattle.audit_judge.proofs.Loops.{reached_is}
use Rattle.audit_judge.specs.Scene.{Scene}
use Rattle.audit_judge.proofs.known.Known.is_reached.Goals as goal

pub returns : goal.returns
returns c = record {
  reached = reached_is c.args.self.now.tasks c.args.self.now.claimed.listed c.self.inside.claims.listed c.self.inside.directories
      c.in-Some.directories c.is_reached.result c.args.path.now c.requires.good (ap (λ (s : Scene). s.claimed.listed) c.self.view_is)
      c.in-Some.is c.self.invariant c.is_reached.ensures.reached;
}
