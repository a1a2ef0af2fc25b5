use Rattle.std.proofs.Common.{◌∷◌, ◌++◌, [], true, subst, sym}
use Rattle.audit_judge.proofs.Steps.{follows_begun}
use Rattle.audit_judge.specs.Bench.{Bench, now}
use Rattle.audit_judge.specs.Following.{Follows}
use Rattle.audit_judge.proofs.judge.Judge.begin.Goals as goal

pub returns-clause-follows : goal.returns-clause-follows
returns-clause-follows c m f =
    subst (λ (b : Bench). Follows (record b { begun = true }) (m ++ now (record b { begun = true }) ∷ [])) (sym c.self.view_is)
    (follows_begun c.args.self.now m f c.requires.early)
