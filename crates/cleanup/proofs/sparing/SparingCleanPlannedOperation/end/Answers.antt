use Rattle.cleanup.proofs.SparingPlaces.{not_over, over_is}
use Rattle.job_protocol.specs.AtWork.{Driving}
use Rattle.job_protocol.specs.Sparing.{Sparing, sparing_over}
use Rattle.std.proofs.Common.{None, subst, sym, ◌∙◌, ◌≡◌}
use Rattle.cleanup.proofs.sparing.SparingCleanPlannedOperation.end.Goals as goal

pub returns-in_default : goal.returns-in_default
returns-in_default c =
    let P : Driving Sparing → Type 0 = λ v. None ≡ sparing_over v.operation in
    let h = c.self.inside.held in
    subst P c.self.view_is (sym (over_is c.self.inside.plan.committer h c.self.invariant ∙ not_over h.stage c.in_default.not-Over))
