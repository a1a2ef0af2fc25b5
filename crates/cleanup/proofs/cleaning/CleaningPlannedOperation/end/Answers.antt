use Rattle.cleanup.proofs.Places.{not_over, over_is}
use Rattle.job_protocol.specs.AtWork.{Driving}
use Rattle.job_protocol.specs.Cleanups.{Clean, clean_over}
use Rattle.std.proofs.Common.{None, subst, sym, ◌∙◌, ◌≡◌}
use Rattle.cleanup.proofs.cleaning.CleaningPlannedOperation.end.Goals as goal

pub returns-in_default : goal.returns-in_default
returns-in_default c =
    let P : Driving Clean → Type 0 = λ v. None ≡ clean_over v.operation in
    let h = c.self.inside.held in
    subst P c.self.view_is (sym (over_is h.stage h.uploads h.sweep h.paths h.at c.self.invariant ∙ not_over h.stage c.in_default.not-Over))
