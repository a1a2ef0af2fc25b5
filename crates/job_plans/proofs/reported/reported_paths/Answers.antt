use Rattle.std.proofs.Common.{◌∙◌}
use Rattle.job_plans.proofs.Reports.{paths_same, paths_more}
use Rattle.job_plans.proofs.reported.reported_paths.Goals.{then-is_reported+in-Ok, else-is_reported}
use Rattle.job_plans.proofs.reported.reported_paths.Goals as goal

pub loop-place-preserved : goal.loop-place-preserved
loop-place-preserved c = elim c.if-is_reported.branch [
  | then-is_reported+in-Ok w ↦
      let a = w.attempt_at.result in
      w.paths-is ∙ w.in-Ok.ensures
      ∙ paths_more _ c.args.script.now c.args.reported.now c.loop-place.place (a.0.now, a.1.now) c.loop-place.paths c.script.view_is
      w.attempt_at.ensures.here w.attempt_at.ensures.found w.if-is_reported.true c.loop-place.invariant
  | else-is_reported w ↦ w.paths-is ∙ c.loop-place.invariant ∙ paths_same c.args.script.now c.args.reported.now c.loop-place.place
      w.if-is_reported.false
]
