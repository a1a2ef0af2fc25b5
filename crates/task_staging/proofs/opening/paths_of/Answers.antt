use Rattle.job_model.specs.Jobs.{Task}
use Rattle.std.proofs.Common.{ap, arith, length, ◌<◌, ◌∙◌}
use Rattle.task_staging.proofs.Opened.{paths_more}
use Rattle.task_staging.proofs.opening.paths_of.Goals as goal

pub path_at-requires : goal.path_at-requires
path_at-requires c = omega (arith, c.loop-place-test.true, c.len-place-end.ensures, ap (λ (t : Task). length t.files) c.plan.view_is)

pub loop-place-preserved : goal.loop-place-preserved
loop-place-preserved c =
    let within : c.loop-place.place < length c.args.plan.now.files = omega (
      arith,
      c.loop-place-test.true,
      c.len-place-end.ensures,
      ap
          (λ (t : Task). length t.files) c.plan.view_is,
    ) in
    c.in_ok-push.ensures.ok ∙ paths_more c.args.plan.now.files c.loop-place.place within c.loop-place.paths c.in_ok-path.path
    c.loop-place.invariant c.in_ok-path.ensures
