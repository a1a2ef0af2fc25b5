use Rattle.durable_job.specs.declared.jobs.Jobs.TheVariants.{One}
use Rattle.s3a_top.proofs.Verdicts.{jobs_final}
use Rattle.s3a_top.specs.inner.Plays.{IsFinal}
use Rattle.s3a_top.specs.inner.Tracings.{told_alone}
use Rattle.std.proofs.Common.{subst, sym}
use Rattle.s3a_top.proofs.tracing.show_job.Goals as goal

pub shown_run-requires : goal.shown_run-requires
shown_run-requires c =
    let run = c.in-Ok.made in
    subst IsFinal (sym c.in-Ok.ensures.status) (jobs_final (One c.args.script) (told_alone run.picks run.ends))
