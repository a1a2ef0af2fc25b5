use Rattle.job_actor.specs.Reports.{report_dirs}
use Rattle.job_plans.specs.Reported.{those}
use Rattle.job_run.proofs.Reported.{all_count, partitions_are}
use Rattle.std.proofs.Common.{ap, length, ◌∙◌}
use Rattle.job_run.proofs.body.Body.reported_dirs.Goals as goal

pub reported_partitions-requires : goal.reported_partitions-requires
reported_partitions-requires g c = let b = c.args.self.now in ap length c.as_slice.ensures.value ∙ all_count b.side.script b.side.states _
    c.in_ok-flags.ensures

pub returns : goal.returns
returns g c =
    let w = c.args.self.now.side.script in
    partitions_are c.args.self.now.side.shares c.if-not-self.false w c.args.self.now.side.states _ _ c.in_ok-flags.ensures
    (c.in_ok-dirs.ensures ∙ ap (λ f. report_dirs w (those w.attempts f)) c.as_slice.ensures.value)
