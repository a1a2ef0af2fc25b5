use Rattle.text_and_lists.proofs.Lists.{both_written}
use Rattle.job_spec.specs.States.{past}
use Rattle.std.proofs.lemmas.Result.{on_ok_weaker}
use Rattle.job_report.proofs.lines.write_actors.Goals as goal

pub returns : goal.returns
returns c =
    let p = past c.args.script.now c.args.ends.now in
    let stands = c.in_ok-states.ensures in
    on_ok_weaker c.write_attempts.result (λ e. both_written _ _ _ _ _ (c.in_ok-write_driver.ensures p stands) e)
    (c.write_attempts.ensures p stands)
