use Rattle.job_model.specs.JobScript.{Script}
use Rattle.job_report.proofs.LineLemmas.{report_is}
use Rattle.std.proofs.Common.{IfOk, ap, subst, ◌∙◌, ◌≡◌}
use Rattle.job_report.proofs.report.report_text.Goals as goal

pub returns : goal.returns
returns c =
    subst (λ t. IfOk c.new.result (λ text. text ≡ t))
    (ap (λ v. v.items) c.into_bytes.ensures.value
    ∙ report_is c.args.script.now _ c.as_slice-ends.result.now c.args.ends.now c.args.picks.now _ c.args.due c.args.sent _ _ _ _ _
    (c.as_slice.ensures ∙ ap (λ (s : Script). s.events) c.script.view_is) c.as_slice-ends.ensures c.as_slice-2.ensures
    c.new-text.ensures.bytes c.in_ok-write_events.ensures c.in_ok-write_picks.ensures c.in_ok-write_actors.ensures
    c.in_ok-write_closing.ensures)
    c.new.ensures
