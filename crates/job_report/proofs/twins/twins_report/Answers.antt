use Rattle.job_report.proofs.Whole.{report_is}
use Rattle.job_report.specs.TwinText.{told_of}
use Rattle.std.proofs.Common.{IfOk, ap, subst, ◌∙◌, ◌≡◌}
use Rattle.job_report.proofs.twins.twins_report.Goals as goal

pub returns : goal.returns
returns c =
    let is =
    report_is c.args.due c.args.sent c.args.order.now (told_of c.args.first) (told_of c.args.second) _ _ _ _ _ _ _ c.new-text.ensures.bytes
    c.in_ok-write_turns.ensures c.in_ok-write_side_picks.ensures c.in_ok-write_side_picks-2.ensures
    c.in_ok-write_side_actors.ensures c.in_ok-write_side_actors-2.ensures c.in_ok-write_closing.ensures in
    record { text = subst (λ t. IfOk c.new.result (λ text. text ≡ t)) (ap (λ v. v.items) c.into_bytes.ensures.value ∙ is) c.new.ensures }
