use Rattle.job_gen.specs.Summary.{summary}
use Rattle.std.proofs.Common.{append_assoc, ◌∙◌, ◌≡◌}
use Rattle.std.proofs.lemmas.Result.{IfOk-weaker}
use Rattle.std.specs.Prelude.{string_bytes}
use Rattle.job_gen.proofs.summary.summary_text.Goals as goal

pub returns : goal.returns
unfolding summary
returns c =
    IfOk-weaker c.format.result _ (λ text. string_bytes text ≡ summary c.args.tasks c.args.files c.args.due c.args.sent c.args.picks.now
    c.args.script.now)
    (λ text h. h ∙ rw (c.from.ensures, c.from-2.ensures, c.shown_bytes-bytes.ensures) (simp append_assoc)) c.format.ensures.ok
