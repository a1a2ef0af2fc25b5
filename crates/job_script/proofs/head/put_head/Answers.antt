use Rattle.job_script.proofs.PrintLines.{behind, head_is, line, no_more}
use Rattle.job_script.specs.HeadLines.{path_text, unless}
use Rattle.std.proofs.Common.{OnOk, Some, ap, decimal, refl, string_bytes, subst, ◌∙◌, ◌≡◌}
use Rattle.std.specs.Prelude.{codes, option_map}
use Rattle.job_script.proofs.head.put_head.Goals as goal

pub returns : goal.returns
returns c =
    subst (λ t. OnOk c.put_losses.result (string_bytes c.put_losses.new.out ≡ t))
    (head_is c.args.script.now _ _ _ c.script.view_is
    (behind (line _ _ (codes "job") _ _ c.in_ok-put_word.ensures (ap Some c.as_str.ensures))
    (behind (line _ _ (codes "dest") (Some (path_text c.script.inside.dest)) _ c.in_ok-put_dest.ensures refl)
    (behind (line _ _ (codes "committer") _ _ c.in_ok-put_word-2.ensures (ap Some c.committer_word.ensures))
    (behind (line _ _ (codes "tasks") _ _ c.in_ok-put_number.ensures (ap (λ n. Some (decimal n)) c.from.ensures))
    (behind (line _ _ (codes "mode") _ _ c.in_ok-put_word-3.ensures (ap Some c.mode_word.ensures))
    (behind (line _ _ (codes "unique") _ _ c.in_ok-put_word-4.ensures (ap Some c.answer_word.ensures))
    (behind (line _ _ (codes "retries") _ _ c.in_ok-put_number-2.ensures (ap (λ n. Some (decimal n)) c.from-2.ensures))
    (behind (line _ _ (codes "block") _ _ c.in_ok-put_number-3.ensures (ap (option_map decimal) c.unless.ensures))
    (behind (line _ _ (codes "lanes") _ _ c.in_ok-put_number-4.ensures (ap (option_map decimal)
    (c.unless-2.ensures ∙ ap (unless 1) c.from-3.ensures)))
    (behind (line _ _ (codes "stamp") _ _ c.in_ok-put_number-5.ensures refl) (no_more _))))))))))))
    c.put_losses.ensures
