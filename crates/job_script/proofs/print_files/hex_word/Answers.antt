use Rattle.std.proofs.Common.{◌≡◌, ◌∙◌, refl, sym, true≢false, ap, nat_eq, string_bytes, IfOk, subst}
use Rattle.job_script.proofs.FileBytes.{word_is}
use Rattle.job_script.proofs.print_files.hex_word.Goals as goal

pub returns : goal.returns
returns c =
    let bytes = c.args.bytes.now in
    subst (λ t. IfOk c.encode.result (λ text. string_bytes text ≡ t))
    (word_is bytes _ (λ none. true≢false (sym (c.is_empty.ensures ∙ ap (λ n. nat_eq n 0) none) ∙ c.if-is_empty.false)) refl)
    c.encode.ensures
