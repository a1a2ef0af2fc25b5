use Rattle.s3_types.specs.Names.{is_key_path}
use Rattle.std.proofs.Common.{ap, sym, true, ◌&&◌, ◌∙◌, ◌≡◌}
use Rattle.std.proofs.lemmas.Str.{is_utf8-from_IsUtf8}
use Rattle.std.specs.Str.{is_utf8}
use Rattle.journal_log.proofs.images.key.Goals as goal

pub returns : goal.returns
returns c =
    let k = c.args.key.now in
    let utf8 : is_utf8 k ≡ true = ap is_utf8 (sym (c.as_str.ensures ∙ c.as_text.ensures.text)) ∙ is_utf8-from_IsUtf8 c.as_str.result.now
    c.as_str.utf8 in
    ap (λ b. b && is_key_path k) utf8 ∙ c.as_text.ensures.key
