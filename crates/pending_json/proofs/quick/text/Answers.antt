use Rattle.pending_json.proofs.Candidates.{copied_text}
use Rattle.std.proofs.Common.{IfSome, List, Option, ap, subst, sym, true, ℕ, ◌∙◌, ◌≡◌}
use Rattle.std.proofs.lemmas.Str.{is_utf8-from_IsUtf8}
use Rattle.std.specs.Str.{is_utf8}
use Rattle.pending_json.proofs.quick.text.Goals as goal

pub returns-in-Ok : goal.returns-in-Ok
returns-in-Ok c = subst (λ (o : Option (List ℕ)). IfSome o (λ text. is_utf8 text ≡ true)) (sym c.ok.ensures.value)
    (copied_text c.copied.result _ c.copied.ensures (ap is_utf8 c.in-Ok.ensures.cases.0 ∙ is_utf8-from_IsUtf8 c.args.bytes.now
    c.in-Ok.ensures.cases.1))
