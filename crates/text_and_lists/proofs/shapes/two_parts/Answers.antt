use Rattle.text_and_lists.proofs.Counts.{not_two}
use Rattle.text_and_lists.specs.Parts.{parts_after}
use Rattle.text_and_lists.specs.Shapes.{two as the_two}
use Rattle.std.proofs.Common.{List, ap, option_map, sym, ℕ, ◌∙◌, ◌∷◌}
use Rattle.text_and_lists.proofs.shapes.two_parts.Goals as goal

pub returns-in_default-Some : goal.returns-in_default-Some
returns-in_default-Some c =
    let s = c.args.separator in
    let a = c.next_field.result.0.now in
    not_two s a c.next_field-2.result.0.now c.in_default-Some.field-0-1.now
    ∙ sym (ap the_two (c.next_field.ensures.parts
    ∙ ap (λ o. a ∷ parts_after s (option_map (λ r. r.now) o)) c.in-Some.is
    ∙ ap (λ (ws : List (List ℕ)). a ∷ ws) (c.next_field-2.ensures.parts ∙ ap (λ o. c.next_field-2.result.0.now ∷ parts_after s
    (option_map (λ r. r.now) o)) c.in_default-Some.is-1)))
