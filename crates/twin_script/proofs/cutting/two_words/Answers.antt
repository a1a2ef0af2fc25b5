use Rattle.text_and_lists.proofs.Counts.{not_two}
use Rattle.text_and_lists.specs.Parts.{parts_after}
use Rattle.text_and_lists.specs.Shapes.{two}
use Rattle.std.proofs.Common.{List, ap, option_map, sym, ℕ, ◌∙◌, ◌∷◌}
use Rattle.twin_script.proofs.cutting.two_words.Goals as goal

pub returns-in-Some-after : goal.returns-in-Some-after
returns-in-Some-after c =
    let first = c.next_part.result.0.now in
    let second = c.next_part-2.result.0.now in
    not_two 32 first second c.in-Some-after.field-0.now
    ∙ sym (ap two (c.next_part.ensures.parts ∙ ap (λ o. first ∷ parts_after 32 (option_map (λ r. r.now) o)) c.in-Some.is
    ∙ ap (λ (ws : List (List ℕ)). first ∷ ws) (c.next_part-2.ensures.parts ∙ ap (λ o. second ∷ parts_after 32 (option_map (λ r. r.now) o))
    c.in-Some-after.is)))
