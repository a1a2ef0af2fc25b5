use Rattle.text_and_lists.proofs.Counts.{not_at_most_one}
use Rattle.text_and_lists.specs.Shapes.{at_most_one as the_one}
use Rattle.text_and_lists.specs.Words.{words_after}
use Rattle.std.proofs.Common.{ap, option_map, sym, ◌∙◌, ◌∷◌}
use Rattle.text_and_lists.proofs.shapes.at_most_one.Goals as goal

pub returns-in_default-Some : goal.returns-in_default-Some
returns-in_default-Some c =
    rw c.in-Some.is (not_at_most_one c.next_field.result.0.now c.in_default-Some.field-0-1.now ∙ sym
    (ap the_one (c.next_field.ensures.parts ∙ ap (λ o. c.next_field.result.0.now ∷ words_after (option_map (λ r. r.now) o))
    c.in_default-Some.is-1)))
