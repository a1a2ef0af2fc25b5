use Rattle.text_and_lists.specs.Lines.{lines_of}
use Rattle.text_and_lists.specs.Parts.{parts_after}
use Rattle.std.proofs.Common.{List, ap, option_map, sym, ℕ, ◌∙◌, ◌∷◌}
use Rattle.twin_script.proofs.Lines.{line_at_end, line_at_lf}
use Rattle.twin_script.proofs.cutting.next_line.Goals as goal

pub returns-in-Some-clause-lines : goal.returns-in-Some-clause-lines
returns-in-Some-clause-lines c =
    let line = c.next_part.result.0.now in
    line_at_lf c.args.bytes.now line c.in-Some.rest.now (c.next_part.ensures.parts ∙ ap
    (λ o. line ∷ parts_after 10 (option_map (λ r. r.now) o)) c.in-Some.is)
    ∙ ap (λ (l : List ℕ). l ∷ lines_of c.in-Some.rest.now) (sym c.trimmed.ensures)

pub returns-in-None-clause-lines : goal.returns-in-None-clause-lines
returns-in-None-clause-lines c =
    let line = c.next_part.result.0.now in
    line_at_end c.args.bytes.now line c.requires (c.next_part.ensures.parts ∙ ap (λ o. line ∷ parts_after 10 (option_map (λ r. r.now) o))
    c.in-None.is)
