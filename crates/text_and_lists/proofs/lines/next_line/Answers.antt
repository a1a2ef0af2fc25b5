use Rattle.text_and_lists.proofs.Cuts.{line_alone, line_before, shorter_behind}
use Rattle.text_and_lists.specs.Lines.{lines_of}
use Rattle.std.proofs.Common.{List, None, Some, ap, arith, sym, ℕ, ◌∙◌, ◌∷◌}
use Rattle.std.proofs.lemmas.Str.Pattern.{split_parts}
use Rattle.text_and_lists.proofs.lines.next_line.Goals as goal

pub returns-in-Some-clause-lines : goal.returns-in-Some-clause-lines
returns-in-Some-clause-lines c =
    let round = split_parts 10 c.args.text.now (Some (c.in-Some.line, c.in-Some.rest)) c.in-Some.ensures.cases (omega arith) in
    line_before c.args.text.now c.in-Some.line.now c.in-Some.rest.now round.0 round.1 ∙ ap (λ (l : List ℕ). l ∷ lines_of c.in-Some.rest.now)
    (sym c.trimmed.ensures)

pub returns-in-Some-clause-shorter : goal.returns-in-Some-clause-shorter
returns-in-Some-clause-shorter c =
    let round = split_parts 10 c.args.text.now (Some (c.in-Some.line, c.in-Some.rest)) c.in-Some.ensures.cases (omega arith) in
    shorter_behind 10 c.args.text.now c.in-Some.line.now c.in-Some.rest.now round.0

pub returns-in-None-clause-lines : goal.returns-in-None-clause-lines
returns-in-None-clause-lines c =
    let none = split_parts 10 c.args.text.now None c.in-None.ensures.cases (omega arith) in
    line_alone c.args.text.now c.requires none
