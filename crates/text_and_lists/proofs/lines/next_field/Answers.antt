use Rattle.text_and_lists.proofs.Cuts.{shorter_behind}
use Rattle.text_and_lists.proofs.Pieces.{one_part, others_from_bytes}
use Rattle.text_and_lists.proofs.Split.{part_from}
use Rattle.text_and_lists.specs.Parts.{parts_of}
use Rattle.std.proofs.Common.{None, Some, ap, [], ◌∙◌}
use Rattle.std.proofs.lemmas.Str.Pattern.{split_parts}
use Rattle.text_and_lists.proofs.lines.next_field.Goals as goal

pub returns-in-Some-clause-parts : goal.returns-in-Some-clause-parts
returns-in-Some-clause-parts c =
    let round = split_parts c.args.separator c.args.text.now (Some (c.in-Some.front, c.in-Some.behind)) c.in-Some.ensures.cases c.requires
    in
    ap (parts_of c.args.separator) round.0 ∙ part_from c.args.separator [] c.in-Some.front.now c.in-Some.behind.now
    (others_from_bytes c.args.separator c.in-Some.front.now round.1)

pub returns-in-Some-clause-shorter : goal.returns-in-Some-clause-shorter
returns-in-Some-clause-shorter c =
    let round = split_parts c.args.separator c.args.text.now (Some (c.in-Some.front, c.in-Some.behind)) c.in-Some.ensures.cases c.requires
    in
    shorter_behind c.args.separator c.args.text.now c.in-Some.front.now c.in-Some.behind.now round.0

pub returns-in-None-clause-parts : goal.returns-in-None-clause-parts
returns-in-None-clause-parts c =
    let none = split_parts c.args.separator c.args.text.now None c.in-None.ensures.cases c.requires in
    one_part c.args.separator c.args.text.now (others_from_bytes c.args.separator c.args.text.now none)
