use Rattle.text_and_lists.proofs.Pieces.{one_part, others_from_bytes}
use Rattle.text_and_lists.proofs.Split.{part_from}
use Rattle.text_and_lists.specs.Parts.{parts_of}
use Rattle.std.proofs.Common.{None, Some, ap, arith, [], ◌∙◌}
use Rattle.std.proofs.lemmas.Str.Pattern.{split_parts}
use Rattle.path_keys.proofs.split.first_element.Goals as goal

pub returns-in-Some-clause-parts : goal.returns-in-Some-clause-parts
returns-in-Some-clause-parts c =
    let round = split_parts 47 c.args.text.now (Some (c.in-Some.front, c.in-Some.behind)) c.in-Some.ensures.cases (omega arith) in
    ap (parts_of 47) round.0 ∙ part_from 47 [] c.in-Some.front.now c.in-Some.behind.now (others_from_bytes 47 c.in-Some.front.now round.1)

pub returns-in-Some-clause-whole : goal.returns-in-Some-clause-whole
returns-in-Some-clause-whole c = (split_parts 47 c.args.text.now (Some (c.in-Some.front, c.in-Some.behind)) c.in-Some.ensures.cases
    (omega arith)).0

pub returns-in-None-clause-parts : goal.returns-in-None-clause-parts
returns-in-None-clause-parts c =
    let none = split_parts 47 c.args.text.now None c.in-None.ensures.cases (omega arith) in
    one_part 47 c.args.text.now (others_from_bytes 47 c.args.text.now none)
