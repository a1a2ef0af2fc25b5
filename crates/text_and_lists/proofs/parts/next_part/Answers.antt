use Rattle.std.proofs.Common.{◌≡◌, ◌<◌, length, drop, []}
use Rattle.text_and_lists.proofs.Split.{first_part, lone_part, none_left, not_past}
use Rattle.text_and_lists.proofs.parts.next_part.Goals as goal

pub returns-then-is_empty-clause-parts : goal.returns-then-is_empty-clause-parts
returns-then-is_empty-clause-parts c =
    let none : drop c.part_end-end.result c.args.text.now ≡ [] = none_left _ _ c.split_at.ensures.back c.is_empty.ensures c.if-is_empty.true
    in
    let e = lone_part c.args.separator c.args.text.now c.part_end-end.result none c.part_end-end.ensures.before in
    cc

pub returns-clause-parts : goal.returns-clause-parts
returns-clause-parts c =
    let lt : c.part_end-end.result < length c.args.text.now = not_past _ _ _ c.split_at.ensures.back c.is_empty.ensures c.if-is_empty.false
    in
    let e = first_part c.args.separator c.args.text.now c.part_end-end.result lt (c.part_end-end.ensures.at lt)
    c.part_end-end.ensures.before in
    cc
