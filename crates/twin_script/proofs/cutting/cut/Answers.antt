use Rattle.text_and_lists.specs.Parts.{parts_after}
use Rattle.std.proofs.Common.{ap, option_map, refl, sym, ◌∙◌, ◌∷◌}
use Rattle.twin_script.proofs.CutLines.{goes_on, last_none, last_parts, none_parts, parts_here}
use Rattle.twin_script.specs.Cutting.{is_parting}
use Rattle.twin_script.proofs.cutting.cut.Goals as goal

pub returns-then-is_parting : goal.returns-then-is_parting
returns-then-is_parting c =
    let line = c.next_part.result.0.now in
    last_parts c.args.bytes.now c.split_at.result.0.now c.split_at.result.1.now line c.loop-at.at c.split_at.ensures.front
    c.split_at.ensures.back c.loop-at.invariant.so_far
    (c.next_part.ensures.parts ∙ ap (λ o. line ∷ parts_after 10 (option_map (λ r. r.now) o)) c.in_default.is)
    (sym c.is_parting.ensures ∙ c.if-is_parting.true)

pub returns-else-is_parting : goal.returns-else-is_parting
returns-else-is_parting c =
    let line = c.next_part.result.0.now in
    last_none c.args.bytes.now c.split_at.result.0.now c.split_at.result.1.now line c.loop-at.at c.split_at.ensures.front
    c.split_at.ensures.back c.loop-at.invariant.so_far
    (c.next_part.ensures.parts ∙ ap (λ o. line ∷ parts_after 10 (option_map (λ r. r.now) o)) c.in_default.is)
    (sym c.is_parting.ensures ∙ c.if-is_parting.false)

pub returns-then-is_parting-2 : goal.returns-then-is_parting-2
returns-then-is_parting-2 c =
    let line = c.next_part.result.0.now in
    parts_here c.args.bytes.now c.split_at.result.0.now c.split_at.result.1.now line c.loop-at.at c.split_at.ensures.front
    c.split_at.ensures.back c.loop-at.invariant.so_far c.in-Some.rest.now
    (c.next_part.ensures.parts ∙ ap (λ o. line ∷ parts_after 10 (option_map (λ r. r.now) o)) c.in-Some.is)
    (ap is_parting (sym c.trimmed.ensures) ∙ sym c.is_parting-in-loop-at.ensures ∙ c.if-is_parting-2.true)

pub loop-at-preserved : goal.loop-at-preserved
loop-at-preserved c =
    let line = c.next_part.result.0.now in
    let on =
    goes_on c.args.bytes.now c.split_at.result.0.now c.split_at.result.1.now line c.loop-at.at c.split_at.ensures.front
    c.split_at.ensures.back c.loop-at.invariant.so_far c.in-Some.rest.now _ c.loop-at.invariant.within refl
    (c.next_part.ensures.parts ∙ ap (λ o. line ∷ parts_after 10 (option_map (λ r. r.now) o)) c.in-Some.is)
    (ap is_parting (sym c.trimmed.ensures) ∙ sym c.is_parting-in-loop-at.ensures ∙ c.if-is_parting-2.false) in
    record { within = on.0; so_far = on.1 }

pub returns : goal.returns
returns c = none_parts c.args.bytes.now c.loop-at.at c.loop-at-test.false c.loop-at.invariant.so_far
