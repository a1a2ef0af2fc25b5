use Rattle.magic_paths.proofs.Kept.{final_is_key, final_parts, some_parts}
use Rattle.magic_paths.specs.Finals.{kept}
use Rattle.std.proofs.Common.{ap, ◌∙◌}
use Rattle.magic_paths.proofs.finals.final_parts.Goals as goal

pub returns-in-Some-kept-clause-key : goal.returns-in-Some-kept-clause-key
returns-in-Some-kept-clause-key c =
    let key = c.args.key.now in
    let front = c.in-Some.magic.front.now in
    let behind = c.in-Some-behind.behind.now in
    let rest = c.in-Some-kept.kept.now in
    let after = rw c.in-Some-behind.is at c.in-Some.ensures.behind in
    let long = rw c.in-Some-behind.is at c.in-Some.ensures.shorter in
    final_is_key key front behind rest c.requires (final_parts key front behind rest c.in-Some.ensures.front after
    c.in-Some-kept.ensures.kept) long c.in-Some-kept.ensures.most

pub returns-in-Some-kept-clause-nothing_after : goal.returns-in-Some-kept-clause-nothing_after
returns-in-Some-kept-clause-nothing_after c =
    let after = rw c.in-Some-behind.is at c.in-Some.ensures.behind in
    (λ e. absurd cc, λ both. absurd (some_parts c.in-Some-kept.kept.now (c.in-Some-kept.ensures.kept ∙ ap kept after ∙ both.1)))
