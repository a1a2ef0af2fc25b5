use Rattle.std.proofs.Common.{◌≡◌, ℕ, ◌-◌, ◌+◌, length, subst, ap, ◌∙◌, arith, length-append}
use Rattle.std.specs.Str.{IsCharBoundary}
use Rattle.std.proofs.lemmas.Str.{IsCharBoundary-at_seam}
use Rattle.magic_paths.proofs.cut.before_end.Goals as goal

pub range-requires-clause-end_boundary : goal.range-requires-clause-end_boundary
range-requires-clause-end_boundary c =
    let text = c.args.text.now in
    let end = c.args.end.now in
    let long : length text ≡ length c.requires.0 + length end = ap length c.requires.1 ∙ length-append c.requires.0 end in
    let front : length c.requires.0 ≡ length text - length end = omega arith in
    subst (λ (i : ℕ). IsCharBoundary text i) front (IsCharBoundary-at_seam text c.requires.0 end c.requires.1 c.utf8.end)
