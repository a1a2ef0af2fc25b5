use Rattle.text_and_lists.specs.Parts.{parts_of}
use Rattle.path_keys.proofs.Beneath.{key_below}
use Rattle.path_keys.specs.Paths.{below, first_fault, is_key}
use Rattle.std.proofs.Common.{None, ap, arith, length, ◌∙◌, ◌≡◌, ◌≤◌}
use Rattle.path_keys.proofs.relatives.joined_key.Goals as goal

pub returns-clause-key : goal.returns-clause-key
returns-clause-key c =
    let sound : None ≡ first_fault (parts_of 47 c.args.relative.now) = cc in
    let long = ap length c.in_ok-text.ensures in
    let short : length (below c.args.key.now c.args.relative.now) ≤ 1023 = omega arith in
    ap is_key (c.in_ok-new.ensures ∙ c.in_ok-text.ensures) ∙ key_below c.args.key.now c.args.relative.now c.requires sound short
