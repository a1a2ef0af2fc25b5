use Rattle.fs_ops.proofs.Names.{front_key, none_more, one_more}
use Rattle.path_keys.proofs.Last.{cut_last, front_is_key, no_slash}
use Rattle.s3_types.specs.Names.{is_key_path}
use Rattle.std.proofs.Common.{OnOk, Result, ap, arith, length, length-append, ◌∙◌, ◌∷◌, ◌≡◌}
use Rattle.fs_ops.proofs.above.+add_above.Goals as goal

pub returns-in_default : goal.returns-in_default
returns-in_default t c = none_more c.args.key.now c.args.keys.now (no_slash c.args.key.now c.in_default.ensures.cases)

pub add_above-requires : goal.add_above-requires
add_above-requires t c =
    let cut = cut_last c.args.key.now c.in-Some.front.now c.in-Some.field-0-1.now c.in-Some.ensures.cases in (
      omega (arith, c.requires.1.0, ap length cut.0, length-append c.in-Some.front.now (47 ∷ c.in-Some.field-0-1.now)),
      front_is_key
          c.args.key.now c.in-Some.front.now c.in-Some.field-0-1.now c.requires.1.1 cut.0 cut.1,
    )

pub new-requires : goal.new-requires
new-requires t c =
    let cut = cut_last c.args.key.now c.in-Some.front.now c.in-Some.field-0-1.now c.in-Some.ensures.cases in
    ap is_key_path c.in_ok-copied.ensures ∙ front_key c.args.key.now c.in-Some.front.now c.in-Some.field-0-1.now c.requires.1.1 cut.0 cut.1

pub returns : goal.returns
returns t c =
    let cut = cut_last c.args.key.now c.in-Some.front.now c.in-Some.field-0-1.now c.in-Some.ensures.cases in
    pushed c.push.new.self c.push.result (one_more c.args.key.now c.in-Some.front.now c.in-Some.field-0-1.now c.new.result c.args.keys.now
    c.add_above.new.keys cut.0 cut.1 c.in_ok-add_above.ensures (c.new.ensures ∙ c.in_ok-copied.ensures)) c.push.ensures.ok
  where
    pushed : {E A : Type 0} {x z : A} (y : A) (r : Result (Unit {0}) E) → x ≡ z → OnOk r (y ≡ x) → OnOk r (y ≡ z)
    pushed y r h g = grind arith
