use Rattle.std.proofs.Common.{◌≡◌, ◌∷◌, length, Result, OnOk, Ok, Err, ap, ◌∙◌, arith, length-append}
use Rattle.path_keys.proofs.Last.{cut_last, front_is_key, no_slash}
use Rattle.dir_markers.proofs.Above.{front_some, none_above, one_above}
use Rattle.dir_markers.proofs.marker.+add_above.Goals as goal

pub returns-in_default : goal.returns-in_default
returns-in_default t c = none_above c.args.key.now c.args.markers.now (no_slash c.args.key.now c.in_default.ensures.cases)

pub add_above-requires : goal.add_above-requires
add_above-requires t c =
    let cut = cut_last c.args.key.now c.in-Some.front.now c.in-Some.field-0-1.now c.in-Some.ensures.cases in (
      omega (arith, c.requires.1.0, ap length cut.0, length-append c.in-Some.front.now (47 ∷ c.in-Some.field-0-1.now)),
      front_is_key
          c.args.key.now c.in-Some.front.now c.in-Some.field-0-1.now c.requires.1.1 cut.0 cut.1,
    )

pub marker-requires-clause-some : goal.marker-requires-clause-some
marker-requires-clause-some t c =
    let cut = cut_last c.args.key.now c.in-Some.front.now c.in-Some.field-0-1.now c.in-Some.ensures.cases in
    front_some c.args.key.now c.in-Some.front.now c.in-Some.field-0-1.now c.requires.1.1 cut.0

pub marker-requires-clause-key : goal.marker-requires-clause-key
marker-requires-clause-key t c =
    let cut = cut_last c.args.key.now c.in-Some.front.now c.in-Some.field-0-1.now c.in-Some.ensures.cases in
    front_is_key c.args.key.now c.in-Some.front.now c.in-Some.field-0-1.now c.requires.1.1 cut.0 cut.1

pub returns : goal.returns
returns t c =
    let cut = cut_last c.args.key.now c.in-Some.front.now c.in-Some.field-0-1.now c.in-Some.ensures.cases in
    pushed c.push.new.self c.push.result (one_above c.args.key.now c.in-Some.front.now c.in-Some.field-0-1.now c.in_ok-marker.field-0
    c.args.markers.now c.add_above.new.markers cut.0 cut.1 c.in_ok-add_above.ensures c.in_ok-marker.ensures) c.push.ensures.ok
  where
    pushed : {E A : Type 0} {x z : A} (y : A) (r : Result (Unit {0}) E) → x ≡ z → OnOk r (y ≡ x) → OnOk r (y ≡ z)
    pushed y (Ok u) e h = h ∙ e
    pushed y (Err f) e h = tt
