-- Actors at their places.
use Rattle.text_and_lists.proofs.Naturals.{suc_not, suc_same, zero_not}
use Rattle.job_model.specs.Attempts.{Declared, Who, actor_of, is_known, same_name}
use Rattle.job_model.specs.JobScript.{Script}
use Rattle.job_spec.specs.States.{actors, same_actor}
use Rattle.job_states.specs.Stands.{IsPlace, is_at}
use Rattle.job_states.specs.inner.Stands.{ChangesAt}
use Rattle.job_states.specs.declared.standing.Standing.{Standing}
use Rattle.s3_types.specs.declared.request.Actor.{Actor}
use Rattle.s3_types.specs.declared.request.Actor.TheVariants.{Driver, Shell}
use Rattle.std.proofs.Common.{List, None, Option, Some, ap, arith, false, get_or, length, map, nat_eq, refl, set, slice_get, subst, suc}
use Rattle.std.proofs.Common.{sym, true, true≢false, zero, ℕ, [], ◌+◌, ◌<◌, ◌∙◌, ◌∷◌, ◌≡◌}
use Rattle.std.proofs.lemmas.Bool.Decides.{nat_tests}
use Rattle.std.proofs.lemmas.List.{length-map}
use Rattle.std.proofs.lemmas.List.Quantifiers.{position-Some}
use Rattle.std.proofs.lemmas.Map.Keys.{IsDistinct-head, IsDistinct-tail}
use Rattle.std.proofs.lemmas.Option.{same_Some, slice_get-get_or, slice_get-map}
use Rattle.std.specs.List.{AllByRecursion, IsDistinct, position}
use Rattle.std.specs.Map.{keys_of, lookup}
use Rattle.std.specs.Option.{IfSome}
use Rattle.std.specs.Prelude.{is_some, option_map}

-- ---- tests

pub same_exact : (b a : Actor) → same_actor b a ≡ true → b ≡ a
same_exact b a h = grind (arith, nat_tests)

-- ---- a list of actors, in which an actor has only one place

abbrev PlacedIn : List Actor → Actor → Option ℕ → Type 0
PlacedIn xs a place = (j : ℕ) (b : Actor) → slice_get xs j ≡ Some b → same_actor b a ≡ is_at place j

-- If the actor has no place, nothing changes.
put_none : (xs : List Actor) (a : Actor) (f g : Actor → Standing) → PlacedIn xs a None → ((b : Actor) → same_actor b a ≡ false → g b ≡ f b)
    → map f xs ≡ map g xs
put_none [] a f g at off = refl
put_none (c ∷ xs) a f g at off = cc (off c (at zero c refl), put_none xs a f g (λ j. at (suc j)) off)

-- The value changes at the actor's place.
put_some : (xs : List Actor) (a : Actor) (i : ℕ) (x : Standing) (f g : Actor → Standing) → i < length xs → PlacedIn xs a (Some i) → g a ≡ x
    → ((b : Actor) → same_actor b a ≡ false → g b ≡ f b) → set (map f xs) i x ≡ map g xs
put_some [] a i x f g w at here off = absurd (omega arith)
put_some (c ∷ xs) a zero x f g w at here off = cc (
  here,
  same_exact c a (at zero c refl),
  put_none xs a f g
      (λ j b e. at (suc j) b e ∙ zero_not j) off,
)
put_some (c ∷ xs) a (suc k) x f g w at here off =
    cc (off c (at zero c refl ∙ suc_not k), put_some xs a k x f g (omega arith) (λ j b e. at (suc j) b e ∙ suc_same k j) here off)

-- The actor's value is found at its place.
get_some : (xs : List Actor) (a : Actor) (i : ℕ) (f : Actor → Standing) → i < length xs → PlacedIn xs a (Some i)
    → slice_get (map f xs) i ≡ Some (f a)
get_some [] a i f w at = absurd (omega arith)
get_some (c ∷ xs) a zero f w at = ap (λ b. Some (f b)) (same_exact c a (at zero c refl))
get_some (c ∷ xs) a (suc k) f w at = get_some xs a k f (omega arith) (λ j b e. at (suc j) b e ∙ suc_same k j)

-- ---- the actors of a script

pub put_nowhere : (w : Script) (a : Actor) (x : Standing) (f g : Actor → Standing) (standings : List Standing) → IsPlace w a None
    → standings ≡ map f (actors w) → ChangesAt w a x f g → standings ≡ map g (actors w)
put_nowhere w a x f g standings place is change = is ∙ put_none (actors w) a f g place.only change.elsewhere

pub put_there : (w : Script) (a : Actor) (i : ℕ) (x : Standing) (f g : Actor → Standing) (standings : List Standing) → IsPlace w a (Some i)
    → standings ≡ map f (actors w) → ChangesAt w a x f g → set standings i x ≡ map g (actors w)
put_there w a i x f g standings place is change =
    ap (λ l. set l i x) is ∙ put_some (actors w) a i x f g place.within place.only (change.here (sym place.known)) change.elsewhere

pub found_there : (w : Script) (a : Actor) (i : ℕ) (x : Standing) (f : Actor → Standing) (standings : List Standing) → IsPlace w a (Some i)
    → standings ≡ map f (actors w) → slice_get standings i ≡ Some x → x ≡ f a
found_there w a i x f standings place is found =
    same_Some x (f a) (sym found ∙ ap (λ (l : List Standing). slice_get l i) is ∙ get_some (actors w) a i f place.within place.only)

-- An actor without a place does not belong to the job.
pub no_place : (w : Script) (a : Actor) → IsPlace w a None → is_known w.attempts a ≡ true → ⊥
no_place w a place known = true≢false (sym (place.known ∙ known))

-- ---- the place of each actor

-- The place of an attempt among the attempts, from the place of its name.
name_there : (ds : List Declared) (j : ℕ) (b : Actor) → slice_get (map (λ d. actor_of d.0) ds) j ≡ Some b → (q : Who)
    × (slice_get (keys_of ds) j ≡ Some q) × (b ≡ actor_of q)
name_there [] j b e = absurd cc
name_there (d ∷ ds) zero b e = (d.0, refl, sym (same_Some (actor_of d.0) b e))
name_there (d ∷ ds) (suc j) b e = name_there ds j b e

-- An actor is at the place that the names tell.
placed : (w : Script) (a : Actor) (place : Option ℕ) → is_some place ≡ is_known w.attempts a → IfSome place (λ i. i < length (actors w))
    → same_actor Driver a ≡ is_at place 0
    → ((j : ℕ) (q : Who) → slice_get (keys_of w.attempts) j ≡ Some q → same_actor (actor_of q) a ≡ is_at place (suc j)) → IsPlace w a place
placed w a place h g e f = grind (arith, name_there)

-- The driver has the first place.
pub driver_place : (w : Script) → IsPlace w Driver (Some 0)
driver_place w = placed w Driver (Some 0) refl (omega arith) refl (λ j q e. sym (zero_not j))

-- The shell has no place.
pub shell_place : (w : Script) → IsPlace w Shell None
shell_place w = placed w Shell None refl tt refl (λ j q e. refl)

-- Two attempts are the same actor exactly if their names are the same.
pub name_of_actor : (x y : Who) → same_actor (actor_of y) (actor_of x) ≡ same_name x y
name_of_actor x y = grind (arith, nat_tests)

each_at : (P : Who → Type 0) (ns : List Who) (j : ℕ) (q : Who) → AllByRecursion P ns → slice_get ns j ≡ Some q → P q
each_at P [] j q h e = absurd cc
each_at P (n ∷ ns) zero q h e = subst P (same_Some n q e) h.0
each_at P (n ∷ ns) (suc j) q h e = each_at P ns j q h.1 e

name_at : (p : Who) (ns : List Who) (i j : ℕ) (q r : Who) → IsDistinct same_name ns → slice_get ns i ≡ Some r → same_name p r ≡ true
    → slice_get ns j ≡ Some q → same_name p q ≡ nat_eq i j
name_at p [] i j q r d h s e = absurd cc
name_at p (n ∷ ns) zero zero q r d h s e = grind (arith, nat_tests)
name_at p (n ∷ ns) zero (suc j) q r d h s e = grind (
  arith,
  nat_tests,
  each_at (λ y. same_name n y ≡ false) ns j q
      (IsDistinct-head same_name n ns d) e,
)
name_at p (n ∷ ns) (suc i) zero q r d h s e = grind (
  arith,
  nat_tests,
  each_at (λ y. same_name n y ≡ false) ns i r
      (IsDistinct-head same_name n ns d) h,
)
name_at p (n ∷ ns) (suc i) (suc j) q r d h s e = name_at p ns i j q r (IsDistinct-tail same_name n ns d) h s e ∙ sym (suc_same i j)

pub attempt_place : (w : Script) (p : Who) (i : ℕ) (es : List Declared) → es ≡ w.attempts → Some i ≡ position (same_name p) (keys_of es)
    → true ≡ is_some (lookup (same_name p) es) → IsDistinct same_name (keys_of es) → IsPlace w (actor_of p) (Some (i + 1))
attempt_place w p i es is first found distinct =
    let place = position-Some (same_name p) (keys_of w.attempts) i p (sym (rw is at first)) in
    let low = place.0 in
    let one : i + 1 ≡ suc i = omega arith in
    placed w (actor_of p) (Some (i + 1)) (rw is at found) (omega
    (arith, low, length-map w.attempts (λ d. d.0), length-map w.attempts (λ d. actor_of d.0)))
    (sym (ap (λ k. nat_eq k zero) one ∙ suc_not i)) (λ j q e.
    name_of_actor p q ∙ name_at p (keys_of w.attempts) i j q (get_or (keys_of w.attempts) i p) (rw is at distinct)
    (slice_get-get_or (keys_of w.attempts) i p place.0) place.1 e
    ∙ sym (ap (λ k. nat_eq k (suc j)) one ∙ suc_same i j))

none_named : (p : Who) (ds : List Declared) (j : ℕ) (q : Who) → is_some (lookup (same_name p) ds) ≡ false
    → slice_get (keys_of ds) j ≡ Some q → same_name p q ≡ false
none_named p [] j q s e = absurd cc
none_named p (d ∷ ds) zero q s e = grind (arith, nat_tests)
none_named p (d ∷ ds) (suc j) q s e = none_named p ds j q (grind arith) e

pub no_attempt_place : (w : Script) (p : Who) (es : List Declared) → es ≡ w.attempts → false ≡ is_some (lookup (same_name p) es)
    → IsPlace w (actor_of p) None
no_attempt_place w p es is found = placed w (actor_of p) None (rw is at found) tt refl
    (λ j q e. name_of_actor p q ∙ none_named p w.attempts j q (sym (rw is at found)) e)

-- ---- the number of actors

pub length_actors : (w : Script) (n : ℕ) → n ≡ length w.attempts → length (actors w) ≡ n + 1
length_actors w n e = let all = length-map w.attempts (λ d. actor_of d.0) in omega arith

-- ---- the actor at a place

pub stands_at : (w : Script) (place i : ℕ) (es : List Declared) (o : Option Declared) → es ≡ w.attempts → suc i ≡ place → o ≡ slice_get es i
    → option_map (λ d. actor_of d.0) o ≡ slice_get (actors w) place
stands_at w place i es o is at found =
    ap (λ (p : Option Declared). option_map (λ d. actor_of d.0) p) (found ∙ ap (λ (l : List Declared). slice_get l i) is) ∙ sym
    (slice_get-map (λ d. actor_of d.0) w.attempts i) ∙ ap (slice_get (actors w)) at
