-- The actors of a legal script are all different, each at one place.
use Rattle.text_and_lists.proofs.Members.{false_true, nat_true, none_some, some_is}
use Rattle.text_and_lists.proofs.Options.{end_of}
use Rattle.job_model.specs.Attempts.{Declared, Who, actor_of, declares, same_name}
use Rattle.job_model.specs.JobScript.{Script}
use Rattle.job_model.specs.Legal.{AreAttempts, IsLegal}
use Rattle.job_spec.specs.States.{actors}
use Rattle.job_spec.specs.Turns.{is_own}
use Rattle.s3_types.specs.declared.request.Actor.{Actor}
use Rattle.s3_types.specs.declared.request.Actor.TheVariants.{Driver}
use Rattle.std.proofs.Common.{Bool, List, None, Some, ap, arith, cond, false, length, map, nat_eq, refl, slice_get, subst, suc, sym, true}
use Rattle.std.proofs.Common.{zero, ℕ, [], ◌&&◌, ◌++◌, ◌<◌, ◌||◌, ◌∙◌, ◌∷◌, ◌≡◌}
use Rattle.std.proofs.lemmas.Bool.{or_parts}
use Rattle.std.proofs.lemmas.Option.{slice_get-map}
use Rattle.std.specs.Map.{lookup}
use Rattle.std.specs.Prelude.{is_some, option_map}

-- ---- lists

pub there : {X : Type 0} (xs : List X) (i : ℕ) → i < length xs → (x : X) × (slice_get xs i ≡ Some x)
there [] i h = absurd (omega arith)
there (x ∷ xs) zero h = (x, refl)
there (x ∷ xs) (suc i) h = there xs i (omega arith)

pub get_map : {X Y : Type 0} (f : X → Y) (xs : List X) (i : ℕ) (x : X) → slice_get xs i ≡ Some x → slice_get (map f xs) i ≡ Some (f x)
get_map f xs i x e = slice_get-map f xs i ∙ ap (option_map f) e

pub map_get : {X Y : Type 0} (f : X → Y) (xs : List X) (i : ℕ) (y : Y) → slice_get (map f xs) i ≡ Some y → (x : X)
    × (slice_get xs i ≡ Some x) × (f x ≡ y)
map_get f xs i y e = end_of f (slice_get xs i) y (sym (slice_get-map f xs i) ∙ e)

pub map_none : {X Y : Type 0} (f : X → Y) (xs : List X) (i : ℕ) → slice_get xs i ≡ None → slice_get (map f xs) i ≡ None
map_none f xs i e = slice_get-map f xs i ∙ ap (option_map f) e

-- ---- names

found_append : (p : Who → Bool) (xs ys : List Declared) → is_some (lookup p (xs ++ ys)) ≡ (is_some (lookup p xs) || is_some (lookup p ys))
found_append p [] ys = refl
found_append p (x ∷ xs) ys =
    elim (p x.0) as (λ b. is_some (cond b (Some x.1) (lookup p (xs ++ ys))) ≡
    (is_some (cond b (Some x.1) (lookup p xs)) || is_some (lookup p ys))) [
      | true ↦ refl
      | false ↦ found_append p xs ys
    ]

-- A later attempt has another name than each earlier one.
unnamed : (tasks : ℕ) (before all : List Declared) → AreAttempts tasks before all → (k : ℕ) (d : Declared) → slice_get all k ≡ Some d
    → declares before d.0 ≡ false
unnamed tasks before [] h k d e = absurd (none_some refl e)
unnamed tasks before (a ∷ more) h zero d e = subst (λ (x : Declared). declares before x.0 ≡ false) (some_is e) h.2
unnamed tasks before (a ∷ more) h (suc k) d e = (or_parts _ _ (sym (found_append (same_name d.0) before (a ∷ [])) ∙ unnamed tasks
    (before ++ a ∷ []) more h.4 k d e)).0

one_name : (x y : Who) → actor_of x ≡ actor_of y → same_name x y ≡ true
one_name x y e =
    let t : x.task ≡ y.task = cc in
    let n : x.attempt ≡ y.attempt = cc in
    ap (λ b. b && nat_eq x.attempt y.attempt) (nat_true x.task y.task t) ∙ nat_true x.attempt y.attempt n

later_other : (tasks : ℕ) (before : List Declared) (a : Declared) (more : List Declared) → AreAttempts tasks (before ++ a ∷ []) more
    → (k : ℕ) (d : Declared)
    → slice_get more k ≡ Some d → actor_of d.0 ≡ actor_of a.0 → ⊥
later_other tasks before a more h k d e s =
    let last = (or_parts (is_some (lookup (same_name d.0) before)) _ (sym (found_append (same_name d.0) before (a ∷ [])) ∙ unnamed tasks
    (before ++ a ∷ []) more h k d e)).1 in
    false_true last (ap (λ b. is_some (cond b (Some a.1) None)) (one_name d.0 a.0 s))

names_apart : (tasks : ℕ) (before all : List Declared) → AreAttempts tasks before all → (i j : ℕ) (d e : Declared)
    → slice_get all i ≡ Some d → slice_get all j ≡ Some e → actor_of d.0 ≡ actor_of e.0 → i ≡ j
names_apart tasks before [] h i j d e p q s = absurd (none_some refl p)
names_apart tasks before (a ∷ more) h zero zero d e p q s = refl
names_apart tasks before (a ∷ more) h zero (suc j) d e p q s = absurd (later_other tasks before a more h.4 j e q
    (sym s ∙ ap (λ (x : Declared). actor_of x.0) (sym (some_is p))))
names_apart tasks before (a ∷ more) h (suc i) zero d e p q s = absurd (later_other tasks before a more h.4 i d p
    (s ∙ ap (λ (x : Declared). actor_of x.0) (sym (some_is q))))
names_apart tasks before (a ∷ more) h (suc i) (suc j) d e p q s = ap (λ (n : ℕ). suc n)
    (names_apart tasks (before ++ a ∷ []) more h.4 i j d e p q s)

-- ---- places

-- At each place after the driver's there is an attempt.
pub attempt_at : (w : Script) (i : ℕ) (a : Actor) → slice_get (actors w) (suc i) ≡ Some a → (d : Declared)
    × (slice_get w.attempts i ≡ Some d) × (actor_of d.0 ≡ a)
attempt_at w i a e = map_get (λ d. actor_of d.0) w.attempts i a e

pub one_place : (w : Script) → IsLegal w → (p q : ℕ) (a : Actor) → slice_get (actors w) p ≡ Some a → slice_get (actors w) q ≡ Some a → p ≡ q
one_place w j zero zero a e f = refl
one_place w j zero (suc q) a e f = let d = attempt_at w q a f in let s : Driver ≡ actor_of d.0.0 = some_is e ∙ sym d.2 in absurd cc
one_place w j (suc p) zero a e f = let d = attempt_at w p a e in let s : Driver ≡ actor_of d.0.0 = some_is f ∙ sym d.2 in absurd cc
one_place w j (suc p) (suc q) a e f =
    let d = attempt_at w p a e in
    let n = attempt_at w q a f in
    ap (λ (n : ℕ). suc n) (names_apart w.tasks [] w.attempts j.attempts p q d.0 n.0 d.1 n.1 (d.2 ∙ sym n.2))

pub apart : (w : Script) → IsLegal w → (p q : ℕ) (a b : Actor) → (q ≡ p → ⊥) → slice_get (actors w) p ≡ Some a
    → slice_get (actors w) q ≡ Some b → b ≡ a → ⊥
apart w j p q a b ne e f s = ne (one_place w j q p a (f ∙ ap Some s) e)

pub own_at : (w : Script) (p : ℕ) (a : Actor) → slice_get (actors w) p ≡ Some a → is_own a ≡ true
own_at w zero a e = ap is_own (sym (some_is e))
own_at w (suc p) a e = ap is_own (sym (attempt_at w p a e).2)

pub driver_first : (w : Script) (a : Actor) → slice_get (actors w) 0 ≡ Some a → a ≡ Driver
driver_first w a e = sym (some_is e)
