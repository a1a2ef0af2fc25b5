-- What a change of objects does to what readers see, and to the success marker.
use Rattle.std.proofs.Common.{Bool, List, None, Option, Some, [], ap, arith, cond, drop, false, inl, inr, length, refl, subst, sym, true, ℕ}
use Rattle.std.proofs.Common.{◌++◌, ◌<◌, ◌∙◌, ◌∷◌, ◌≡◌, ◌||◌}
use Rattle.std.proofs.lemmas.Bool.{false≢true}
use Rattle.std.proofs.lemmas.Bool.Decides.{Decides-eqb}
use Rattle.std.proofs.lemmas.List.{append_assoc}
use Rattle.std.proofs.lemmas.List.Elements.{Contains-append_cases, Contains-append_left, Contains-append_right, Contains-push}
use Rattle.std.proofs.lemmas.List.Elements.{Contains-push_cases}
use Rattle.std.proofs.lemmas.List.Folds.{Any-from_list_any, list_any_at}
use Rattle.std.proofs.lemmas.Slice.Eq.{bytes_eq-Decides, starts_is}
use Rattle.std.specs.List.{Contains, flat_map, list_any, starts_with}
use Rattle.std.specs.Prelude.{is_some, nat_eq, not, if◌then◌else◌, get_or, ◌&&◌}
use Rattle.std.specs.Str.{bytes_eq}
use Rattle.text_and_lists.proofs.Lists.{drop_front}
use Rattle.soundness.specs.Paths.{is_visible}
use Rattle.judging.proofs.Owned.{either}
use Rattle.path_keys.specs.Paths.{Path, below, relative_in}
use Rattle.audit_claims.specs.Claims.{Tags}
use Rattle.audit_model.specs.Answers.{seen_path, seen_paths, visible_in}
use Rattle.audit_model.specs.Moments.{shown_of}
use Rattle.audit_model.specs.Recorded.{is_marker, marker_key}
use Rattle.audit_objects.specs.Objects.{Objects, delete, put, same_place}
use Rattle.audit_laws.specs.LineByLine.{MarkerLaws, SeenLaws}

-- ---- lists

pub none_in : {A : Type 0} (x : A) → Contains [] x → ⊥
none_in x c = omega (arith, c.1)

pub one_of : {A : Type 0} (x y : A) → Contains (x ∷ []) y → x ≡ y
one_of x y c = elim (Contains-push_cases [] x y c) [ inl i ↦ absurd (none_in y i) | inr e ↦ e ]

from_flat_map : {A B : Type 0} (f : A → List B) (xs : List A) (y : B) → Contains (flat_map f xs) y
    → (x : A) × Contains xs x × Contains (f x) y
from_flat_map f [] y c = absurd (none_in y c)
from_flat_map f (x ∷ xs) y c = elim (Contains-append_cases (f x) (flat_map f xs) y c) [
  | inl i ↦ (x, Contains-append_left (x ∷ []) xs x (Contains-push [] x), i)
  | inr i ↦ let r = from_flat_map f xs y i in (r.0, Contains-append_right (x ∷ []) xs r.0 r.1, r.2)
]

to_flat_map : {A B : Type 0} (f : A → List B) (xs : List A) (x : A) (y : B) → Contains xs x → Contains (f x) y
    → Contains (flat_map f xs) y
to_flat_map f [] x y c i = absurd (none_in x c)
to_flat_map f (z ∷ xs) x y c i = elim (Contains-append_cases (z ∷ []) xs x c) [
  | inl one ↦ Contains-append_left (f z) (flat_map f xs) y (subst (λ v. Contains (f v) y) (sym (one_of z x one)) i)
  | inr later ↦ Contains-append_right (f z) (flat_map f xs) y (to_flat_map f xs x y later i)
]

any_same : {A : Type 0} (f g : A → Bool) → ((x : A) → f x ≡ g x) → (xs : List A) → list_any f xs ≡ list_any g xs
any_same f g h [] = refl
any_same f g h (x ∷ xs) = ap (λ b. b || list_any f xs) (h x) ∙ ap (λ b. g x || b) (any_same f g h xs)

-- ---- tests

same_test : (a b : Bool) → (a ≡ true → b ≡ true) → (b ≡ true → a ≡ true) → a ≡ b
same_test true b on back = sym (on refl)
same_test false b on back = elim (either b) [ inl e ↦ back e ∙ sym e | inr e ↦ sym e ]

bytes_same : (p q : List ℕ) → bytes_eq p q ≡ true → p ≡ q
bytes_same p q h = (bytes_eq-Decides p q).0 h

bytes_true : (p q : List ℕ) → p ≡ q → bytes_eq p q ≡ true
bytes_true p q e = (bytes_eq-Decides p q).1 e

bytes_back : (p q : List ℕ) → bytes_eq p q ≡ bytes_eq q p
bytes_back p q = same_test (bytes_eq p q) (bytes_eq q p) (λ h. bytes_true q p (sym (bytes_same p q h)))
    (λ h. bytes_true p q (sym (bytes_same q p h)))

place_parts : (a b : Bool) → (a && b) ≡ true → (a ≡ true) × (b ≡ true)
place_parts true b h = (refl, h)
place_parts false b h = absurd (false≢true h)

-- Two places are the same exactly if their buckets and their keys are the same.
pub is_place : (b k c l : List ℕ) → same_place b k c l ≡ true → (b ≡ c) × (k ≡ l)
is_place b k c l h = let r = place_parts (bytes_eq b c) (bytes_eq k l) h in (bytes_same b c r.0, bytes_same k l r.1)

place_is : (b k c l : List ℕ) → b ≡ c → k ≡ l → same_place b k c l ≡ true
place_is b k c l e f = ap (λ t. t && bytes_eq k l) (bytes_true b c e) ∙ bytes_true k l f

place_back : (b k c l : List ℕ) → same_place b k c l ≡ same_place c l b k
place_back b k c l = ap (λ t. t && bytes_eq k l) (bytes_back b c) ∙ ap (λ t. bytes_eq c b && t) (bytes_back k l)

-- One of these keys of a bucket is at this place.
pub is_among : (b c l : List ℕ) (keys : List (List ℕ)) → list_any (λ k. same_place b k c l) keys ≡ true → (b ≡ c) × Contains keys l
is_among b c l keys h =
    let a = Any-from_list_any (λ k. same_place b k c l) keys h in
    let r = is_place b a.1 c l a.4 in
    (r.0, (a.0, a.2, at_key a.0 a.1 a.2 a.3 r.1))
  where
    at_key : (i : ℕ) (k : List ℕ) → i < length keys → get_or keys i k ≡ k → k ≡ l → get_or keys i l ≡ l
    at_key i k less at e = subst (λ x. get_or keys i x ≡ x) e at

among_is : (b c l : List ℕ) (keys : List (List ℕ)) → b ≡ c → Contains keys l → list_any (λ k. same_place b k c l) keys ≡ true
among_is b c l keys e i =
    list_any_at (λ k. same_place b k c l) keys i.0 l i.1 (place_is b (get_or keys i.0 l) c l e i.2)

-- ---- the path of a key

below_parts : (key p : List ℕ) → below key p ≡ below key [] ++ p
below_parts [] p = refl
below_parts (x ∷ xs) p = sym (append_assoc (x ∷ xs) (47 ∷ []) p)

relative_is : (key text p : List ℕ) → relative_in key text ≡ Some p → text ≡ below key p
relative_is key text p h = by (starts_with nat_eq text (below key [])) refl h
  where
    by : (b : Bool) → starts_with nat_eq text (below key []) ≡ b
        → (if b then Some (drop (length (below key [])) text) else None) ≡ Some p → text ≡ below key p
    by true e h =
        let split = (starts_is Decides-eqb text (below key []) (starts_with nat_eq text (below key [])) refl).0 e in
        let rest : drop (length (below key [])) text ≡ p = cc h in
        split ∙ ap (λ r. below key [] ++ r) rest ∙ sym (below_parts key p)
    by false e h = absurd (none p h)
      where
        none : {A : Type 0} (x : A) → None ≡ Some x → ⊥
        none x e = cc

relative_of_below : (key p : List ℕ) → relative_in key (below key p) ≡ Some p
relative_of_below key p =
    let text = below key p in
    let begins : starts_with nat_eq text (below key []) ≡ true =
    (starts_is Decides-eqb text (below key []) (starts_with nat_eq text (below key [])) refl).1 p (below_parts key p) in
    ap (λ b. if b then Some (drop (length (below key [])) text) else None) begins
    ∙ ap (λ t. Some (drop (length (below key [])) t)) (below_parts key p) ∙ ap Some (drop_front (below key []) p)

from_visible : (o : Option (List ℕ)) (p : List ℕ) → Contains (visible_in o) p → (o ≡ Some p) × (is_visible p ≡ true)
from_visible None p c = absurd (none_in p c)
from_visible (Some q) p c = by (is_visible q) refl c
  where
    by : (b : Bool) → is_visible q ≡ b → Contains (cond b (q ∷ []) []) p → (Some q ≡ Some p) × (is_visible p ≡ true)
    by true e c = let is = one_of q p c in (ap Some is, ap is_visible (sym is) ∙ e)
    by false e c = absurd (none_in p c)

to_visible : (o : Option (List ℕ)) (p : List ℕ) → o ≡ Some p → is_visible p ≡ true → Contains (visible_in o) p
to_visible o p e v = subst (λ x. Contains (visible_in x) p) (sym e)
    (subst (λ b. Contains (cond b (p ∷ []) []) p) (sym v) (Contains-push [] p))

module _ (dest : Path) (bucket : List ℕ) (keys : List (List ℕ)) (p : List ℕ) where
  -- Readers see files at the path, and its place is one of these.
  abbrev Here : Type 0
  Here = (is_visible p ≡ true) × (bucket ≡ dest.bucket) × Contains keys (below dest.key p)

  here : Contains (seen_paths dest bucket keys) p → Here
  here c = by (bytes_eq bucket dest.bucket) refl c
    where
      by : (b : Bool) → bytes_eq bucket dest.bucket ≡ b → Contains (cond b (flat_map (seen_path dest) keys) []) p → Here
      by true e c =
          let k = from_flat_map (seen_path dest) keys p c in
          let v = from_visible (relative_in dest.key k.0) p k.2 in
          (v.1, bytes_same bucket dest.bucket e, subst (Contains keys) (relative_is dest.key k.0 p v.0) k.1)
      by false e c = absurd (none_in p c)

  from_here : Here → Contains (seen_paths dest bucket keys) p
  from_here h = subst (λ b. Contains (cond b (flat_map (seen_path dest) keys) []) p) (sym (bytes_true bucket dest.bucket h.1))
      (to_flat_map (seen_path dest) keys (below dest.key p) p h.2
      (to_visible (relative_in dest.key (below dest.key p)) p (relative_of_below dest.key p) h.0))

-- ---- what readers see

-- At a path where readers may see a file, they see the object there.
shown_seen : (dest : Path) (objects : Objects) (p : List ℕ) (o : Option Tags) → is_visible p ≡ true
    → objects dest.bucket (below dest.key p) ≡ o → shown_of dest objects p ≡ o
shown_seen dest objects p o v e = ap (λ b. cond b (objects dest.bucket (below dest.key p)) None) v ∙ e

pub shown_same : (dest : Path) (objects others : Objects) (p : List ℕ)
    → (is_visible p ≡ true → others dest.bucket (below dest.key p) ≡ objects dest.bucket (below dest.key p))
    → shown_of dest others p ≡ shown_of dest objects p
shown_same dest objects others p h = by (is_visible p) h
  where
    by : (b : Bool) → (b ≡ true → others dest.bucket (below dest.key p) ≡ objects dest.bucket (below dest.key p))
        → cond b (others dest.bucket (below dest.key p)) None ≡ cond b (objects dest.bucket (below dest.key p)) None
    by true h = h refl
    by false h = refl

put_seen : (dest : Path) (bucket key : List ℕ) (tags : Tags) (objects : Objects) (p : List ℕ)
    → Contains (seen_paths dest bucket (key ∷ [])) p → shown_of dest (put bucket key tags objects) p ≡ Some tags
put_seen dest bucket key tags objects p c =
    let h = here dest bucket (key ∷ []) p c in
    shown_seen dest (put bucket key tags objects) p (Some tags) h.0
    (ap (λ b. cond b (Some tags) (objects dest.bucket (below dest.key p)))
    (place_is bucket key dest.bucket (below dest.key p) h.1 (one_of key (below dest.key p) h.2)))

put_other : (dest : Path) (bucket key : List ℕ) (tags : Tags) (objects : Objects) (p : List ℕ)
    → (Contains (seen_paths dest bucket (key ∷ [])) p → ⊥) → shown_of dest (put bucket key tags objects) p ≡ shown_of dest objects p
put_other dest bucket key tags objects p out = shown_same dest objects (put bucket key tags objects) p
    (λ v. by (same_place bucket key dest.bucket (below dest.key p)) refl v)
  where
    by : (b : Bool) → same_place bucket key dest.bucket (below dest.key p) ≡ b → is_visible p ≡ true
        → cond b (Some tags) (objects dest.bucket (below dest.key p)) ≡ objects dest.bucket (below dest.key p)
    by true e v =
        let r = is_place bucket key dest.bucket (below dest.key p) e in
        absurd (out (from_here dest bucket (key ∷ []) p (v, r.0, subst (Contains (key ∷ [])) r.1 (Contains-push [] key))))
    by false e v = refl

delete_seen : (dest : Path) (bucket : List ℕ) (keys : List (List ℕ)) (objects : Objects) (p : List ℕ)
    → Contains (seen_paths dest bucket keys) p → shown_of dest (delete bucket keys objects) p ≡ None
delete_seen dest bucket keys objects p c =
    let h = here dest bucket keys p c in
    shown_seen dest (delete bucket keys objects) p None h.0
    (ap (λ b. cond b None (objects dest.bucket (below dest.key p)))
    (among_is bucket dest.bucket (below dest.key p) keys h.1 h.2))

delete_other : (dest : Path) (bucket : List ℕ) (keys : List (List ℕ)) (objects : Objects) (p : List ℕ)
    → (Contains (seen_paths dest bucket keys) p → ⊥) → shown_of dest (delete bucket keys objects) p ≡ shown_of dest objects p
delete_other dest bucket keys objects p out = shown_same dest objects (delete bucket keys objects) p
    (λ v. by (list_any (λ k. same_place bucket k dest.bucket (below dest.key p)) keys) refl v)
  where
    by : (b : Bool) → list_any (λ k. same_place bucket k dest.bucket (below dest.key p)) keys ≡ b → is_visible p ≡ true
        → cond b None (objects dest.bucket (below dest.key p)) ≡ objects dest.bucket (below dest.key p)
    by true e v =
        let r = is_among bucket dest.bucket (below dest.key p) keys e in
        absurd (out (from_here dest bucket keys p (v, r.0, r.1)))
    by false e v = refl

pub seen_laws : SeenLaws
seen_laws = record {
  seen = λ dest bucket keys p. (here dest bucket keys p, from_here dest bucket keys p);
  put_seen = put_seen;
  put_other = put_other;
  delete_seen = delete_seen;
  delete_other = delete_other;
}

-- ---- the success marker

some_or : (a b : Bool) (tags : Tags) (o : Option Tags) → a ≡ b → is_some (cond a (Some tags) o) ≡ (b || is_some o)
some_or true b tags o e = ap (λ t. t || is_some o) e
some_or false b tags o e = ap (λ t. t || is_some o) e

none_and : (a b : Bool) (o : Option Tags) → a ≡ b → is_some (cond a None o) ≡ (not b && is_some o)
none_and true b o e = ap (λ t. not t && is_some o) e
none_and false b o e = ap (λ t. not t && is_some o) e

pub marker_laws : MarkerLaws
marker_laws = record {
  marker_put = λ dest bucket key tags objects. some_or (same_place bucket key dest.bucket (marker_key dest)) (is_marker dest bucket key)
      tags (objects dest.bucket (marker_key dest)) (place_back bucket key dest.bucket (marker_key dest));
  marker_delete = λ dest bucket keys objects. none_and (list_any (λ k. same_place bucket k dest.bucket (marker_key dest)) keys)
      (list_any (λ k. is_marker dest bucket k) keys) (objects dest.bucket (marker_key dest))
      (any_same (λ k. same_place bucket k dest.bucket (marker_key dest)) (λ k. is_marker dest bucket k)
      (λ k. place_back bucket k dest.bucket (marker_key dest)) keys);
}
