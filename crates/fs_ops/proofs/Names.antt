-- The keys of paths and of the directories above them, and the rests of texts after a prefix.
use Rattle.text_and_lists.proofs.Pieces.{one_part}
use Rattle.text_and_lists.specs.Parts.{is_other, parts_of}
use Rattle.dir_markers.proofs.Above.{front_some}
use Rattle.dir_markers.specs.Markers.{keys_above, marker_of}
use Rattle.fs_ops.specs.Places.{key_if, prefix_of}
use Rattle.fs_ops.specs.code.List.{rest_of}
use Rattle.fs_tree.proofs.Above.{more_above, none_above}
use Rattle.fs_tree.specs.Changes.{last_of, marker_if, own_name}
use Rattle.path_keys.proofs.Beneath.{key_path_from}
use Rattle.path_keys.proofs.Keys.{some_key}
use Rattle.path_keys.proofs.Last.{front_is_key, parts_round}
use Rattle.path_keys.specs.Paths.{is_key}
use Rattle.s3_types.specs.Names.{is_key_path}
use Rattle.std.proofs.Common.{Bool, Bor, IfOk, List, None, Option, Result, Some, ap, append_assoc, arith, drop, false, if◌then◌else◌}
use Rattle.std.proofs.Common.{length, nat_eq, option_map, refl, subst, sym, true, ℕ, [], ◌++◌, ◌<◌, ◌==◌, ◌∙◌, ◌∷◌, ◌≡◌}
use Rattle.std.proofs.lemmas.Bool.Decides.{Decides-eqb}
use Rattle.std.proofs.lemmas.List.{append-nil}
use Rattle.std.proofs.lemmas.Slice.Eq.{starts_is}
use Rattle.std.specs.List.{list_all, starts_with}
use Rattle.std.specs.Option.{MatchOption}
use Rattle.std.specs.Str.Pattern.{FindsTextPrefix, StripsPrefix}

-- A path that is not the root.
pub record IsPlace (key : List ℕ) : Type 0 where
  pub some : 0 < length key
  pub own : key_if key ≡ Some key
  pub marked : marker_if key ≡ Some (marker_of key)

pub is_place : (key : List ℕ) (b : Bool) → b ≡ (length key == 0) → b ≡ false → IsPlace key
is_place key b h g = grind arith

-- Its key is valid as an object's.
pub path_key : (key : List ℕ) → 0 < length key → is_key key ≡ true → is_key_path key ≡ true
path_key key some k = let is = some_key key some k in key_path_from key is.0 (omega (arith, is.1))

-- ---- the directories above

pub none_more : (key : List ℕ) (found : List (List ℕ)) → list_all (is_other 47) key ≡ true → found ≡ found ++ keys_above key
none_more key found h = sym (ap (λ (l : List (List ℕ)). found ++ l) (none_above key h) ∙ append-nil found)

pub one_more : (key front back m : List ℕ) (found first : List (List ℕ)) → key ≡ front ++ 47 ∷ back → list_all (is_other 47) back ≡ true
    → first ≡ found ++ keys_above front → m ≡ front
    → first ++ m ∷ [] ≡ found ++ keys_above key
one_more key front back m found first e h f k =
    ap (λ (l : List (List ℕ)). l ++ m ∷ []) f
    ∙ (ap (λ (x : List ℕ). (found ++ keys_above front) ++ x ∷ []) k
    ∙ (append_assoc found (keys_above front) (front ∷ [])
    ∙ ap (λ (l : List (List ℕ)). found ++ l) (sym (more_above key front back e h))))

-- The key of each of them is valid as an object's.
pub front_key : (key front back : List ℕ) → is_key key ≡ true → key ≡ front ++ 47 ∷ back → list_all (is_other 47) back ≡ true
    → is_key_path front ≡ true
front_key key front back k e h = path_key front (front_some key front back k e) (front_is_key key front back k e h)

-- What the code stores of a path that is not the root.
pub kept_as : (path text key marker : List ℕ) → IsPlace path → is_key path ≡ true → text ≡ path → key ≡ text → marker ≡ marker_of path
    → (Some key ≡ key_if text) × (Some marker ≡ marker_if text) × (is_key text ≡ true)
kept_as path text key marker h k e f g = (
  ap Some (f ∙ e) ∙ sym (ap key_if e ∙ h.own),
  ap Some g ∙ sym (ap marker_if e ∙ h.marked),
  ap
      is_key e ∙ k,
)

-- The prefix of the keys below a path is its marker.
pub prefix_marked : (p m : List ℕ) → Some m ≡ marker_if p → m ≡ prefix_of p
prefix_marked p m h = grind arith

pub prefix_root : (p : List ℕ) → None ≡ marker_if p → p ≡ prefix_of p
prefix_root p h = grind arith

-- ---- the last element

pub last_end : (ps : List (List ℕ)) (p : List ℕ) → last_of (ps ++ p ∷ []) ≡ p
last_end (q ∷ r ∷ ps) p = last_end (r ∷ ps) p
last_end _ p = refl

pub at_end : {E X : Type 0} (r : Result X E) (a b : X) → IfOk r (λ n. n ≡ a) → a ≡ b → IfOk r (λ n. n ≡ b)
at_end r a b h e = subst (λ a. IfOk r (λ n. n ≡ a)) e h

pub last_of_cut : {E : Type 0} (r : Result (List ℕ) E) (key front back : List ℕ) → key ≡ front ++ 47 ∷ back
    → list_all (is_other 47) back ≡ true → IfOk r (λ n. n ≡ back) → IfOk r (λ n. n ≡ own_name key)
last_of_cut r key front back e h k = at_end r back (own_name key) k (sym
    (ap last_of (parts_round key front back e h) ∙ last_end (parts_of 47 front) back))

pub last_of_none : {E : Type 0} (r : Result (List ℕ) E) (key : List ℕ) → list_all (is_other 47) key ≡ true → IfOk r (λ n. n ≡ key)
    → IfOk r (λ n. n ≡ own_name key)
last_of_none r key h k = at_end r key (own_name key) k (sym (ap last_of (one_part 47 key h)))

-- ---- the rest of a text after a prefix

pub rest_found : (q t : List ℕ) (r : Option (Bor (List ℕ)))
    → MatchOption r (FindsTextPrefix q t None) (λ x. StripsPrefix (FindsTextPrefix q) t x.now) → option_map (λ r. r.now) r ≡ rest_of q t
rest_found q t None h = by (starts_with nat_eq t q) refl
  where
    by : (b : Bool) → starts_with nat_eq t q ≡ b → None ≡ (if starts_with nat_eq t q then Some (drop (length q) t) else None)
    by true e = absurd (h (drop (length q) t) ((starts_is Decides-eqb t q (starts_with nat_eq t q) refl).0 e))
    by false e = sym (ap (λ b. if b then Some (drop (length q) t) else None) e)
rest_found q t (Some x) h =
    let begins = (starts_is Decides-eqb t q (starts_with nat_eq t q) refl).1 (drop h.0 t) h.1.1 in
    sym (ap (λ b. if b then Some (drop (length q) t) else None) begins ∙ ap (λ n. Some (drop n t)) (sym h.1.0) ∙ ap Some (sym h.2))
