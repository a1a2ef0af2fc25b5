-- New keys are keys.
use Rattle.text_and_lists.proofs.Bools.{all_three}
use Rattle.text_and_lists.proofs.Lists.{some_length}
use Rattle.text_and_lists.proofs.Members.{some_is}
use Rattle.dir_markers.specs.Markers.{marker_of}
use Rattle.fs_ops.proofs.Showing.{rest_is as rest_follows}
use Rattle.fs_ops.specs.code.List.{rest_of}
use Rattle.fs_rename.specs.Keys.{fitting, new_by, new_key, new_keys, with_front}
use Rattle.fs_tree.proofs.Above.{cut_elements, key_elements, marker_behind, marker_elements, marker_ends, other_end}
use Rattle.fs_tree.specs.Moves.{is_too_long}
use Rattle.fs_tree.specs.Tree.{is_marker}
use Rattle.path_keys.proofs.Beneath.{elements_append, key_path_from}
use Rattle.s3_types.specs.Names.{are_elements, is_key_path, trimmed}
use Rattle.std.proofs.Common.{Bool, Err, List, Ok, Result, Some, ap, append_assoc, arith, cond, false, length, length-append, nat_eq}
use Rattle.std.proofs.Common.{nat_lt, refl, suc, sym, true, zero, ℕ, [], ◌++◌, ◌-◌, ◌∙◌, ◌∷◌, ◌≡◌, ◌≤◌}
use Rattle.std.proofs.lemmas.Bool.{le-leb}
use Rattle.std.proofs.lemmas.Bool.Decides.{Decides-eqb}
use Rattle.std.proofs.lemmas.Slice.Eq.{starts_is}
use Rattle.std.specs.List.{slice_get}

-- ---- markers and limits

marker_got : (bs : List ℕ) (n b : ℕ) → suc n ≡ length bs → slice_get bs n ≡ Some b → nat_eq b 47 ≡ is_marker bs
marker_got (x ∷ []) zero b e h = ap (λ v. nat_eq v 47) (sym (some_is h))
marker_got (x ∷ y ∷ bs) (suc n) b e h = marker_got (y ∷ bs) n b (omega (arith, e)) h
marker_got _ _ b e h = absurd (omega (arith, e))

pub marker_last : (bs : List ℕ) (b : ℕ) → Some b ≡ slice_get bs (length bs - 1) → nat_eq b 47 ≡ is_marker bs
marker_last bs b h = marker_got bs (length bs - 1) b (some_length bs b (sym h)) (sym h)

short_by : (b : Bool) (n : ℕ) → nat_lt (cond b 1024 1023) n ≡ false → n ≤ 1024
short_by b n h = grind arith

short : (k : List ℕ) → is_too_long k ≡ false → length k ≤ 1024
short k h = short_by (is_marker k) (length k) h

-- ---- keys

pub base_key : (q : List ℕ) → are_elements q ≡ true → is_too_long q ≡ false → is_key_path q ≡ true
base_key q e f = key_path_from q e (short q f)

key_path : (t : List ℕ) → 1 ≤ length t → length t ≤ 1024 → are_elements (trimmed t) ≡ true → is_key_path t ≡ true
key_path t some most h = all_three _ _ _ (le-leb 1 (length t) some) (le-leb (length t) 1024 most) h

module _ (q front : List ℕ) (e : are_elements q ≡ true) where
  ended : (r f : List ℕ) → 47 ∷ r ≡ f ++ 47 ∷ [] → is_key_path (front ++ 47 ∷ r) ≡ true → are_elements (trimmed (q ++ 47 ∷ r)) ≡ true
  ended r [] h k = marker_elements (q ++ 47 ∷ r) q (ap (λ l. q ++ l) h) ∙ e
  ended r (y ∷ f) h k =
      let s : 47 ≡ y = cc in
      let a : 47 ∷ r ≡ (47 ∷ f) ++ 47 ∷ [] = h ∙ ap (λ y. y ∷ f ++ 47 ∷ []) (sym s) in
      let old = ap (λ l. front ++ l) a ∙ sym (append_assoc front (47 ∷ f) (47 ∷ [])) in
      let new = ap (λ l. q ++ l) a ∙ sym (append_assoc q (47 ∷ f) (47 ∷ [])) in
      let els = sym (marker_elements (front ++ 47 ∷ r) (front ++ 47 ∷ f) old) ∙ key_elements (front ++ 47 ∷ r) k in
      marker_elements (q ++ 47 ∷ r) (q ++ 47 ∷ f) new ∙ elements_append q f e (cut_elements front f els).1

  by_end : (r : List ℕ) (b : Bool) → is_marker (47 ∷ r) ≡ b → is_key_path (front ++ 47 ∷ r) ≡ true
      → are_elements (trimmed (q ++ 47 ∷ r)) ≡ true
  by_end r true i k = let w = marker_ends (47 ∷ r) i in ended r w.0 w.1 k
  by_end r false i k =
      let els = ap are_elements (other_end (front ++ 47 ∷ r) (marker_behind front 47 r ∙ i)) ∙ key_elements (front ++ 47 ∷ r) k in
      ap are_elements (sym (other_end (q ++ 47 ∷ r) (marker_behind q 47 r ∙ i))) ∙ elements_append q r e (cut_elements front r els).1

  -- the rest of a key after a `/` makes a key after other elements too, within the limit
  pub below_key : (r : List ℕ) → is_key_path (front ++ 47 ∷ r) ≡ true → is_too_long (q ++ 47 ∷ r) ≡ false → is_key_path (q ++ 47 ∷ r) ≡ true
  below_key r k f = key_path (q ++ 47 ∷ r) (let l = length-append q (47 ∷ r) in omega (arith, l)) (short (q ++ 47 ∷ r) f)
      (by_end r (is_marker (47 ∷ r)) refl k)

-- A text is the prefix and its rest.
pub rest_is : (from k r : List ℕ) → rest_of from k ≡ Some r → k ≡ from ++ r
rest_is from k r h = grind (arith, starts_is, Decides-eqb)

-- The new key of a text and a rest is the new text and this rest.
pub new_is : (from to r : List ℕ) → new_key from to (from ++ r) ≡ to ++ r
new_is from to r = ap (λ o. new_by o to (from ++ r)) (rest_follows from r)

-- The rest of a key after a marker makes a key after another path's marker, within the limit.
pub new_legal : (q from k rest prefix text : List ℕ) → are_elements q ≡ true → is_marker from ≡ true → is_key_path k ≡ true
    → rest_of from k ≡ Some rest → prefix ≡ marker_of q → text ≡ prefix ++ rest → is_too_long text ≡ false → is_key_path text ≡ true
new_legal q from k rest prefix text e m h r a b f =
    let w = marker_ends from m in
    let old : k ≡ w.0 ++ 47 ∷ rest = rest_is from k rest r ∙ ap (λ l. l ++ rest) w.1 ∙ append_assoc w.0 (47 ∷ []) rest in
    let new : text ≡ q ++ 47 ∷ rest = b ∙ ap (λ l. l ++ rest) a ∙ append_assoc q (47 ∷ []) rest in
    ap is_key_path new ∙ below_key q w.0 e rest (ap is_key_path (sym old) ∙ h) (ap is_too_long (sym new) ∙ f)

-- ---- one key after another

front_again : (new : List (List ℕ)) (q : List ℕ) (m : Result (List (List ℕ)) (List ℕ))
    → with_front new (with_front (q ∷ []) m) ≡ with_front (new ++ q ∷ []) m
front_again new q (Ok qs) = ap Ok (sym (append_assoc new (q ∷ []) qs))
front_again new q (Err k) = refl

-- A key that fits is added to the new keys so far.
pub one_more : (from to : List ℕ) (new : List (List ℕ)) (k place : List ℕ) (rest : List (List ℕ)) → fitting (new_key from to k) ≡ Some place
    → with_front new (new_keys from to (k ∷ rest)) ≡ with_front (new ++ place ∷ []) (new_keys from to rest)
one_more from to new k place rest h = grind (arith, front_again)
