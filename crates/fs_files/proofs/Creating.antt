-- The making of a file, on the tree. Contracts cite none of these laws.
use Rattle.text_and_lists.proofs.Members.{in_map, none_some, same_or_other, text_here, text_other}
use Rattle.text_and_lists.specs.Members.{IsIn}
use Rattle.text_and_lists.specs.Parts.{parts_of}
use Rattle.bucket_ops.proofs.Below.{gone_in, is_in, kept_out}
use Rattle.dir_markers.specs.Markers.{created, keys_above, marker_of}
use Rattle.dir_markers.specs.declared.marker.MarkerPolicy.{MarkerPolicy}
use Rattle.dir_markers.specs.declared.marker.MarkerPolicy.TheVariants.{Delete, Keep}
use Rattle.fs_files.specs.Placed.{object_of}
use Rattle.fs_ops.proofs.Showing.{element_some}
use Rattle.fs_tree.proofs.Above.{Cut, NoSlash, above_begins, begins_above, cut, more_above, none_above}
use Rattle.fs_tree.proofs.Begins.{begins_marker, begins_trans, marker_at, marker_is}
use Rattle.fs_tree.specs.Changes.{MakesFile}
use Rattle.fs_tree.specs.Tree.{HasDir, is_marker}
use Rattle.path_keys.proofs.Keys.{some_key}
use Rattle.path_keys.proofs.Last.{front_is_key, parts_round}
use Rattle.path_keys.specs.Paths.{Path, is_key}
use Rattle.s3_types.specs.Answer.{without}
use Rattle.s3_types.specs.Names.{is_element}
use Rattle.s3_types.specs.Pages.{begins}
use Rattle.s3_types.specs.Store.{Objects}
use Rattle.std.proofs.Common.{ap, arith, inl, inr, length-append, refl, subst, sym, ◌∙◌}
use Rattle.std.proofs.lemmas.Bool.{and_parts, false≢true}
use Rattle.std.proofs.lemmas.Bool.Decides.{nat_tests}
use Rattle.std.proofs.lemmas.List.{length-map}
use Rattle.std.proofs.lemmas.List.Folds.{list_all-append}
use Rattle.std.specs.List.{list_all}
use Rattle.std.specs.Prelude.{List, Some, false, length, nat_lt, suc, true, zero, ℕ, [], ◌&&◌, ◌*◌, ◌++◌, ◌+◌, ◌<◌, ◌∷◌, ◌≡◌, ◌≤◌, ◌⊎◌}
use Rattle.std.specs.FinMap as fin

-- Holds if these are markers of directories above a path.
abbrev pub AreAbove : List ℕ → List (List ℕ) → Type 0
AreAbove k ks = (q : List ℕ) → IsIn q ks → (a : List ℕ) × (q ≡ marker_of a) × IsIn a (keys_above k)

pub created_above : (policy : MarkerPolicy) (p : Path) → AreAbove p.key (created policy p)
created_above Keep p q i = absurd i
created_above Delete p q i = let m = in_map marker_of q (keys_above p.key) i in (m.0, m.2, m.1)

module _ (k bytes : List ℕ) (ks : List (List ℕ)) (z : Objects) (plain : is_marker k ≡ false) (above : AreAbove k ks) where
  abbrev n : Objects
  n = fin.insert z k (object_of bytes)

  abbrev m : Objects
  m = without n ks

  -- no file is among them
  kept : (q : List ℕ) → is_marker q ≡ false → IsIn q ks → ⊥
  kept q f i = let a = above q i in false≢true (sym f ∙ ap is_marker a.1 ∙ marker_is a.0)

  file_stands : fin.get m k ≡ Some (object_of bytes)
  file_stands = kept_out n ks k (kept k plain) ∙ text_here z k k (object_of bytes) refl

  -- each path above the file is a directory
  dir_above : (q : List ℕ) → begins (marker_of q) k ≡ true → HasDir m q
  dir_above [] h = tt
  dir_above (x ∷ q) h = (k, h, object_of bytes, file_stands)

  dir_kept : (q : List ℕ) → HasDir z q → HasDir m q
  dir_kept [] h = tt
  dir_kept (x ∷ q) h = by (same_or_other h.0 k) (is_in h.0 ks)
    where
      -- its witness was a marker above the file
      up : (a : List ℕ) → begins (marker_of (x ∷ q)) (marker_of a) ≡ true → IsIn a (keys_above k) → (x ∷ q ≡ a)
          ⊎ (begins (marker_of (x ∷ q)) a ≡ true) → begins (marker_of (x ∷ q)) k ≡ true
      up a b i (inl e) = ap (λ v. begins (marker_of v) k) e ∙ above_begins a k i
      up a b i (inr g) = begins_trans (marker_of (x ∷ q)) a k g (begins_trans a (marker_of a) k (begins_marker a) (above_begins a k i))

      by : (h.0 ≡ k) ⊎ (h.0 ≡ k → ⊥) → IsIn h.0 ks ⊎ (IsIn h.0 ks → ⊥) → HasDir m (x ∷ q)
      by (inl e) o = dir_above (x ∷ q) (ap (begins (marker_of (x ∷ q))) (sym e) ∙ h.1)
      by (inr e) (inl i) =
          let a = above h.0 i in
          let b = ap (begins (marker_of (x ∷ q))) (sym a.1) ∙ h.1 in
          dir_above (x ∷ q) (up a.0 b a.2 (marker_at (x ∷ q) a.0 b))
      by (inr e) (inr o) = (h.0, h.1, h.2, kept_out n ks h.0 o ∙ text_other z k h.0 (object_of bytes) e ∙ h.3)

  dir_only : (q : List ℕ) → HasDir m q → HasDir z q ⊎ IsIn q (keys_above k)
  dir_only [] h = inl tt
  dir_only (x ∷ q) h = by (same_or_other h.0 k) (is_in h.0 ks)
    where
      by : (h.0 ≡ k) ⊎ (h.0 ≡ k → ⊥) → IsIn h.0 ks ⊎ (IsIn h.0 ks → ⊥) → HasDir z (x ∷ q) ⊎ IsIn (x ∷ q) (keys_above k)
      by (inl e) o = inr (begins_above (x ∷ q) k (ap (begins (marker_of (x ∷ q))) (sym e) ∙ h.1))
      by (inr e) (inl i) = absurd (none_some (gone_in n ks h.0 i) h.3)
      by (inr e) (inr o) = inl (h.0, h.1, h.2, sym (text_other z k h.0 (object_of bytes) e) ∙ sym (kept_out n ks h.0 o) ∙ h.3)

  -- the file is made in the tree, whichever markers above it are deleted
  pub makes_file : MakesFile k bytes z m
  makes_file = record {
    file = file_stands;
    files = λ q f o. kept_out n ks q (kept q f) ∙ text_other z k q (object_of bytes) o;
    above = λ q i. dir_above q (above_begins q k i);
    kept = dir_kept;
    only = dir_only;
  }

-- ---- one batch has room for the markers

not_more : (n : ℕ) → n < 1000 → nat_lt 1000 n ≡ false
not_more n h = grind (arith, nat_tests)

last_some : (p front back : List ℕ) → is_key p ≡ true → p ≡ front ++ 47 ∷ back → NoSlash back → 0 < length back
last_some p front back k e h =
    let long : length p ≡ length front + suc (length back) = ap length e ∙ length-append front (47 ∷ back) in
    let some : 0 < length p = omega (arith, long) in
    let all = sym (ap (list_all is_element) (parts_round p front back e h) ∙ list_all-append is_element (parts_of 47 front) (back ∷ [])) ∙
    (some_key p some k).0 in
    element_some back (and_parts (is_element back) true (and_parts (list_all is_element (parts_of 47 front)) (is_element back && true)
    all).1).0

more : (a f b p : ℕ) → 2 * a ≤ f → p ≡ f + suc b → 0 < b → 2 * (a + 1) ≤ p
more a f b p h e g = omega (arith, h, e, g)

-- The path of a directory above has at least two bytes less.
few_above : (n : ℕ) (p : List ℕ) → length p < n → is_key p ≡ true → 2 * length (keys_above p) ≤ length p
few_above zero p l k = absurd (omega (arith, l))
few_above (suc n) p l k = by (cut p) (λ front. few_above n front)
  where
    by : Cut p → ((front : List ℕ) → length front < n → is_key front ≡ true → 2 * length (keys_above front) ≤ length front)
        → 2 * length (keys_above p) ≤ length p
    by (inl h) ih = let e = ap length (none_above p h) in omega (arith, e)
    by (inr c) ih =
        let long : length p ≡ length c.0 + suc (length c.1) = ap length c.2 ∙ length-append c.0 (47 ∷ c.1) in
        let one = last_some p c.0 c.1 k c.2 c.3 in
        let less : length c.0 < n = omega (arith, long, l) in
        let e = ap length (more_above p c.0 c.1 c.2 c.3) ∙ length-append (keys_above c.0) (c.0 ∷ []) in
        subst (λ v. 2 * v ≤ length p) (sym e) (more (length (keys_above c.0)) (length c.0) (length c.1) (length p)
        (ih c.0 less (front_is_key p c.0 c.1 k c.2 c.3)) long one)

key_long : (p : List ℕ) → is_key p ≡ true → length p ≤ 1023
key_long [] k = omega arith
key_long (x ∷ p) k = (some_key (x ∷ p) (omega arith) k).1

pub few_created : (policy : MarkerPolicy) (p : Path) → is_key p.key ≡ true → nat_lt 1000 (length (created policy p)) ≡ false
few_created Keep p k = refl
few_created Delete p k =
    ap (nat_lt 1000) (length-map (keys_above p.key) marker_of)
    ∙ not_more (length (keys_above p.key)) (omega (arith, few_above (suc (length p.key)) p.key (omega arith) k, key_long p.key k))
