-- The live uploads that are left after a page of them.
use Rattle.text_and_lists.proofs.Less.{irrefl, lt, lt_not, lt_trans}
use Rattle.text_and_lists.proofs.Members.{true_or_false}
use Rattle.text_and_lists.proofs.Tree.{map_sorted}
use Rattle.list_walk.proofs.Listing.{refs_total}
use Rattle.list_walk.specs.Walks.{last_ref}
use Rattle.s3_types.specs.Multipart.{is_behind, listed, ref_cmp, refs}
use Rattle.s3_types.specs.Pages.{begins}
use Rattle.s3_types.specs.Store.{Uploads}
use Rattle.s3_types.specs.declared.request.UploadRef.{UploadRef}
use Rattle.std.proofs.Common.{Bool, List, None, Option, Some, ap, drop, false, inl, inr, map, refl, subst, suc, sym, take, true, zero, ℕ}
use Rattle.std.proofs.Common.{[], ◌++◌, ◌∙◌, ◌∷◌, ◌≡◌}
use Rattle.std.proofs.lemmas.Map.Keys.{sorted_head, sorted_tail}
use Rattle.std.specs.List.{AllByRecursion, filter}
use Rattle.std.specs.List.Sorted.{IsStrictlySortedBy}
use Rattle.std.specs.Ordering.{is_lt}
use Rattle.std.specs.declared.cmp.Ordering.TheVariants.{Less}
use Rattle.std.specs.FinMap as fin

-- If y comes after m and z after y, z comes after m.
up : (m : Option UploadRef) → (y z : UploadRef) → is_behind m y ≡ true → lt ref_cmp y z ≡ true → is_behind m z ≡ true
up None y z h l = refl
up (Some a) y z h l = lt_trans refs_total a y z h l

-- All of these come after y.
abbrev Later : UploadRef → List UploadRef → Type 0
Later y zs = AllByRecursion (λ z. ref_cmp y z ≡ Less) zs

all_pass : (f : UploadRef → Bool) (y : UploadRef) (zs : List UploadRef) → ((z : UploadRef) → lt ref_cmp y z ≡ true → f z ≡ true)
    → Later y zs → filter f zs ≡ zs
all_pass f y [] u h = refl
all_pass f y (z ∷ zs) u h = rw (u z (ap is_lt h.0), all_pass f y zs u h.1) refl

later_first : (q f : UploadRef → Bool) (y : UploadRef) (zs : List UploadRef) (x : UploadRef) (xs : List UploadRef) → Later y zs
    → filter q (filter f zs) ≡ x ∷ xs → lt ref_cmp y x ≡ true
later_first q f y [] x xs l h = absurd (cc)
later_first q f y (z ∷ zs) x xs l h = elim (true_or_false (f z)) [
  | inr n ↦ later_first q f y zs x xs l.1 (rw n at h)
  | inl t ↦ elim (true_or_false (q z)) [
    | inr e ↦ later_first q f y zs x xs l.1 (rw (t, e) at h)
    | inl e ↦ let g : z ∷ filter q (filter f zs) ≡ x ∷ xs = rw (t, e) at h in let i : z ≡ x = cc in rw i at (ap is_lt l.0)
  ]
]

refs_behind : (q : UploadRef → Bool) (m : Option UploadRef) (ys : List UploadRef) (x : UploadRef) (xs : List UploadRef)
    → IsStrictlySortedBy ref_cmp ys → filter q (filter (is_behind m) ys) ≡ x ∷ xs → filter q (filter (is_behind (Some x)) ys) ≡ xs
refs_behind q m [] x xs s h = absurd (cc)
refs_behind q m (y ∷ ys) x xs s h = elim (true_or_false (is_behind m y)) [
  | inr n ↦ let g : filter q (filter (is_behind m) ys) ≡ x ∷ xs = rw n at h in rw (over g)
      (refs_behind q m ys x xs (sorted_tail ref_cmp y ys s) g)
  | inl t ↦ elim (true_or_false (q y)) [
    | inr e ↦ let g : filter q (filter (is_behind m) ys) ≡ x ∷ xs = rw (t, e) at h in rw (over g)
        (refs_behind q m ys x xs (sorted_tail ref_cmp y ys s) g)
    | inl e ↦
        let g : y ∷ filter q (filter (is_behind m) ys) ≡ x ∷ xs = rw (t, e) at h in
        let i : y ≡ x = cc in
        let j : filter q (filter (is_behind m) ys) ≡ xs = cc in
        subst (λ x. filter q (filter (is_behind (Some x)) (y ∷ ys)) ≡ xs) i (rw (irrefl refs_total y)
        (ap (filter q) (all_pass (is_behind (Some y)) y ys (λ z l. l) later ∙ sym (all_pass (is_behind m) y ys (λ z l. up m y z t l) later))
        ∙ j))
  ]
]
  where
    later : Later y ys
    later = sorted_head ref_cmp y ys s

    -- The upload y is skipped.
    over : filter q (filter (is_behind m) ys) ≡ x ∷ xs → lt ref_cmp x y ≡ false
    over g = lt_not refs_total y x (later_first q (is_behind m) y ys x xs later g)

pub refs_append : (a : Option UploadRef) (found rs : List UploadRef) → last_ref a (found ++ rs) ≡ last_ref (last_ref a found) rs
refs_append a [] rs = refl
refs_append a (r ∷ found) rs = refs_append (Some r) found rs

-- After a page, the others are listed.
pub behind_uploads : (p : List ℕ) (us : Uploads) (n : ℕ) (m : Option UploadRef) (l : List UploadRef) → listed p m us ≡ l
    → listed p (last_ref m (take n l)) us ≡ drop n l
behind_uploads p us zero m l h = h
behind_uploads p us (suc n) m [] h = h
behind_uploads p us (suc n) m (x ∷ xs) h = behind_uploads p us n (Some x) xs (refs_behind (λ r. begins p r.key) m
    (map (λ e. e.0) (fin.entries (refs us))) x xs (map_sorted ref_cmp (refs us)) h)
