-- How many keys and uploads are listed.
use Rattle.text_and_lists.proofs.Less.{less_of, lt, lt_trans}
use Rattle.text_and_lists.proofs.Members.{true_or_false}
use Rattle.text_and_lists.proofs.Tree.{map_sorted}
use Rattle.text_and_lists.specs.Order.{text_cmp, text_total}
use Rattle.list_walk.proofs.Counting.{AreNew, count, count_made, count_more}
use Rattle.list_walk.specs.Left.{one_if as one}
use Rattle.list_walk.specs.Walks.{keys_on, last_of}
use Rattle.s3_types.specs.Multipart.{is_behind, ref_cmp, ref_of, refs}
use Rattle.s3_types.specs.Pages.{begins, listed, text_in}
use Rattle.s3_types.specs.Store.{Objects, Upload, Uploads}
use Rattle.s3_types.specs.declared.object.Object.{Object}
use Rattle.s3_types.specs.declared.reply.PageEntry.{PageEntry}
use Rattle.s3_types.specs.declared.request.UploadRef.{UploadRef}
use Rattle.std.proofs.Common.{Bool, List, None, Option, Some, ap, arith, cond, drop, false, inl, inr, length, map, refl, suc, sym, take}
use Rattle.std.proofs.Common.{true, zero, ℕ, [], ◌&&◌, ◌++◌, ◌+◌, ◌∙◌, ◌∷◌, ◌≡◌}
use Rattle.std.proofs.Math.Bool.{and-false, and-true}
use Rattle.std.proofs.lemmas.Bool.{and_parts}
use Rattle.std.proofs.lemmas.Cmp.{on_total, then_total}
use Rattle.std.proofs.lemmas.Map.Keys.{sorted_head, sorted_tail}
use Rattle.std.specs.Cmp.{IsTotalOrder, nat_cmp_total}
use Rattle.std.specs.FinMap.Entries.{find}
use Rattle.std.specs.List.{AllByRecursion, filter}
use Rattle.std.specs.List.Sorted.{IsStrictlySortedBy}
use Rattle.std.specs.Map.{keys_of}
use Rattle.std.specs.Ordering.{is_eq, is_lt, nat_cmp, ordering_then}
use Rattle.std.specs.declared.cmp.Ordering.{Ordering}
use Rattle.std.specs.declared.cmp.Ordering.TheVariants.{Equal, Less}
use Rattle.store_frame.proofs.Listed.{listed_behind, walked_listed}
use Rattle.store_frame.specs.inner.Walk.{walked}
use Rattle.std.specs.FinMap as fin
use Rattle.s3_types.specs.Multipart as uploads

-- ---- keys

-- True if the key begins with p and is greater than a.
abbrev pub is_left : List ℕ → List ℕ → List ℕ × Object → Bool
is_left p a e = begins p e.0 && lt text_cmp a e.0

-- All of these keys are greater than a.
abbrev Behind : List ℕ → List (List ℕ) → Type 0
Behind a ks = AllByRecursion (λ k. text_cmp a k ≡ Less) ks

behind_all : (p a : List ℕ) (es : List (List ℕ × Object)) → Behind a (keys_of es) → count (is_left p a) es ≡ count (λ e. begins p e.0) es
behind_all p a [] h = refl
behind_all p a (e ∷ es) h = rw (
  count_more (is_left p a) e es,
  count_more (λ e. begins p e.0) e es,
  ap is_lt h.0,
  and-true (begins p e.0),
  behind_all p a es h.1,
) refl

behind_too : (a k : List ℕ) (ks : List (List ℕ)) → lt text_cmp a k ≡ true → Behind k ks → Behind a ks
behind_too a k [] l h = tt
behind_too a k (q ∷ ks) l h = (less_of (text_cmp a q) (lt_trans text_total a k q l (ap is_lt h.0)), behind_too a k ks l h.1)

walked_count : (p a : List ℕ) (es : List (List ℕ × Object)) → IsStrictlySortedBy text_cmp (keys_of es)
    → length (walked p false a es) ≡ count (is_left p a) es
walked_count p a [] s = refl
walked_count p a (e ∷ es) s =
    let later = sorted_head text_cmp e.0 (keys_of es) s in let rest = sorted_tail text_cmp e.0 (keys_of es) s in
    rw (count_more (is_left p a) e es) (elim (true_or_false (is_left p a e)) [
      | inl t ↦
          rw t (omega (
            arith,
            walked_count p e.0 es rest,
            behind_all p e.0 es later,
            behind_all p a es
                (behind_too a e.0 (keys_of es) (and_parts (begins p e.0) _ t).1 later),
          ))
      | inr n ↦ rw n (omega (arith, walked_count p a es rest))
    ])

-- As many keys are listed as are left.
pub listed_count : (p a : List ℕ) (m : Objects) → length (listed p false a m) ≡ count (is_left p a) (fin.entries m)
listed_count p a m = ap length (sym (walked_listed p false a m)) ∙ walked_count p a (fin.entries m) (map_sorted text_cmp m)

-- The last of the keys, or a if there are none.
abbrev pub last_from : List ℕ → List (List ℕ) → List ℕ
last_from a [] = a
last_from a (k ∷ ks) = last_from k ks

pub last_append : (keys ks : List (List ℕ)) → last_of (keys ++ ks) ≡ last_from (last_of keys) ks
last_append [] [] = refl
last_append [] (k ∷ ks) = last_append (k ∷ []) ks
last_append (q ∷ []) [] = refl
last_append (q ∷ []) (k ∷ ks) = last_append (k ∷ []) ks
last_append (q ∷ r ∷ keys) ks = last_append (r ∷ keys) ks

-- After a page, the others are listed.
pub behind_page : (p a : List ℕ) (m : Objects) (n : ℕ) (l : List PageEntry) → listed p false a m ≡ l
    → listed p false (last_from a (keys_on (take n l))) m ≡ drop n l
behind_page p a m zero l h = h
behind_page p a m (suc n) [] h = h
behind_page p a m (suc n) (x ∷ xs) h = behind_page p (text_in x) m n xs (listed_behind p false a m x xs h)

-- ---- uploads

pub refs_total : IsTotalOrder ref_cmp
refs_total = then_total (on_total (λ r. r.key) text_total) (on_total (λ r. r.upload) nat_cmp_total)

abbrev pub is_left_ref : List ℕ → Option UploadRef → UploadRef → Bool
is_left_ref p a r = begins p r.key && is_behind a r

apart : (k q : List ℕ) (i j : ℕ) → nat_cmp i j ≡ Less → is_eq (ordering_then (text_cmp k q) (nat_cmp i j)) ≡ false
apart k q i j h = (elim (text_cmp k q) as (λ r. (s : Ordering) → s ≡ Less → is_eq (ordering_then r s) ≡ false)
    [ Equal ↦ λ s e. ap is_eq e | _ ↦ λ s e. refl ]) (nat_cmp i j) h

new_ref : (e : ℕ × Upload) (es : List (ℕ × Upload)) → AllByRecursion (λ j. nat_cmp e.0 j ≡ Less) (keys_of es)
    → find ref_cmp (ref_of e).0 (map ref_of es) ≡ None
new_ref e [] h = refl
new_ref e (f ∷ es) h = ap (λ b. cond b (Some tt) (find ref_cmp (ref_of e).0 (map ref_of es))) (apart e.1.key f.1.key e.0 f.0 h.0) ∙ new_ref
    e es h.1

new_refs : (es : List (ℕ × Upload)) → IsStrictlySortedBy nat_cmp (keys_of es) → AreNew refs_total (map ref_of es)
new_refs [] s = tt
new_refs (e ∷ es) s = (new_ref e es (sorted_head nat_cmp e.0 (keys_of es) s), new_refs es (sorted_tail nat_cmp e.0 (keys_of es) s))

pub count_mapped : {A B : Type 0} (f : A → B) (t : B → Bool) (xs : List A) → count t (map f xs) ≡ count (λ x. t (f x)) xs
count_mapped f t [] = refl
count_mapped f t (x ∷ xs) = count_more t (f x) (map f xs) ∙ ap (λ n. one (t (f x)) + n) (count_mapped f t xs) ∙ sym
    (count_more (λ x. t (f x)) x xs)

count_both : {A : Type 0} (p q : A → Bool) (xs : List A) → count p (filter q xs) ≡ count (λ x. p x && q x) xs
count_both p q [] = refl
count_both p q (x ∷ xs) = rw (count_more (λ x. p x && q x) x xs) (elim (true_or_false (q x)) [
  | inl t ↦ rw (t, and-true (p x), count_more p x (filter q xs), count_both p q xs) refl
  | inr n ↦ rw (n, and-false (p x), count_both p q xs) (omega arith)
])

-- As many uploads are listed as are left.
pub refs_count : (p : List ℕ) (a : Option UploadRef) (m : Uploads)
    → length (uploads.listed p a m) ≡ count (λ e. is_left_ref p a (ref_of e).0) (fin.entries m)
refs_count p a m =
    count_both (λ r. begins p r.key) (is_behind a) (map (λ e. e.0) (fin.entries (refs m)))
    ∙ count_mapped (λ e. e.0) (is_left_ref p a) (fin.entries (refs m))
    ∙ count_made refs_total (λ e. is_left_ref p a e.0) (map ref_of (fin.entries m)) (new_refs (fin.entries m) (map_sorted nat_cmp m))
    ∙ count_mapped ref_of (λ e. is_left_ref p a e.0) (fin.entries m)
