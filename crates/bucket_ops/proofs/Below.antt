-- The keys below a prefix, and objects without some keys.
use Rattle.text_and_lists.proofs.Members.{same_or_other, text_gone, text_left}
use Rattle.text_and_lists.specs.Members.{IsIn}
use Rattle.bucket_ops.proofs.AskLaws.{gone_still}
use Rattle.bucket_ops.specs.Walking.{keys_below}
use Rattle.list_walk.specs.Walks.{keys_on}
use Rattle.s3_types.specs.Answer.{without}
use Rattle.s3_types.specs.Pages.{begins, listed}
use Rattle.s3_types.specs.Store.{Objects}
use Rattle.s3_types.specs.declared.object.Object.{Object}
use Rattle.std.proofs.Common.{List, None, Some, arith, false, inl, inr, length, refl, subst, sym, true, ℕ, [], ◌∙◌, ◌∷◌, ◌≡◌, ◌⊎◌}
use Rattle.std.proofs.lemmas.Bool.{false≢true}
use Rattle.std.proofs.lemmas.List.{take_all}
use Rattle.store_frame.proofs.Flat.{listed_all, page_begins}
use Rattle.std.specs.FinMap as fin

-- A key is in the list or not.
pub is_in : (k : List ℕ) (ks : List (List ℕ)) → IsIn k ks ⊎ (IsIn k ks → ⊥)
is_in k [] = inr (λ h. h)
is_in k (q ∷ ks) = by (same_or_other k q) (is_in k ks)
  where
    neither : (k ≡ q → ⊥) → (IsIn k ks → ⊥) → (k ≡ q) ⊎ IsIn k ks → ⊥
    neither n g (inl e) = n e
    neither n g (inr h) = g h

    by : (k ≡ q) ⊎ (k ≡ q → ⊥) → IsIn k ks ⊎ (IsIn k ks → ⊥) → IsIn k (q ∷ ks) ⊎ (IsIn k (q ∷ ks) → ⊥)
    by (inl e) w = inl (inl e)
    by (inr n) (inl h) = inl (inr h)
    by (inr n) (inr g) = inr (neither n g)

pub gone_in : (m : Objects) (ks : List (List ℕ)) (k : List ℕ) → IsIn k ks → fin.get (without m ks) k ≡ None
gone_in m [] k h = absurd h
gone_in m (x ∷ ks) k (inl e) = gone_still (fin.remove m x) ks k (text_gone m x k e)
gone_in m (x ∷ ks) k (inr h) = gone_in (fin.remove m x) ks k h

pub kept_out : (m : Objects) (ks : List (List ℕ)) (k : List ℕ) → (IsIn k ks → ⊥) → fin.get (without m ks) k ≡ fin.get m k
kept_out m [] k h = refl
kept_out m (x ∷ ks) k h = kept_out (fin.remove m x) ks k (λ g. h (inr g)) ∙ text_left m x k (λ e. h (inl e))

-- The keys below a prefix begin with it and exist.
pub below_stands : (q : List ℕ) (z : Objects) (k : List ℕ) → IsIn k (keys_below q z) → (begins q k ≡ true)
    × ((v : Object) × (fin.get z k ≡ Some v))
below_stands q z k h =
    page_begins (length (listed q false [] z)) q [] k z (subst (λ l. IsIn k (keys_on l))
    (sym (take_all (length (listed q false [] z)) (listed q false [] z) (omega arith))) h)

-- Each existing key that begins with a prefix is below it, if the prefix is not empty.
pub stands_below : (x : ℕ) (q : List ℕ) (z : Objects) (k : List ℕ) (v : Object) → begins (x ∷ q) k ≡ true → fin.get z k ≡ Some v
    → IsIn k (keys_below (x ∷ q) z)
stands_below x q z [] v b e = absurd (false≢true b)
stands_below x q z (y ∷ k) v b e = listed_all (x ∷ q) [] z (y ∷ k) v e b refl
