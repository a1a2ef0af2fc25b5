-- Keys are deleted batch by batch.
use Rattle.text_and_lists.proofs.Naturals.{below_is}
use Rattle.bucket_ops.specs.Asks.{DropAll, edited}
use Rattle.bucket_ops.specs.Sweeping.{IsDeleting}
use Rattle.bucket_ops.specs.inner.Sweeping.{IsDeleted}
use Rattle.list_walk.specs.Walks.{deleting}
use Rattle.s3_types.specs.Answer.{without}
use Rattle.s3_types.specs.Store.{Objects}
use Rattle.std.proofs.Common.{Bool, List, ap, append_assoc, arith, cond, drop, false, length, nat_lt, refl, subst, sym, take, true, ℕ, []}
use Rattle.std.proofs.Common.{◌++◌, ◌∙◌, ◌∷◌, ◌≡◌}
use Rattle.std.proofs.lemmas.List.{append-nil, length-take, take-append-drop}
use Rattle.std.specs.FinMap as fin

without_append : (m : Objects) (ks qs : List (List ℕ)) → without m (ks ++ qs) ≡ without (without m ks) qs
without_append m [] qs = refl
without_append m (k ∷ ks) qs = without_append (fin.remove m k) ks qs

-- A batch never has more keys than a request may name.
pub within : (l : List (List ℕ)) → nat_lt 1000 (length (take 1000 l)) ≡ false
within l = by (nat_lt 1000 (length (take 1000 l))) refl
  where
    by : (b : Bool) → nat_lt 1000 (length (take 1000 l)) ≡ b → nat_lt 1000 (length (take 1000 l)) ≡ false
    by false e = e
    by true e = let h = below_is 1000 (length (take 1000 l)) e in absurd (omega (arith, h, length-take 1000 l))

pub batch_deletes : (l : List (List ℕ)) (m : Objects) → edited (DropAll (take 1000 l)) m ≡ without m (take 1000 l)
batch_deletes l m = ap (λ c. cond c m (without m (take 1000 l))) (within l)

module _ (z : Objects) (all : List (List ℕ)) where
  -- At the start, all keys are still to be deleted.
  pub deleting_all : (ks : List (List ℕ)) → ks ≡ all → IsDeleted z all (deleting ks) z
  deleting_all [] e = ap (without z) e
  deleting_all (k ∷ ks) e = ([], e, refl)

  rest_goes : (gone l r : List (List ℕ)) (m : Objects) → drop 1000 l ≡ r → gone ++ l ≡ all → m ≡ without z gone
      → IsDeleted z all (deleting r) (without m (take 1000 l))
  rest_goes gone l [] m e h f =
      ap (λ m. without m (take 1000 l)) f ∙ sym (without_append z gone (take 1000 l))
      ∙ ap (without z) (ap (λ x. gone ++ x) (sym (append-nil (take 1000 l)) ∙ ap (λ x. take 1000 l ++ x) (sym e) ∙ take-append-drop 1000 l)
      ∙ h)
  rest_goes gone l (k ∷ ks) m e h f = (
    gone ++ take 1000 l,
    append_assoc gone (take 1000 l) (k ∷ ks) ∙ ap (λ x. gone ++ x) (ap (λ x. take 1000 l ++ x) (sym e) ∙ take-append-drop 1000 l) ∙ h,
    ap (λ m. without m (take 1000 l)) f ∙ sym (without_append z gone (take 1000 l)),
  )

  -- After a batch, the sweep goes on as it should.
  pub batch_goes : (l : List (List ℕ)) (m : Objects) → IsDeleting z all l m
      → IsDeleted z all (deleting (drop 1000 l)) (edited (DropAll (take 1000 l)) m)
  batch_goes l m h = subst (IsDeleted z all (deleting (drop 1000 l))) (sym (batch_deletes l m))
      (rest_goes h.0 l (drop 1000 l) m refl h.1 h.2)
