-- A rename as a put at the target followed by a removal at the source.
use Rattle.text_and_lists.proofs.Tree.{tied}
use Rattle.text_and_lists.specs.Order.{text_cmp, text_eq, text_ties, text_total}
use Rattle.s3_types.specs.Store.{Files}
use Rattle.std.proofs.Common.{Bool, List, None, Some, ap, cond, false, refl, sym, true, ℕ, ◌∙◌, ◌≡◌}
use Rattle.std.proofs.lemmas.Bool.{false≢true}
use Rattle.std.proofs.lemmas.Map.Lookups.{exact_bytes}
use Rattle.std.specs.FinMap.{get, get-insert, get-remove, insert, remove, same_map}
use Rattle.std.specs.Ordering.{eq_by_cmp}

-- True if the two paths are equal.
abbrev is_at : List ℕ → List ℕ → Bool
is_at q k = eq_by_cmp text_cmp q k

at_same : (q k : List ℕ) → is_at q k ≡ true → q ≡ k
at_same q k h = exact_bytes q k (tied (text_cmp q k) h)

-- A rename onto itself.
pub onto_itself : (m : Files) (s t : List ℕ) (v : List ℕ) → text_eq s t ≡ true → insert m t v ≡ insert (remove m s) t v
onto_itself m s t v h = same_map text_total exact_bytes _ _ (λ q. get-insert text_total m t v q ∙ by q (is_at q t) refl ∙ sym
    (get-insert text_total (remove m s) t v q))
  where
    same : s ≡ t
    same = at_same s t (sym (text_ties s t) ∙ h)

    by : (q : List ℕ) (b : Bool) → is_at q t ≡ b → cond (is_at q t) (Some v) (get m q) ≡ cond (is_at q t) (Some v) (get (remove m s) q)
    by q true e = ap (λ b. cond b (Some v) (get m q)) e ∙ sym (ap (λ b. cond b (Some v) (get (remove m s) q)) e)
    by q false e =
        ap (λ b. cond b (Some v) (get m q)) e
        ∙ sym (get-remove text_total m s q ∙ ap (λ b. cond b None (get m q)) (ap (is_at q) same ∙ e))
        ∙ sym (ap (λ b. cond b (Some v) (get (remove m s) q)) e)

-- A rename onto another path.
pub onto_another : (m : Files) (s t : List ℕ) (v : List ℕ) → text_eq s t ≡ false → remove (insert m t v) s ≡ insert (remove m s) t v
onto_another m s t v h = same_map text_total exact_bytes _ _ (λ q.
    get-remove text_total (insert m t v) s q
    ∙ ap (cond (is_at q s) None) (get-insert text_total m t v q)
    ∙ by q (is_at q s) refl (is_at q t) refl
    ∙ sym (get-insert text_total (remove m s) t v q ∙ ap (cond (is_at q t) (Some v)) (get-remove text_total m s q)))
  where
    by : (q : List ℕ) (a : Bool) → is_at q s ≡ a → (b : Bool) → is_at q t ≡ b
        → cond (is_at q s) None (cond (is_at q t) (Some v) (get m q)) ≡ cond (is_at q t) (Some v) (cond (is_at q s) None (get m q))
    by q true d true e = absurd (false≢true (sym h ∙ text_ties s t ∙ ap (λ k. is_at k t) (sym (at_same q s d)) ∙ e))
    by q true d false e = (λ i. cond (d i) None (cond (e i) (Some v) (get m q))) ∙ sym
        (λ i. cond (e i) (Some v) (cond (d i) None (get m q)))
    by q false d true e = (λ i. cond (d i) None (cond (e i) (Some v) (get m q))) ∙ sym
        (λ i. cond (e i) (Some v) (cond (d i) None (get m q)))
    by q false d false e = (λ i. cond (d i) None (cond (e i) (Some v) (get m q))) ∙ sym
        (λ i. cond (e i) (Some v) (cond (d i) None (get m q)))
