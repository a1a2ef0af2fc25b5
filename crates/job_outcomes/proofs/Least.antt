-- The first visible file among the keys below a destination, as they are listed page by page.
use Rattle.text_and_lists.proofs.Less.{equal_self, irrefl, le_lt, lt_not}
use Rattle.text_and_lists.proofs.Members.{false_true, none_some, some_is, true_or_false}
use Rattle.text_and_lists.specs.Members.{IsIn, RisesFrom, last_from}
use Rattle.text_and_lists.specs.Order.{text_cmp, text_total}
use Rattle.job_invariant.proofs.Legal.{some_dest}
use Rattle.job_model.specs.JobScript.{Script}
use Rattle.job_model.specs.Legal.{IsLegal}
use Rattle.job_protocol.specs.Setup.{dest_prefix, first_shown, or_next, shown_path}
use Rattle.job_protocol.specs.View.{is_file_path}
use Rattle.magic_paths.proofs.Tails.{begins_back, below_is}
use Rattle.path_keys.proofs.Beneath.{behind_some}
use Rattle.path_keys.specs.Paths.{below, relative_in}
use Rattle.s3_types.specs.Pages.{begins}
use Rattle.std.proofs.Common.{Bool, List, None, Option, Some, ap, append_assoc, arith, codes, cond, false, inl, inr, refl, sym, true, ℕ, []}
use Rattle.std.proofs.Common.{◌++◌, ◌∙◌, ◌∷◌, ◌≡◌, ◌⊎◌}
use Rattle.std.proofs.lemmas.Cmp.{nat_cmp_total}
use Rattle.std.specs.Ordering.{is_lt, nat_cmp, ordering_then}
use Rattle.store_frame.proofs.Flat.{behind}

-- A common front does not change the order of two texts.
pub front_cmp : (pre p q : List ℕ) → text_cmp (pre ++ p) (pre ++ q) ≡ text_cmp p q
front_cmp [] p q = refl
front_cmp (x ∷ pre) p q = ap (λ o. ordering_then o (text_cmp (pre ++ p) (pre ++ q))) (equal_self (nat_cmp x x) (nat_cmp_total.antisymm x x))
    ∙ front_cmp pre p q

-- ---- keys that rise

abbrev lt : List ℕ → List ℕ → Bool
lt a b = is_lt (text_cmp a b)

last_top : (k : List ℕ) (ks : List (List ℕ)) → RisesFrom k ks → lt (last_from k ks) k ≡ false
last_top k [] h = irrefl text_total k
last_top k (q ∷ ks) h = elim (true_or_false (lt k (last_from q ks))) [
  | inl e ↦ lt_not text_total k (last_from q ks) e
  | inr e ↦ absurd (false_true (last_top q ks h.1) (le_lt text_total (last_from q ks) k q e h.0))
]

-- None of them is later than the last one.
pub last_of_all : (l : List ℕ) (ks : List (List ℕ)) → RisesFrom l ks → (k : List ℕ) → IsIn k ks → lt (last_from l ks) k ≡ false
last_of_all l [] h k i = absurd i
last_of_all l (q ∷ ks) h k (inl e) = ap (λ v. lt (last_from q ks) v) e ∙ last_top q ks h.1
last_of_all l (q ∷ ks) h k (inr i) = last_of_all q ks h.1 k i

-- If no earlier key shows a file, the first one that does is among the later keys.
pub shown_later : (w : Script) (ks more : List (List ℕ)) → first_shown w ks ≡ None → first_shown w (ks ++ more) ≡ first_shown w more
shown_later w [] more h = refl
shown_later w (k ∷ ks) more h = by (shown_path (relative_in w.dest.key k)) h (λ g. shown_later w ks more g)
  where
    by : (o : Option (List ℕ)) → or_next o (first_shown w ks) ≡ None
        → (first_shown w ks ≡ None → first_shown w (ks ++ more) ≡ first_shown w more)
        → or_next o (first_shown w (ks ++ more)) ≡ first_shown w more
    by o h g = grind arith

-- ---- the path of a key

module _ (w : Script) (j : IsLegal w) where
  abbrev pub seen_at : List ℕ → Option (List ℕ)
  seen_at k = shown_path (relative_in w.dest.key k)

  pub seen_below : (q : List ℕ) → is_file_path q ≡ true → seen_at (below w.dest.key q) ≡ Some q
  seen_below q h =
      ap shown_path (behind_some w.dest.key (below w.dest.key q) (47 ∷ q) q (omega (arith, some_dest j))
      (below_is w.dest.key q (some_dest j)) refl)
      ∙ ap (λ b. cond b (Some q) None) h

  -- A key below the destination at which a file is visible.
  pub record IsShownAt (k p : List ℕ) : Type 0 where
    pub is : k ≡ below w.dest.key p
    pub file : is_file_path p ≡ true

  shown_file : (r p : List ℕ) → shown_path (Some r) ≡ Some p → (r ≡ p) × (is_file_path r ≡ true)
  shown_file r p e = elim (true_or_false (is_file_path r)) [
    | inl h ↦ (some_is (sym (ap (λ b. cond b (Some r) None) h) ∙ e), h)
    | inr h ↦ absurd (none_some (ap (λ b. cond b (Some r) None) h) e)
  ]

  pub shown_at : (k p : List ℕ) → begins (dest_prefix w) k ≡ true → seen_at k ≡ Some p → IsShownAt k p
  shown_at k p b e =
      let c = begins_back (dest_prefix w) k b in
      let is : k ≡ w.dest.key ++ 47 ∷ c.0 = c.1 ∙ append_assoc w.dest.key (codes "/") c.0 in
      let rel : relative_in w.dest.key k ≡ Some c.0 = behind_some w.dest.key k (47 ∷ c.0) c.0 (omega (arith, some_dest j)) is refl in
      let f = shown_file c.0 p (sym (ap shown_path rel) ∙ e) in
      record {
        is = is ∙ ap (λ v. w.dest.key ++ 47 ∷ v) f.0 ∙ sym (below_is w.dest.key p (some_dest j));
        file = sym (ap is_file_path f.0) ∙
            f.1;
      }

  -- Keys are in the order of their paths.
  pub below_cmp : (q p : List ℕ) → text_cmp (below w.dest.key q) (below w.dest.key p) ≡ text_cmp q p
  below_cmp q p = grind (arith, below_is, some_dest, front_cmp)

  -- ---- the first visible file

  or_some : (o n : Option (List ℕ)) (p : List ℕ) → or_next o n ≡ Some p → (o ≡ Some p) ⊎ ((o ≡ None) × (n ≡ Some p))
  or_some o n p h = grind arith

  or_none : (o n : Option (List ℕ)) → or_next o n ≡ None → (o ≡ None) × (n ≡ None)
  or_none o n h = grind arith

  -- None of these keys shows a file.
  pub unseen_in : (ks : List (List ℕ)) → first_shown w ks ≡ None → (k : List ℕ) → IsIn k ks → seen_at k ≡ None
  unseen_in [] h k i = absurd i
  unseen_in (q ∷ ks) h k (inl e) = ap seen_at e ∙ (or_none (seen_at q) (first_shown w ks) h).0
  unseen_in (q ∷ ks) h k (inr i) = unseen_in ks (or_none (seen_at q) (first_shown w ks) h).1 k i

  pub record IsFirst (ks : List (List ℕ)) (p : List ℕ) : Type 0 where
    pub key : List ℕ
    pub one : IsIn key ks
    pub shown : seen_at key ≡ Some p
    pub least : (k q : List ℕ) → IsIn k ks → seen_at k ≡ Some q → lt k key ≡ false

  pub first_of : (l : List ℕ) (ks : List (List ℕ)) → RisesFrom l ks → (p : List ℕ) → first_shown w ks ≡ Some p → IsFirst ks p
  first_of l [] h p e = absurd (none_some refl e)
  first_of l (q ∷ ks) h p e = elim (or_some (seen_at q) (first_shown w ks) p e) [
    | inl here ↦ record {
      key = q;
      one = inl refl;
      shown = here;
      least = λ k r i s. elim i
          [ inl is ↦ ap (λ v. lt v q) is ∙ irrefl text_total q | inr later ↦ lt_not text_total q k (behind q k ks h.1 later) ];
    }
    | inr later ↦
        let o = first_of q ks h.1 p later.1 in
        record {
          key = o.key;
          one = inr o.one;
          shown = o.shown;
          least = λ k r i s. elim i
              [ inl is ↦ absurd (none_some (ap seen_at is ∙ later.0) s) | inr more ↦ o.least k r more s ];
        }
  ]
