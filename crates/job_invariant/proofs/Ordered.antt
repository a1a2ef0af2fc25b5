-- The files whose records are listed, in the order of the listing, are all files, each once.
use Rattle.text_and_lists.proofs.Members.{filter_in, in_append, in_back, in_filter, in_front, text_is, text_true, true_or_false}
use Rattle.text_and_lists.specs.Members.{IsIn, RisesFrom}
use Rattle.text_and_lists.specs.Order.{text_eq}
use Rattle.job_invariant.specs.Facts.{ApartFiles}
use Rattle.job_model.specs.Attempts.{Who}
use Rattle.job_model.specs.Files.{File}
use Rattle.job_model.specs.JobScript.{Script}
use Rattle.job_protocol.specs.Outputs.{files}
use Rattle.job_protocol.specs.Records.{record_key}
use Rattle.job_protocol.specs.TaskCommits.{in_order, least_missing, least_of}
use Rattle.std.proofs.Common.{Bool, List, None, Some, ap, cond, false, inl, inr, refl, subst, sym, true, ℕ, [], ◌++◌, ◌||◌, ◌∙◌, ◌∷◌, ◌≡◌}
use Rattle.std.proofs.lemmas.Bool.{false≢true}
use Rattle.std.specs.List.{filter, flat_map, list_any}
use Rattle.store_frame.proofs.Flat.{not_again}

apart_filter : (f : File → Bool) (fs : List File) → ApartFiles fs → ApartFiles (filter f fs)
apart_filter f [] h = tt
apart_filter f (g ∷ fs) h =
    let old = apart_filter f fs h.1 in
    elim (f g) as (λ b. ApartFiles (cond b (g ∷ filter f fs) (filter f fs))) [
      | true ↦ (λ x i. h.0 x (in_filter f x fs i).0, old)
      | false ↦
          old
    ]

pub apart_append : (fs gs : List File) → ApartFiles fs → ApartFiles gs → ((f g : File) → IsIn f fs → IsIn g gs → f.0 ≡ g.0 → ⊥)
    → ApartFiles (fs ++ gs)
apart_append [] gs h k cross = k
apart_append (f ∷ fs) gs h k cross = (
  λ g i e. elim (in_append g fs gs i) [ inl j ↦ h.0 g j e | inr j ↦ cross f g (inl refl) j e ],
  apart_append fs gs h.1 k
      (λ x y i j. cross x y (inr i) j),
)

module _ (w : Script) (a : Who) where
  abbrev of_key : List ℕ → List File
  of_key k = filter (λ f. text_eq (record_key w a f) k) (files w a)

  key_of : (f : File) (k : List ℕ) → IsIn f (of_key k) → record_key w a f ≡ k
  key_of f k i = text_is (record_key w a f) k (in_filter (λ g. text_eq (record_key w a g) k) f (files w a) i).1

  pub order_each : (ks : List (List ℕ)) (f : File) → IsIn f (in_order w a ks) → IsIn f (files w a) × IsIn (record_key w a f) ks
  order_each [] f i = absurd i
  order_each (k ∷ ks) f i = elim (in_append f (of_key k) (flat_map of_key ks) i) [
    | inl h ↦ ((in_filter (λ g. text_eq (record_key w a g) k) f (files w a) h).0, inl (key_of f k h))
    | inr h ↦ let old = order_each ks f h in (old.0, inr old.1)
  ]

  pub order_all : (ks : List (List ℕ)) (f : File) → IsIn f (files w a) → IsIn (record_key w a f) ks → IsIn f (in_order w a ks)
  order_all [] f i h = absurd h
  order_all (k ∷ ks) f i (inl e) = in_front f (of_key k) (flat_map of_key ks)
      (filter_in (λ g. text_eq (record_key w a g) k) f (files w a) i (text_true (record_key w a f) k e))
  order_all (k ∷ ks) f i (inr h) = in_back f (of_key k) (flat_map of_key ks) (order_all ks f i h)

  pub order_apart : ApartFiles (files w a) → (l : List ℕ) (ks : List (List ℕ)) → RisesFrom l ks → ApartFiles (in_order w a ks)
  order_apart h l [] r = tt
  order_apart h l (k ∷ ks) r = apart_append (of_key k) (flat_map of_key ks) (apart_filter (λ g. text_eq (record_key w a g) k) (files w a) h)
      (order_apart h k ks r.1)
      (λ f g i j e.
      let at : record_key w a g ≡ k = ap (λ p. record_key w a (p, g.1)) (sym e) ∙ key_of f k i in
      not_again k ks r.1 (subst (λ q. IsIn q ks) at (order_each ks g j).1))

-- ---- none is missing

any_in : (k : List ℕ) (ks : List (List ℕ)) → list_any (text_eq k) ks ≡ true → IsIn k ks
any_in k [] h = absurd (false≢true h)
any_in k (q ∷ ks) h = elim (true_or_false (text_eq k q)) [
  | inl e ↦ inl (text_is k q e)
  | inr e ↦ inr
      (any_in k ks (sym (ap (λ b. b || list_any (text_eq k) ks) e) ∙ h))
]

pub none_missing : (ks all : List (List ℕ)) → least_missing ks all ≡ None → (k : List ℕ) → IsIn k all → IsIn k ks
none_missing ks [] h k i = absurd i
none_missing ks (q ∷ all) h k i = elim (true_or_false (list_any (text_eq q) ks)) [
  | inl e ↦ elim i [
    | inl is ↦ subst (λ x. IsIn x ks) (sym is) (any_in q ks e)
    | inr j ↦ none_missing ks all (ap (λ b. cond b (least_missing ks all) (Some (least_of (least_missing ks all) q))) (sym e) ∙ h) k j
  ]
  | inr e ↦
      let some : Some (least_of (least_missing ks all) q) ≡ None = ap (λ b. cond b (least_missing ks all)
      (Some (least_of (least_missing ks all) q))) (sym e) ∙ h in
      absurd cc
]
