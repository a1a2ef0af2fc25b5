-- What a crash leaves during the two steps of an append, as bytes.
use Rattle.folder_log.specs.Disk.{File, IsTorn, Torn, overwritten}
use Rattle.folder_log.specs.inner.Kept.{IsLeftOf}
use Rattle.std.proofs.Common.{List, None, Some, ap, append_assoc, arith, drop, get_or, inl, inr, length, length-append, length-drop, sym}
use Rattle.std.proofs.Common.{take, take-append-drop, ℕ, [], ◌++◌, ◌+◌, ◌∙◌, ◌∷◌, ◌≡◌, ◌⊎◌}
use Rattle.std.proofs.lemmas.List.{append-nil, drop_all, drop_at, drop_more, take_all, take_at}

some_file : (a b : List ℕ) → (let x : File = Some a in x ≡ Some b) → a ≡ b
some_file a b e = cc

module _ (front : List ℕ) (gate : ℕ) (at : length front ≡ gate) where
  abbrev rest_at : List ℕ
  rest_at = front ++ 0 ∷ []

  pub length-rest_at : length rest_at ≡ gate + 1
  length-rest_at = omega (arith, at, length-append front (0 ∷ []))

  -- The closed gate is in each file that the first write may leave.
  torn_behind : (n : ℕ) (c : List ℕ) → Torn (gate + 1) n rest_at c → c ≡ front ++ 0 ∷ drop (gate + 1) c
  torn_behind n c torn =
      let first : take (gate + 1) c ≡ rest_at = torn.before ∙ take_all _ _ (omega (arith, length-rest_at)) in
      sym (take-append-drop (gate + 1) c) ∙ ap (λ (l : List ℕ). l ++ drop (gate + 1) c) first ∙ append_assoc front (0 ∷ [])
      (drop (gate + 1) c)

  pub left_behind : (written : List ℕ) (c : File) → (c ≡ Some rest_at) ⊎ IsTorn (gate + 1) (length written) (Some rest_at) c
      → IsLeftOf front written c
  left_behind written c (inl is) = inl ([], omega arith, is)
  left_behind written None (inr torn) = absurd torn
  left_behind written (Some c) (inr torn) = inl (
    drop (gate + 1) c,
    omega (arith, length-drop (gate + 1) c, torn.no_longer, length-rest_at),
    ap (λ (l : List ℕ). Some l) (torn_behind (length written) c torn),
  )

  pub written_behind : (written : List ℕ) → overwritten (gate + 1) written rest_at ≡ front ++ 0 ∷ written
  written_behind written =
      ap (λ (l : List ℕ). l ++ written ++ drop (gate + 1 + length written) rest_at) (take_all _ _ (omega (arith, length-rest_at)))
      ∙ ap (λ (l : List ℕ). rest_at ++ written ++ l) (drop_all (gate + 1 + length written) rest_at (omega (arith, length-rest_at)))
      ∙ append-nil (rest_at ++ written)
      ∙ append_assoc front (0 ∷ []) written

  module _ (written : List ℕ) where
    abbrev staged : List ℕ
    staged = front ++ 0 ∷ written

    behind_gate : drop (gate + 1) staged ≡ written
    behind_gate = ap (λ (l : List ℕ). drop (gate + 1) l) (sym (append_assoc front (0 ∷ []) written)) ∙ drop_at rest_at written (gate + 1)
        length-rest_at

    pub length-staged : length staged ≡ gate + 1 + length written
    length-staged = omega (arith, at, length-append front (0 ∷ written))

    -- The whole record is in each file that the second write may leave.
    torn_gate : (c : List ℕ) → Torn gate 1 staged c → c ≡ front ++ get_or c gate 0 ∷ written
    torn_gate c torn =
        let g = get_or c gate 0 in
        let rest : drop gate c ≡ g ∷ written = drop_more c gate 0 (omega (arith, torn.no_shorter, length-staged)) ∙ ap
        (λ (l : List ℕ). g ∷ l) (torn.after ∙ behind_gate) in
        sym (take-append-drop gate c) ∙ ap (λ (l : List ℕ). l ++ drop gate c) (torn.before ∙ (take_at front (0 ∷ written) gate at)) ∙ ap
        (λ (l : List ℕ). front ++ l) rest

    pub left_opened : (c : File) → (c ≡ Some staged) ⊎ IsTorn gate 1 (Some staged) c → IsLeftOf front written c
    left_opened c (inl is) = inr (0, is)
    left_opened None (inr torn) = absurd torn
    left_opened (Some c) (inr torn) = inr (get_or c gate 0, ap (λ (l : List ℕ). Some l) (torn_gate c torn))
