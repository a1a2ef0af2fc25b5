-- One more value of a list that is read or written.
use Rattle.text_and_lists.proofs.Reading.{listed, one_more as next_value, unless_more, unmade, with_front}
use Rattle.text_and_lists.specs.Reading.{Fails, made, ◌>>=◌}
use Rattle.log_format.specs.Fault.{wanting}
use Rattle.log_format.specs.Reading.{Read, byte_at, changes_at, list_at, place, record_at}
use Rattle.log_format.specs.declared.fault.LogFault.{LogFault}
use Rattle.s3_types.specs.declared.request.Request.{Request}
use Rattle.std.proofs.Common.{Err, List, Ok, Result, ap, append_assoc, arith, drop, get_or, if◌then◌else◌, length, refl, subst, suc, sym, ℕ}
use Rattle.std.proofs.Common.{[], ◌++◌, ◌+◌, ◌-◌, ◌<◌, ◌==◌, ◌∙◌, ◌∷◌, ◌≡◌, ◌≤◌}
use Rattle.std.proofs.lemmas.List.{append-nil, drop_more}
use Rattle.std.proofs.lemmas.List.Concat.{flat_map-cons}
use Rattle.std.specs.List.{AllByRecursion, flat_map}

-- The values that are read, after those that were read before.
abbrev pub in_front : {A : Type 0} → List A → Read (List A) → Read (List A)
in_front front read = made (λ xs. front ++ xs) read

module _ {A : Type 0} (one : List ℕ → Read A) where
  joined : (front : List A) (x : A) (rest : Read (List A))
      → in_front front (rest >>= λ xs. Ok (x ∷ xs.0, xs.1)) ≡ in_front (front ++ x ∷ []) rest
  joined front x (Ok xs) = ap (λ (l : List A). Ok (l, xs.1)) (sym (append_assoc front (x ∷ []) xs.0))
  joined front x (Err e) = refl

  step : (n : ℕ) (front : List A) (rest after : List ℕ) (x : A) → one rest ≡ Ok (x, after)
      → in_front front (list_at one (suc n) rest) ≡ in_front (front ++ x ∷ []) (list_at one n after)
  unfolding list_at
  step n front rest after x is =
      ap (λ (r : Read A). in_front front (r >>= λ y. list_at one n y.1 >>= λ ys. Ok (y.0 ∷ ys.0, ys.1))) is ∙ joined front x
      (list_at one n after)

  pub one_more : (n i : ℕ) (front : List A) (rest after : List ℕ) (x : A) (total : Read (List A)) → i < n → one rest ≡ Ok (x, after)
      → in_front front (list_at one (n - i) rest) ≡ total → in_front (front ++ x ∷ []) (list_at one (n - (i + 1)) after) ≡ total
  one_more n i front rest after x total lt is so_far =
      let left : n - i ≡ suc (n - (i + 1)) = omega arith in
      sym (step (n - (i + 1)) front rest after x is) ∙ sym (ap (λ (k : ℕ). in_front front (list_at one k rest)) left) ∙ so_far

  stops : (n : ℕ) (front : List A) (rest : List ℕ) (e : LogFault) → one rest ≡ Err e → in_front front (list_at one (suc n) rest) ≡ Err e
  unfolding list_at
  stops n front rest e is = ap (λ (r : Read A). in_front front (r >>= λ y. list_at one n y.1 >>= λ ys. Ok (y.0 ∷ ys.0, ys.1))) is

  -- The fault of a value is the fault of the list.
  pub ends : (n i : ℕ) (front : List A) (rest : List ℕ) (e : LogFault) (total : Read (List A)) → i < n → Fails wanting e (one rest)
      → in_front front (list_at one (n - i) rest) ≡ total → Fails wanting e total
  ends n i front rest e total lt fault so_far =
      let left : n - i ≡ suc (n - (i + 1)) = omega arith in
      unless_more (wanting e) (λ is. sym so_far ∙ ap (λ (k : ℕ). in_front front (list_at one k rest)) left ∙ stops (n - (i + 1)) front rest
      e is) fault

  all_read : (front : List A) (rest : List ℕ) → in_front front (list_at one 0 rest) ≡ Ok (front, rest)
  unfolding list_at
  all_read front rest = ap (λ (l : List A). Ok (l, rest)) (append-nil front)

  pub last : (n i : ℕ) (front : List A) (rest : List ℕ) (total : Read (List A)) → n ≤ i → in_front front (list_at one (n - i) rest) ≡ total
      → total ≡ Ok (front, rest)
  last n i front rest total le so_far =
      let left : n - i ≡ 0 = omega arith in
      sym so_far ∙ ap (λ (k : ℕ). in_front front (list_at one k rest)) left ∙ all_read front rest

  nothing_before : (r : Read (List A)) → in_front [] r ≡ r
  nothing_before (Ok x) = refl
  nothing_before (Err e) = refl

  pub first : (n : ℕ) (bytes : List ℕ) → in_front [] (list_at one (n - 0) bytes) ≡ list_at one n bytes
  first n bytes = let left : n - 0 ≡ n = omega arith in ap (λ (k : ℕ). in_front [] (list_at one k bytes)) left ∙ nothing_before
      (list_at one n bytes)

-- One more change is read.
pub change_more : (n i whole at here gate : ℕ) (front new : List Request) (rest after behind : List ℕ)
    (total : Result (List Request) LogFault) → i < n → at ≡ place whole rest → byte_at at rest ≡ Ok (gate, after) → gate ≡ 1
    → here ≡ place whole after → made (λ change. front ++ change ∷ []) (record_at here after) ≡ Ok (new, behind)
    → with_front front (changes_at (n - i) whole rest) ≡ total → with_front new (changes_at (n - (i + 1)) whole behind) ≡ total
unfolding changes_at
change_more n i whole at here gate front new rest after behind total lt at_is gate_is is_open here_is record_is so_far =
    let k = n - (i + 1) in
    let left : n - i ≡ suc k = omega arith in
    let is_gate : byte_at (place whole rest) rest ≡ Ok (gate, after) = subst (λ m. byte_at m rest ≡ Ok (gate, after)) at_is gate_is in
    let is_record : made (λ change. front ++ change ∷ []) (record_at (place whole after) after) ≡ Ok (new, behind) =
    subst (λ m. made (λ change. front ++ change ∷ []) (record_at m after) ≡ Ok (new, behind)) here_is record_is in
    let x = unmade (λ change. front ++ change ∷ []) (record_at (place whole after) after) new behind is_record in
    let tail : Result (List Request) LogFault = changes_at k whole behind in
    let found : changes_at (suc k) whole rest ≡ listed (Ok x.0) tail =
    ap (λ (r : Read ℕ). r >>= λ g. if g.0 == 1 then (record_at (place whole g.1) g.1 >>= λ change. changes_at k whole change.1 >>= λ
    changes. Ok (change.0 ∷ changes)) else Ok []) is_gate
    ∙ ap (λ (g : ℕ). if g == 1 then (record_at (place whole after) after >>= λ change. changes_at k whole change.1 >>= λ changes. Ok
    (change.0 ∷ changes)) else Ok []) is_open
    ∙ ap (λ (r : Read Request). r >>= λ change. changes_at k whole change.1 >>= λ changes. Ok (change.0 ∷ changes)) x.1 in
    let whole_so_far : with_front front (listed (Ok x.0) tail) ≡ total = ap (with_front front)
    (sym (ap (λ m. changes_at m whole rest) left ∙ found)) ∙ so_far in
    ap (λ l. with_front l tail) x.2 ∙ next_value front (Ok x.0) x.0 tail total refl whole_so_far

module _ {A : Type 0} (xs : List A) (i : ℕ) (x : A) (lt : i < length xs) (item : x ≡ get_or xs i x) where
  front : drop i xs ≡ x ∷ drop (i + 1) xs
  front = drop_more xs i x lt ∙ ap (λ (y : A). y ∷ drop (i + 1) xs) (sym item)

  -- The text of one more value is written.
  pub one_written : (text : A → List ℕ) (out new total : List ℕ) → new ≡ out ++ text x → out ++ flat_map text (drop i xs) ≡ total
      → new ++ flat_map text (drop (i + 1) xs) ≡ total
  one_written text out new total is so_far =
      ap (λ (l : List ℕ). l ++ flat_map text (drop (i + 1) xs)) is
      ∙ append_assoc out (text x) (flat_map text (drop (i + 1) xs))
      ∙ ap (λ (l : List ℕ). out ++ l) (sym (flat_map-cons text x (drop (i + 1) xs)))
      ∙ ap (λ (l : List A). out ++ flat_map text l) (sym front)
      ∙ so_far

  -- One more value has the property.
  pub one_legal : (IsOne : A → Type 0) {All : Type 0} → IsOne x → (AllByRecursion IsOne (drop i xs) → All)
      → AllByRecursion IsOne (drop (i + 1) xs) → All
  one_legal IsOne is so_far others = so_far (subst (AllByRecursion IsOne) (sym front) (is, others))
