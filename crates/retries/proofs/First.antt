-- There is one answer to which request wore out first; it is computed, and a counter of one request at a time finds it.
use Rattle.text_and_lists.proofs.Members.{false_true, some_is, true_or_false}
use Rattle.retries.proofs.Lists.{parted}
use Rattle.retries.proofs.Misses.{streak_other, streak_same, worn_grows, worn_more, worn_now}
use Rattle.retries.proofs.SameRequest.{same_is, same_self}
use Rattle.retries.specs.Operation.{Follows}
use Rattle.retries.specs.Retries.{Counting, Item, Retried, fresh, has_worn, is_zero, spent_in, step, wants_of, wears, worn_in}
use Rattle.retries.specs.Same.{same_request}
use Rattle.retries.specs.Worn.{IsFirstWorn, IsWorn, NoneWorn, WornFirst, first_worn_after, streak, was_answered}
use Rattle.s3_types.specs.declared.journal.Entry.{Entry}
use Rattle.s3_types.specs.declared.journal.Outcome.{Outcome}
use Rattle.s3_types.specs.declared.request.Request.{Request}
use Rattle.std.proofs.Common.{Bool, List, None, Option, Some, ap, append-nil, append_assoc, arith, cond, false, inl, inr, is_some, nat_lt}
use Rattle.std.proofs.Common.{not, refl, subst, suc, sym, true, zero, ℕ, [], ◌&&◌, ◌++◌, ◌+◌, ◌<◌, ◌||◌, ◌∙◌, ◌∷◌, ◌≡◌}
use Rattle.std.proofs.Math.Bool.{and-false, and-true}
use Rattle.std.proofs.lemmas.Bool.{ltb-false, ltb-true}

-- ---- one answer

worn_of_first : (retries : ℕ) (es : List Entry) (r : Request) → IsFirstWorn retries es r → IsWorn retries r es
worn_of_first retries es r f =
    let e : (f.before ++ f.last ∷ []) ++ f.later ≡ es = append_assoc f.before (f.last ∷ []) f.later ∙ sym f.parts in
    subst (λ l. IsWorn retries r l) e (worn_more retries r (f.before ++ f.last ∷ []) f.later f.worn)

-- No request wore out before the first that did, so of two first ones neither can be earlier.
too_early : (retries : ℕ) (es : List Entry) (r q : Request) (f : IsFirstWorn retries es r) (g : IsFirstWorn retries es q) (zs : List Entry)
    → g.before ≡ f.before ++ f.last ∷ zs → ⊥
too_early retries es r q f g zs e =
    let w : IsWorn retries r ((f.before ++ f.last ∷ []) ++ zs) = worn_more retries r (f.before ++ f.last ∷ []) zs f.worn in
    let i : (f.before ++ f.last ∷ []) ++ zs ≡ g.before = append_assoc f.before (f.last ∷ []) zs ∙ sym e in
    g.first r (subst (λ l. IsWorn retries r l) i w)

one_first : (retries : ℕ) (es : List Entry) (r q : Request) → IsFirstWorn retries es r → IsFirstWorn retries es q → r ≡ q
one_first retries es r q f g = elim (parted f.before f.last f.later g.before g.last g.later (sym f.parts ∙ g.parts)) [
  | inl s ↦ sym f.is_of ∙ ap (λ (v : Entry). v.request) s.1 ∙ g.is_of
  | inr s ↦ elim s [ inl z ↦ absurd (too_early retries es r q f g z.0 z.1) | inr z ↦ absurd (too_early retries es q r g f z.0 z.1) ]
]

pub only_one : (retries : ℕ) (es : List Entry) (a b : Option Request) → WornFirst retries es a → WornFirst retries es b → a ≡ b
only_one retries es None None h k = refl
only_one retries es None (Some q) h k = absurd (h q (worn_of_first retries es q k))
only_one retries es (Some r) None h k = absurd (k r (worn_of_first retries es r h))
only_one retries es (Some r) (Some q) h k = ap Some (one_first retries es r q h k)

by_first : (retries : ℕ) (es : List Entry) (o : Option Request) → WornFirst retries es o → (b : Bool) → b ≡ is_some o
    → (b ≡ true → (r : Request) × IsWorn retries r es) × ((r : Request) → IsWorn retries r es → b ≡ true)
by_first retries es None h b e = (λ t. absurd (false_true e t), λ r w. absurd (h r w))
by_first retries es (Some r) h b e = (λ t. (r, worn_of_first retries es r h), λ q w. e)

-- ---- it is computed

snoc : (done : List Entry) (e : Entry) (es : List Entry) → (done ++ e ∷ []) ++ es ≡ done ++ e ∷ es
snoc done e es = append_assoc done (e ∷ []) es

lost_one : (retries : ℕ) (done : List Entry) (e : Entry) → NoneWorn retries done
    → nat_lt retries (streak e.request (done ++ e ∷ [])) ≡ false → NoneWorn retries (done ++ e ∷ [])
lost_one retries done e none low q w = elim (worn_grows retries q done e w) [
  | inl v ↦ none q v
  | inr v ↦
      let s = ap (λ p. streak p (done ++ e ∷ [])) (same_is q e.request v.0) in let b = v.1 in
      absurd (omega (arith, s, b, ltb-false retries (streak e.request (done ++ e ∷ [])) low))
]

pub computed : (retries : ℕ) (done es : List Entry) → NoneWorn retries done
    → WornFirst retries (done ++ es) (first_worn_after retries done es)
computed retries done [] none = subst (λ l. NoneWorn retries l) (sym (append-nil done)) none
computed retries done (e ∷ es) none = elim (true_or_false (nat_lt retries (streak e.request (done ++ e ∷ [])))) [
  | inl h ↦ rw h (record {
    before = done;
    last = e;
    later = es;
    parts = refl;
    is_of = refl;
    worn = worn_now retries e.request
        (done ++ e ∷ []) (ltb-true _ _ h);
    first = none;
  })
  | inr h ↦ rw (h, ← snoc done e es) (computed retries (done ++ e ∷ []) es (lost_one retries done e none h))
]

-- No request wore out before anything was sent.
pub none_sent : (retries : ℕ) → NoneWorn retries []
none_sent retries r w = let h : None ≡ Some false = w.1 0 (omega arith) in cc

-- ---- a counter of one request at a time

-- The last sends of the request in hand got no answer, as many as are no longer to spare; no other request has missed any.
pub record Counts (retries : ℕ) (done : List Entry) (hand : Option Request) (spare : ℕ) : Type 0 where
  pub held : (q : Request) → hand ≡ Some q → streak q done + spare ≡ retries
  pub others : (q : Request) → (hand ≡ Some q → ⊥) → streak q done ≡ 0
  pub none : NoneWorn retries done

all_still : (retries : ℕ) (done : List Entry) (hand : Option Request) → ((q : Request) → streak q done ≡ 0) → NoneWorn retries done
    → Counts retries done hand retries
all_still retries done hand still none = record {
  held = λ q h. let z : streak q done ≡ 0 = still q in omega arith;
  others = λ q h. still q;
  none = none;
}

-- After an answer no request has missed any.
answered_one : (retries spare : ℕ) (done : List Entry) (hand later : Option Request) (e : Entry) → Counts retries done hand spare
    → hand ≡ Some e.request → was_answered e.outcome ≡ true → Counts retries (done ++ e ∷ []) later retries
answered_one retries spare done hand later e c asked told =
    let none_missed : (q : Request) → streak q (done ++ e ∷ []) ≡ 0 = λ q. elim (true_or_false (same_request q e.request)) [
      | inl s ↦ streak_same q done e s ∙ ap (λ b. cond b 0 (streak q done + 1)) told
      | inr s ↦ streak_other q done e s ∙ c.others q (λ h. false_true (rw (← some_is (sym asked ∙ h)) at s) (same_self e.request))
    ] in
    all_still retries (done ++ e ∷ []) later none_missed (λ q w. elim (worn_grows retries q done e w) [
      | inl v ↦ c.none q v
      | inr v ↦ let z : streak q (done ++ e ∷ []) ≡ 0 = none_missed q in let b : retries < streak q
          (done ++ e ∷ []) = v.1 in absurd (omega arith)
    ])

missed_here : (retries spare : ℕ) (done : List Entry) (hand : Option Request) (e : Entry) → Counts retries done hand spare
    → hand ≡ Some e.request → was_answered e.outcome ≡ false → streak e.request (done ++ e ∷ []) + spare ≡ retries + 1
missed_here retries spare done hand e h g f = grind (arith, streak_same, same_self)

-- After a send without an answer the request in hand has missed one more.
missed_one : (retries n : ℕ) (done : List Entry) (hand : Option Request) (e : Entry) → Counts retries done hand (suc n)
    → hand ≡ Some e.request → was_answered e.outcome ≡ false → Counts retries (done ++ e ∷ []) hand n
missed_one retries n done hand e c asked told =
    let more : streak e.request (done ++ e ∷ []) + suc n ≡ retries + 1 = missed_here retries (suc n) done hand e c asked told in
    record {
      held = λ q h. let i : e.request ≡ q = let j : Some e.request ≡ Some q = sym asked ∙ h in cc in let s : streak e.request
          (done ++ e ∷ []) ≡ streak q (done ++ e ∷ []) = ap (λ v. streak v (done ++ e ∷ [])) i in omega arith;
      others = λ q h. elim (true_or_false (same_request q e.request)) [
        | inl s ↦ absurd (h (asked ∙ ap Some (sym (same_is q e.request s))))
        | inr s ↦ streak_other q done e s ∙ c.others q h
      ];
      none = λ q w. elim (worn_grows retries q done e w) [
        | inl v ↦ c.none q v
        | inr v ↦ let s : streak q (done ++ e ∷ []) ≡ streak e.request (done ++ e ∷ []) = ap (λ p. streak p (done ++ e ∷ []))
            (same_is q e.request v.0) in let b : retries < streak q (done ++ e ∷ []) = v.1 in absurd (omega arith)
      ];
    }

-- ---- any operation that counts one request at a time

module _ {M : Type 0} (retries : ℕ) (wants : M → Option Request) (tells : M → Outcome → M) (spare : M → ℕ) (holds : M → Bool)
    (c : Counting retries wants tells spare holds) where
  abbrev Spends : List Entry → M → List Entry → Type 0
  Spends done m es = holds m ≡ true → Counts retries done (wants m) (spare m) → Follows wants tells m es
      → WornFirst retries (done ++ es) (spent_in tells spare m es)

  spent_missed : (done : List Entry) (m : M) (e : Entry) (es : List Entry) (n : ℕ) → spare m ≡ n → holds m ≡ true
      → Counts retries done (wants m) (spare m) → wants m ≡ Some e.request → was_answered e.outcome ≡ false
      → Spends (done ++ e ∷ []) (tells m e.outcome) es → Follows wants tells (tells m e.outcome) es
      → WornFirst retries (done ++ e ∷ es) (cond (is_zero n) (Some e.request) (spent_in tells spare (tells m e.outcome) es))
  spent_missed done m e es zero is i k asked told later f =
      let s : streak e.request (done ++ e ∷ []) + spare m ≡ retries + 1 = missed_here retries (spare m) done (wants m) e k asked told in
      record {
        before = done;
        last = e;
        later = es;
        parts = refl;
        is_of = refl;
        worn = worn_now retries e.request (done ++ e ∷ [])
            (omega arith);
        first = k.none;
      }
  spent_missed done m e es (suc n) is i k asked told later f =
      let a = c.again m e.outcome n i told is in
      rw (← snoc done e es) (later (c.kept m e.outcome i) (rw (a.0, a.1) (missed_one retries n done (wants m) e (rw is at k) asked told)) f)

  spent : (done : List Entry) (m : M) (es : List Entry) → Spends done m es
  spent done m [] i k f = rw (append-nil done) k.none
  spent done m (e ∷ es) i k f = elim (true_or_false (was_answered e.outcome)) [
    | inl told ↦
        let d = answered_one retries (spare m) done (wants m) (wants (tells m e.outcome)) e k f.0 told in
        rw (told, and-false (is_zero (spare m)), ← snoc done e es) (spent (done ++ e ∷ []) (tells m e.outcome) es (c.kept m e.outcome i)
        (rw (c.answered m e.outcome i told) d) f.1)
    | inr told ↦ rw (told, and-true (is_zero (spare m))) (spent_missed done m e es (spare m) refl i k f.0 told
        (spent (done ++ e ∷ []) (tells m e.outcome) es) f.1)
  ]

  pub spent_first : (m : M) → holds m ≡ true → spare m ≡ retries → (es : List Entry) → Follows wants tells m es
      → WornFirst retries es (spent_in tells spare m es)
  spent_first m i is es f = spent [] m es i (subst (λ n. Counts retries [] (wants m) n) (sym is)
      (all_still retries [] (wants m) (λ q. refl) (none_sent retries))) f

-- ---- an operation that receives replies counts so

module _ {M : Type 0} (retries : ℕ) (asks : M → Option Request) (after : M → Item → M) where
  answered : (t : Retried M) (o : Outcome) → was_answered o ≡ true → (step retries after t o).spare ≡ retries
  answered t o h = grind arith

  again : (t : Retried M) (o : Outcome) (n : ℕ) → was_answered o ≡ false → t.spare ≡ suc n
      → ((step retries after t o).spare ≡ n) × (asks (step retries after t o).operation ≡ asks t.operation)
  again t o n h g = grind arith

  counting : Counting retries (wants_of asks) (step retries after) (λ t. t.spare) (λ t. true)
  counting = record { kept = λ t o h. refl; answered = λ t o h k. answered t o k; again = λ t o n h k e. again t o n k e }

  wears_is : (t : Retried M) (o : Outcome) → wears t o ≡ is_zero t.spare && not (was_answered o)
  wears_is t o = grind arith

  worn_is : (t : Retried M) (es : List Entry) → worn_in retries after t es ≡ spent_in (step retries after) (λ t. t.spare) t es
  worn_is t [] = refl
  worn_is t (e ∷ es) = rw (wears_is t e.outcome, worn_is (step retries after t e.outcome) es) refl

  pub counted_first : (m : M) (es : List Entry) → Follows (wants_of asks) (step retries after) (fresh retries m) es
      → WornFirst retries es (worn_in retries after (fresh retries m) es)
  counted_first m es f =
      rw (worn_is (fresh retries m) es) (spent_first retries (wants_of asks) (step retries after) (λ t. t.spare) (λ t. true) counting
      (fresh retries m) refl refl es f)

  or_some : (b c : Bool) (r : Request) (o : Option Request) → c ≡ is_some o → b || c ≡ is_some (cond b (Some r) o)
  or_some b c r o h = grind arith

  pub some_worn : (t : Retried M) (es : List Entry) → has_worn retries after t es ≡ is_some (worn_in retries after t es)
  some_worn t [] = refl
  some_worn t (e ∷ es) = or_some (wears t e.outcome) _ e.request _ (some_worn (step retries after t e.outcome) es)

  pub exactly_worn : (m : M) (es : List Entry) → Follows (wants_of asks) (step retries after) (fresh retries m) es
      → (has_worn retries after (fresh retries m) es ≡ true → (r : Request) × IsWorn retries r es)
      × ((r : Request) → IsWorn retries r es → has_worn retries after (fresh retries m) es ≡ true)
  exactly_worn m es f = by_first retries es (worn_in retries after (fresh retries m) es) (counted_first m es f) _
      (some_worn (fresh retries m) es)
