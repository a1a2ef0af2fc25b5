-- If no two tasks write the same path, a choice writes at a path what its task's attempt writes there.
use Rattle.std.proofs.Common.{Bool, List, None, Option, Some, [], ap, false, inl, inr, refl, subst, sym, true, ℕ, ◌∙◌, ◌∷◌, ◌≡◌}
use Rattle.std.proofs.Common.{◌⊎◌, ◌||◌}
use Rattle.std.proofs.lemmas.Bool.{true≢false}
use Rattle.std.proofs.lemmas.List.Folds.{list_any_at}
use Rattle.std.specs.List.{AllByRecursion, Any, Contains}
use Rattle.std.specs.Prelude.{is_some}
use Rattle.soundness.specs.Claims.{Apart, Attempts, Chooses, Files, chosen_at, file_at, is_claimed, or_else, writes}

-- ---- tests

pub or_left : (a b : Bool) → a ≡ true → (a || b) ≡ true
or_left a b h = rw h refl

pub or_right : (a b : Bool) → b ≡ true → (a || b) ≡ true
or_right true b h = refl
or_right false b h = h

pub neither : (a b : Bool) → (a || b) ≡ false → (a ≡ false) × (b ≡ false)
neither true b h = absurd (true≢false h)
neither false b h = (refl, h)

pub either : (b : Bool) → (b ≡ true) ⊎ (b ≡ false)
either true = inl refl
either false = inr refl

not_both : (b : Bool) → b ≡ true → b ≡ false → ⊥
not_both b h g = true≢false (sym h ∙ g)

-- ---- paths of nobody

pub not_written : {I : Type 0} (task : Attempts I) (files : Files I) (p : List ℕ) → Contains task files → writes task p ≡ false
    → file_at files p ≡ None
not_written {I} task files p i none = by (file_at files p) refl
  where
    by : (o : Option I) → file_at files p ≡ o → file_at files p ≡ None
    by None e = e
    by (Some x) e = absurd (not_both (writes task p) (list_any_at (λ fs. is_some (file_at fs p)) task i.0 files i.1 (ap (λ
        (fs : Files I). is_some (file_at fs p)) i.2 ∙ ap is_some e)) none)

pub none_chosen : {I : Type 0} (tasks : List (Attempts I)) (choice : List (Files I)) (p : List ℕ) → Chooses tasks choice
    → is_claimed tasks p ≡ false → chosen_at choice p ≡ None
none_chosen [] [] p h e = refl
none_chosen [] (files ∷ choice) p h e = absurd h
none_chosen (task ∷ tasks) [] p h e = absurd h
none_chosen (task ∷ tasks) (files ∷ choice) p h e =
    let no = neither (writes task p) (is_claimed tasks p) e in
    ap (λ o. or_else o (chosen_at choice p)) (not_written task files p h.0 no.0) ∙ none_chosen tasks choice p h.1 no.1

-- ---- paths of a task

or_none : {I : Type 0} (o : Option I) → or_else o None ≡ o
or_none None = refl
or_none (Some x) = refl

-- At the first task's paths, the choice writes what that task's attempt writes.
pub first_chosen : {I : Type 0} (task : Attempts I) (tasks : List (Attempts I)) (files : Files I) (choice : List (Files I))
    (p : List ℕ) → Apart (task ∷ tasks) → Chooses tasks choice → writes task p ≡ true → chosen_at (files ∷ choice) p ≡ file_at files p
first_chosen task tasks files choice p apart h w = ap (or_else (file_at files p)) (none_chosen tasks choice p h (apart.0 p w))
    ∙ or_none (file_at files p)

-- Elsewhere, it writes what the other attempts write.
pub rest_chosen : {I : Type 0} (task : Attempts I) (files : Files I) (choice : List (Files I)) (p : List ℕ) → Contains task files
    → writes task p ≡ false → chosen_at (files ∷ choice) p ≡ chosen_at choice p
rest_chosen task files choice p i w = ap (λ o. or_else o (chosen_at choice p)) (not_written task files p i w)

-- the first task does not write the others' paths
pub others : {I : Type 0} (task : Attempts I) (tasks : List (Attempts I)) (p : List ℕ) → Apart (task ∷ tasks)
    → is_claimed tasks p ≡ true → writes task p ≡ false
others task tasks p apart o = elim (either (writes task p)) [ inl w ↦ absurd (not_both (is_claimed tasks p) o (apart.0 p w)) | inr n ↦ n ]

-- ---- one choice, and an attempt of each task

-- At the paths of its task, the attempt writes what `D` demands.
abbrev pub Right : {I : Type 0} → (List ℕ → Option I → Type 0) → Attempts I → Files I → Type 0
Right D task files = (p : List ℕ) → writes task p ≡ true → D p (file_at files p)

-- At the paths of these tasks, the choice writes what `D` demands.
abbrev pub RightChoice : {I : Type 0} → (List ℕ → Option I → Type 0) → List (Attempts I) → List (Files I) → Type 0
RightChoice D tasks choice = (p : List ℕ) → is_claimed tasks p ≡ true → D p (chosen_at choice p)

pub each_right : {I : Type 0} (D : List ℕ → Option I → Type 0) (tasks : List (Attempts I)) (choice : List (Files I)) → Apart tasks
    → Chooses tasks choice → RightChoice D tasks choice → AllByRecursion (λ task. Any (Right D task) task) tasks
each_right D [] choice apart h right = tt
each_right D (task ∷ tasks) [] apart h right = absurd h
each_right D (task ∷ tasks) (files ∷ choice) apart h right = (
  (
    h.0.0,
    files,
    h.0.1,
    h.0.2,
    λ p w. subst (D p) (first_chosen task tasks files choice p apart h.1 w) (right p (or_left (writes task p)
        (is_claimed tasks p) w)),
  ),
  each_right D tasks choice apart.1 h.1 (λ p o. subst (D p) (rest_chosen task files choice p h.0 (others task tasks p apart o)) (right p
      (or_right (writes task p) (is_claimed tasks p) o))),
)

pub some_choice : {I : Type 0} (D : List ℕ → Option I → Type 0) (tasks : List (Attempts I)) → Apart tasks
    → AllByRecursion (λ task. Any (Right D task) task) tasks → (choice : List
    (Files I)) × Chooses tasks choice × RightChoice D tasks choice
some_choice D [] apart each = ([], tt, λ p o. absurd (true≢false (sym o)))
some_choice {I} D (task ∷ tasks) apart each = put each.0 (some_choice D tasks apart.1 each.1)
  where
    put : Any (Right D task) task → ((choice : List (Files I)) × Chooses tasks choice × RightChoice D tasks choice)
        → (choice : List (Files I)) × Chooses (task ∷ tasks) choice × RightChoice D (task ∷ tasks) choice
    put first rest = (first.1 ∷ rest.0, ((first.0, first.2, first.3), rest.1), λ p o. here p o (either (writes task p)))
      where
        here : (p : List ℕ) → is_claimed (task ∷ tasks) p ≡ true → (writes task p ≡ true) ⊎ (writes task p ≡ false)
            → D p (chosen_at (first.1 ∷ rest.0) p)
        here p o (inl w) = subst (D p) (sym (first_chosen task tasks first.1 rest.0 p apart rest.1 w)) (first.4 p w)
        here p o (inr n) = subst (D p) (sym (rest_chosen task first.1 rest.0 p (first.0, first.2, first.3) n)) (rest.2 p (sym (ap
            (λ b. b || is_claimed tasks p) n) ∙ o))
