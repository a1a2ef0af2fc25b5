-- A judge may look at each task on its own.
use Rattle.std.proofs.Common.{List, Option, false, get_or, inl, inr, length, subst, sym, true, ℕ, ◌<◌, ◌≡◌, ◌⊎◌}
use Rattle.std.proofs.lemmas.List.Elements.{All-from_recursion, recursion_from_All}
use Rattle.std.specs.List.{All, Any}
use Rattle.soundness.specs.Claims.{Apart, Attempts, Chooses, Claim, Files, chosen_at, is_claimed}
use Rattle.soundness.specs.Moments.{Explains, MayShow, Moment, Shown}
use Rattle.judging.specs.Judging.{EachTask, StillExplains}
use Rattle.judging.specs.TaskByTask.{ByTask}
use Rattle.judging.proofs.Owned.{Right, RightChoice, each_right, either, none_chosen, some_choice}

-- At each of the moments, readers may see what they see at the path if the chosen attempts write `f` there.
abbrev Stands : {I : Type 0} → Claim I → Shown I → List (Moment I) → List ℕ → Option I → Type 0
Stands w opening moments p f = All (λ m. MayShow w opening m p f) moments

module _ {I : Type 0} (w : Claim I) (opening : Shown I) (moments : List (Moment I)) where
  chosen : (choice : List (Files I)) → Apart w.tasks → Chooses w.tasks choice → All (Explains w opening choice) moments
      → EachTask w opening moments
  chosen choice apart h does = record {
    each = λ k d l. left (get_or w.tasks k d) (all k d l);
    others = λ k d l p o. subst (MayShow w opening (get_or moments k d) p) (none_chosen w.tasks choice p h o) (does k d l p);
  }
    where
      all : All (λ task. Any (Right (Stands w opening moments) task) task) w.tasks
      all = All-from_recursion (λ task. Any (Right (Stands w opening moments) task) task) w.tasks (each_right
          (Stands w opening moments) w.tasks choice apart h (λ p o k d l. does k d l p))

      left : (task : Attempts I) → Any (Right (Stands w opening moments) task) task → Any (StillExplains w opening moments task) task
      left task a = (a.0, a.1, a.2, a.3, λ k d l p o. a.4 p o k d l)

  one_choice : Apart w.tasks → EachTask w opening moments → (choice : List (Files I)) × Chooses w.tasks choice × All
      (Explains w opening choice) moments
  one_choice apart c = put (some_choice (Stands w opening moments) w.tasks apart (recursion_from_All (λ task. Any (Right
      (Stands w opening moments) task) task) w.tasks all))
    where
      right : (task : Attempts I) → Any (StillExplains w opening moments task) task → Any (Right (Stands w opening moments) task) task
      right task a = (a.0, a.1, a.2, a.3, λ p o k d l. a.4 k d l p o)

      all : All (λ task. Any (Right (Stands w opening moments) task) task) w.tasks
      all k d l = right (get_or w.tasks k d) (c.each k d l)

      put : ((choice : List (Files I)) × Chooses w.tasks choice × RightChoice (Stands w opening moments) w.tasks choice)
          → (choice : List (Files I)) × Chooses w.tasks choice × All (Explains w opening choice) moments
      put r = (r.0, r.1, λ k d l p. here k d l p (either (is_claimed w.tasks p)))
        where
          here : (k : ℕ) (d : Moment I) → k < length moments → (p : List ℕ)
              → (is_claimed w.tasks p ≡ true) ⊎ (is_claimed w.tasks p ≡ false)
              → MayShow w opening (get_or moments k d) p (chosen_at r.0 p)
          here k d l p (inl o) = r.2 p o k d l
          here k d l p (inr n) = subst (MayShow w opening (get_or moments k d) p) (sym (none_chosen w.tasks r.0 p r.1 n))
              (c.others k d l p n)

pub by_task : (I : Type 0) → ByTask I
by_task I w apart opening moments = (
  λ sound. elim sound [ inl calm ↦ inl calm | inr c ↦ inr (chosen w opening moments c.0 apart c.1 c.2) ],
  λ judged. elim judged [ inl calm ↦ inl calm | inr c ↦ inr (one_choice w opening moments apart c) ],
)
