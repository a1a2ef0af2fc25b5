-- A judge may look at one moment at a time.
use Rattle.std.proofs.Common.{List, Some, [], get_or, inl, inr, refl, ◌++◌, ◌∷◌}
use Rattle.std.proofs.lemmas.List.Elements.{All-pop, All-push}
use Rattle.std.specs.List.{All, Any}
use Rattle.soundness.specs.Claims.{Attempts, Claim}
use Rattle.soundness.specs.Moments.{Unchanged, Moment, Shown}
use Rattle.judging.specs.Judging.{OthersFit, AttemptExplains, StillExplains, Judged, JudgedNext}
use Rattle.judging.specs.TaskByTask.{InTurn}
use Rattle.judging.proofs.ByTask.{by_task}

pub both_of : {X : Type 0} (P : X → Type 0) (xs : List X) (x : X) → All P (xs ++ x ∷ []) → All P xs × P x
both_of P xs x h = let r = All-pop P (xs ++ x ∷ []) xs (Some x) refl h in (r.0, r.1)

module _ {I : Type 0} (w : Claim I) (opening : Shown I) (moments : List (Moment I)) (m : Moment I) where
  on : Judged w opening (moments ++ m ∷ []) → JudgedNext w opening moments m
  on (inl calm) = inl (both_of (Unchanged opening) moments m calm)
  on (inr c) = inr (record { each = λ k d l. left (get_or w.tasks k d) (c.each k d l); others_before = clear.0; others = clear.1 })
    where
      clear : All (OthersFit w opening) moments × OthersFit w opening m
      clear = both_of (OthersFit w opening) moments m c.others

      left : (task : Attempts I) → Any (StillExplains w opening (moments ++ m ∷ []) task) task
          → Any (λ files. StillExplains w opening moments task files × AttemptExplains w opening task m files) task
      left task a = (a.0, a.1, a.2, a.3, both_of (λ n. AttemptExplains w opening task n a.1) moments m a.4)

  back : JudgedNext w opening moments m → Judged w opening (moments ++ m ∷ [])
  back (inl calm) = inl (All-push (Unchanged opening) moments m calm.0 calm.1)
  back (inr c) = inr (record {
    each = λ k d l. left (get_or w.tasks k d) (c.each k d l);
    others =
        All-push (OthersFit w opening) moments m c.others_before c.others;
  })
    where
      left : (task : Attempts I) → Any
          (λ files. StillExplains w opening moments task files × AttemptExplains w opening task m files) task
          → Any (StillExplains w opening (moments ++ m ∷ []) task) task
      left task a = (a.0, a.1, a.2, a.3, All-push (λ n. AttemptExplains w opening task n a.1) moments m a.4.0 a.4.1)

pub in_turn : (I : Type 0) → InTurn I
in_turn I w apart opening moments m =
    let law = by_task I w apart opening (moments ++ m ∷ []) in
    (λ sound. on w opening moments m (law.0 sound), λ judged. law.1 (back w opening moments m judged))
