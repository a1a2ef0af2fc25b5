-- Each reason shows that a run is not sound with one more moment.
use Rattle.std.proofs.Common.{List, None, Option, Some, [], ap, arith, false, get_or, inl, inr, length, refl, subst, sym, true, ℕ}
use Rattle.std.proofs.Common.{◌<◌, ◌∙◌, ◌∷◌, ◌≡◌, ◌≢◌}
use Rattle.std.proofs.lemmas.Bool.{false≢true}
use Rattle.std.proofs.lemmas.List.Folds.{Any-from_list_any}
use Rattle.std.proofs.lemmas.Option.{get_or_from_slice_get, slice_get_within}
use Rattle.std.specs.List.{All, Any}
use Rattle.std.specs.Prelude.{is_some, slice_get}
use Rattle.soundness.specs.Claims.{Attempts, Claim, file_at, is_claimed, is_kept, writes}
use Rattle.soundness.specs.Moments.{Fits, MayShow, Moment, Shown, Unchanged}
use Rattle.judging.specs.Judging.{AttemptExplains, EachTaskNext, JudgedNext, StillExplains}
use Rattle.judging.specs.TaskByTask.{ReasonsTell}
use Rattle.judging.specs.Reasons.{AttemptFits, Early, Foreign, Half, Left, Lost, Missing, Stale, Torn}
use Rattle.judging.proofs.Owned.{either}

none_is : {I : Type 0} (x : I) → None ≡ Some x → ⊥
none_is x e = cc

some_of : {I : Type 0} (o : Option I) → is_some o ≡ true → (x : I) × (o ≡ Some x)
some_of None e = absurd (false≢true e)
some_of (Some x) e = (x, refl)

module _ {I : Type 0} (w : Claim I) (opening : Shown I) where
  -- If readers see the opening files, every file may be written.
  calm_may : (m : Moment I) → Unchanged opening m → (p : List ℕ) (f : Option I) → MayShow w opening m p f
  calm_may m calm p f = record {
    before = λ b. calm.shows p;
    between = λ b. record { only = λ x s. inl (sym (calm.shows p) ∙ s); stays = λ x s k none. calm.shows p ∙ s };
    stale = λ e. calm.shows p;
    whole = λ e. absurd (calm.unmarked e);
  }

  -- what readers may see fits, also before the commit begins
  fits_of : (m : Moment I) (p : List ℕ) (f : Option I) → MayShow w opening m p f → Fits (is_kept w p) (opening p) f (m.shown p)
  fits_of m p f h = elim (either m.begun) [
    | inl b ↦ h.between b
    | inr b ↦ record { only = λ x s. inl (sym (h.before b) ∙ s); stays = λ x s k none. h.before b ∙ s }
  ]

  module _ (moments : List (Moment I)) (m : Moment I) where
    -- an attempt of one task that explained all moments before and explains this one
    abbrev One : Attempts I → Type 0
    One task = Any (λ files. StillExplains w opening moments task files × AttemptExplains w opening task m files) task

    one_at : EachTaskNext w opening moments m → (t : ℕ) (task : Attempts I) → slice_get w.tasks t ≡ Some task → One task
    one_at c t task e = subst One (get_or_from_slice_get w.tasks t task task e)
        (c.each t task (slice_get_within w.tasks t task e))

    -- at each path readers may see what they see with the file of some attempt, or with none
    may : JudgedNext w opening moments m → (p : List ℕ) (Q : Option I → Type 0) → Q None
        → All (λ task. All (λ files. Q (file_at files p)) task) w.tasks → (f : Option I) × Q f × MayShow w opening m p f
    may (inl calm) p Q none some = (None, none, calm_may m calm.1 p None)
    may (inr c) p Q none some = elim (either (is_claimed w.tasks p)) [
      | inl o ↦ let a = Any-from_list_any (λ task. writes task p) w.tasks o in by a.0 a.1 a.2 a.3 a.4
      | inr o ↦ (None, none, c.others p o)
    ]
      where
        by : (k : ℕ) (task : Attempts I) → k < length w.tasks → get_or w.tasks k task ≡ task → writes task p ≡ true
            → (f : Option I) × Q f × MayShow w opening m p f
        by k task l e o =
            let a = subst One e (c.each k task l) in
            let q = subst (λ t. All (λ files. Q (file_at files p)) t) e (some k task l) in
            (file_at a.1 p, subst (λ files. Q (file_at files p)) a.3 (q a.0 a.1 a.2), a.4.1 p o)

    -- If no attempt writes the path, they may see it with none.
    may_none : JudgedNext w opening moments m → (p : List ℕ) → is_claimed w.tasks p ≡ false → MayShow w opening m p None
    may_none (inl calm) p o = calm_may m calm.1 p None
    may_none (inr c) p o = c.others p o

    may_some : JudgedNext w opening moments m → (p : List ℕ) → (f : Option I) × MayShow w opening m p f
    may_some judged p = let r = may judged p (λ f. Unit {0}) tt (λ k d l j c i. tt) in (r.0, r.2)

    early : (p : List ℕ) → Early opening m p → JudgedNext w opening moments m → ⊥
    early p e judged = e.differs ((may_some judged p).1.before e.before)

    stale : (p : List ℕ) → Stale opening m p → JudgedNext w opening moments m → ⊥
    stale p e judged = e.differs ((may_some judged p).1.stale e.old)

    missing : (t : ℕ) → Missing w opening m t → JudgedNext w opening moments m → ⊥
    missing t e (inl calm) = elim e.needed [ inl d ↦ d.1 (calm.1.shows d.0) | inr new ↦ calm.1.unmarked new ]
    missing t e (inr c) = let a = one_at c t [] e.none in let l : a.0 < 0 = a.2 in omega (arith, l)

    foreign : (changed : List (List ℕ)) (p : List ℕ) → Foreign w opening m changed p → JudgedNext w opening moments m → ⊥
    foreign changed p e judged = by r.0 r.1 (fits_of m p r.0 r.2)
      where
        r : (f : Option I) × (f ≢ Some e.content) × MayShow w opening m p f
        r = may judged p (λ f. f ≢ Some e.content) (none_is e.content) e.unclaimed

        by : (f : Option I) → f ≢ Some e.content → Fits (is_kept w p) (opening p) f (m.shown p) → ⊥
        by f other fits = elim (fits.only e.content e.seen) [ inl o ↦ e.differs o | inr o ↦ other o ]

    lost : (changed : List (List ℕ)) (p : List ℕ) → Lost w opening m changed p → JudgedNext w opening moments m → ⊥
    lost changed p e judged =
        let o = some_of (opening p) e.existed in
        none_is o.0 (sym e.gone ∙ (fits_of m p None (may_none judged p e.unclaimed)).stays o.0 o.1 e.kept refl)

    left : (p : List ℕ) → Left w opening m p → JudgedNext w opening moments m → ⊥
    left p e judged =
        let o = some_of (opening p) e.existed in
        let gone = ((may_none judged p e.unclaimed).whole e.new).goes refl o.0 o.1 e.replaced in
        false≢true (sym (ap is_some gone) ∙ e.still)

    torn : (t : ℕ) → Torn w opening moments m t → JudgedNext w opening moments m → ⊥
    torn t e (inl calm) = by e.task e.attempted e.none
      where
        by : (task : Attempts I) → task ≢ []
            → All (λ files. StillExplains w opening moments task files → AttemptFits w opening task m files → ⊥) task → ⊥
        by [] some none = some refl
        by (files ∷ others) some none = none 0 files (omega arith) (λ k d l p o. calm_may (get_or moments k d) (calm.0 k d l) p
            (file_at files p)) (λ p o. fits_of m p (file_at files p) (calm_may m calm.1 p (file_at files p)))
    torn t e (inr c) =
        let a = one_at c t e.task e.here in
        let none = subst (λ files. StillExplains w opening moments e.task files → AttemptFits w opening e.task m files → ⊥) a.3
        (e.none a.0 a.1 a.2) in
        none a.4.0 (λ p o. fits_of m p (file_at a.1 p) (a.4.1 p o))

    half : (t : ℕ) → Half w opening moments m t → JudgedNext w opening moments m → ⊥
    half t e (inl calm) = calm.1.unmarked e.new
    half t e (inr c) =
        let a = one_at c t e.task e.here in
        let none = subst (λ files. StillExplains w opening moments e.task files → AttemptExplains w opening e.task m files → ⊥) a.3
        (e.none a.0 a.1 a.2) in
        none a.4.0 a.4.1

pub reasons_tell : (I : Type 0) → ReasonsTell I
reasons_tell I = record {
  early = early;
  missing = missing;
  foreign = foreign;
  lost = lost;
  torn = torn;
  stale = stale;
  half = half;
  left = left;
}
