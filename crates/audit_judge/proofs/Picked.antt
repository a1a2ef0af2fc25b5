-- At a new marker a judge picks an attempt of each task.
use Rattle.audit_judge.proofs.Narrowed.{SomeOf, alive}
use Rattle.audit_judge.proofs.Steps.{full_in, last_calm, tasks_attempted}
use Rattle.audit_judge.specs.Bench.{Bench, claim, opened}
use Rattle.audit_judge.specs.Following.{Follows}
use Rattle.audit_judge.specs.Narrowed.{has_flag}
use Rattle.audit_judge.specs.Picking.{ExplainsAll, NoPick}
use Rattle.audit_claims.specs.Claims.{Tags}
use Rattle.judging.specs.Judging.{StillExplains}
use Rattle.judging.specs.Listed.{Numbered, files_of, numbered, of_task}
use Rattle.soundness.specs.Claims.{Files}
use Rattle.soundness.specs.Moments.{Moment}
use Rattle.soundness.specs.declared.marker.Marker.TheVariants as markers
use Rattle.std.proofs.Common.{Bool, List, [], false, inl, inr, refl, true, ℕ, ◌<◌, ◌∷◌, ◌≡◌}
use Rattle.std.proofs.lemmas.List.Elements.{recursion_from_All}
use Rattle.std.specs.List.{AllByRecursion}

none_of : (E : Files Tags → Type 0) (attempts : Numbered Tags) → SomeOf E (files_of attempts)
    → AllByRecursion (λ x. E x.1 → ⊥) attempts → ⊥
none_of E [] some none = some
none_of E (a ∷ attempts) (inl e) none = none.0 e
none_of E (a ∷ attempts) (inr some) none = none_of E attempts some none.1

pub picked : (b : Bench) (moments : List (Moment Tags)) (t : ℕ) → Follows b moments → b.marker ≡ markers.New → t < b.tasks
    → NoPick b moments t → ⊥
picked b moments t f new l none = by b.needed refl
  where
    by : (needed : Bool) → b.needed ≡ needed → ⊥
    by false n = (last_calm b moments f n).unmarked new
    by true n = none_of (StillExplains (claim b) (opened b) moments (of_task t b.claimed.listed)) (numbered t b.claimed.listed)
        (alive (StillExplains (claim b) (opened b) moments) (λ t. ⊥) t b.claimed.listed b.candidates f.candidates
        (full_in (StillExplains (claim b) (opened b) moments) b.claimed.listed b.candidates f.candidates
        (recursion_from_All (λ flags. has_flag flags ≡ true) b.candidates (f.explained n))) (λ h. h)
        (tasks_attempted b moments f n t l))
        (recursion_from_All (λ x. ExplainsAll b moments t x → ⊥) (numbered t b.claimed.listed) none)
