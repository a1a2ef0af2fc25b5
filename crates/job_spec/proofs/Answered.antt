-- If each send is answered, no request runs out of retries.
use Rattle.job_model.specs.JobScript.{Script}
use Rattle.job_model.specs.declared.ends.EventEnd.{EventEnd}
use Rattle.job_model.specs.declared.ends.OpEnd.{OpEnd}
use Rattle.job_spec.specs.Ends.{EndedIn}
use Rattle.job_spec.specs.Promise.{Sent}
use Rattle.job_spec.specs.States.{Doing, same_actor}
use Rattle.job_spec.specs.Turns.{by_actor, until}
use Rattle.retries.specs.Same.{same_request}
use Rattle.retries.specs.Worn.{WornFirst, answers, was_answered}
use Rattle.s3_types.specs.Fates.{FateMap, fate_at, fate_or}
use Rattle.s3_types.specs.Foretold.{AreForetold, fate_of}
use Rattle.s3_types.specs.Store.{Content}
use Rattle.s3_types.specs.declared.fates.Fate.TheVariants.{Answer}
use Rattle.s3_types.specs.declared.journal.Entry.{Entry}
use Rattle.s3_types.specs.declared.journal.Outcome.{Outcome}
use Rattle.s3_types.specs.declared.journal.Outcome.TheVariants.{Answered}
use Rattle.s3_types.specs.declared.request.Actor.{Actor}
use Rattle.s3_types.specs.declared.request.Request.{Request}
use Rattle.std.proofs.Common.{Bool, List, None, Some, ap, arith, cond, false, refl, slice_get, subst, suc, sym, true, zero, ℕ, [], ◌+◌, ◌∙◌}
use Rattle.std.proofs.Common.{◌∷◌, ◌≡◌}
use Rattle.std.specs.List.{filter}
use Rattle.std.specs.Ordering.{nat_cmp}
use Rattle.std.specs.Prelude.{nat_le}
use Rattle.std.specs.FinMap as fin

abbrev AllAnswered : List Entry → Type 0
AllAnswered [] = Unit {0}
AllAnswered (e ∷ es) = (was_answered e.outcome ≡ true) × AllAnswered es

answered : (o : Outcome) → fate_of o ≡ Answer → was_answered o ≡ true
answered (Answered r) h = refl
answered _ h = absurd cc

all_answered : (m : FateMap) → m ≡ fin.empty → (n : ℕ) (es : List Entry) → AreForetold (λ i. Some (fate_at m i)) n es → AllAnswered es
all_answered m none n [] h = tt
all_answered m none n (e ∷ es) h = (
  answered e.outcome (h.0 ∙ ap (λ f. fate_at f n) none ∙ ap fate_or (fin.get-empty nat_cmp n)),
  all_answered m none (n + 1) es h.1,
)

answered_part : (p : Entry → Bool) (es : List Entry) → AllAnswered es → AllAnswered (filter p es)
answered_part p [] h = tt
answered_part p (e ∷ es) h = by (p e) (answered_part p es h.1)
  where
    by : (b : Bool) → AllAnswered (filter p es) → AllAnswered (cond b (e ∷ filter p es) (filter p es))
    by true rest = (h.0, rest)
    by false rest = rest

no_miss : (r : Request) (es : List Entry) → AllAnswered es → (k : ℕ) → slice_get (answers r es) k ≡ Some false → ⊥
no_miss r [] h k e = absurd cc
no_miss r (x ∷ es) h k e = by (same_request r x.request) k h.0 e (no_miss r es h.1)
  where
    by : (b : Bool) (k : ℕ) → was_answered x.outcome ≡ true
        → slice_get (cond b (was_answered x.outcome ∷ answers r es) (answers r es)) k ≡ Some false
        → ((i : ℕ) → slice_get (answers r es) i ≡ Some false → ⊥) → ⊥
    by true zero a e rest = absurd cc
    by true (suc k) a e rest = rest k e
    by false k a e rest = rest k e

pub none_worn : (w : Script) (opening : Content) (journal : List Entry) (xs : List EventEnd) → w.fates ≡ fin.empty → Sent w opening journal
    → (j : ℕ) (a : Actor) (d : Doing) (end : OpEnd) (es : List Entry) → EndedIn w xs journal j a d end es → WornFirst w.retries es None
none_worn w opening journal xs none sent j a d end es h r worn = no_miss r es part (worn.0 + 0) (worn.1 0 (omega arith))
  where
    part : AllAnswered es
    part = subst AllAnswered (sym h.entries_are)
        (answered_part (λ e. nat_le d.since e.event) (by_actor a (until (j + 1) journal))
        (answered_part (λ e. same_actor e.actor a) (until (j + 1) journal)
        (answered_part (λ e. nat_le e.event (j + 1)) journal (all_answered w.fates none 1 journal sent.fated))))
