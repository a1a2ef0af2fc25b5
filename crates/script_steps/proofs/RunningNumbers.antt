-- The number of the event of the job's commit, by the events and ends so far and to come; and what a script's bounds say of its events.
use Rattle.text_and_lists.proofs.Members.{none_some, some_is, true_or_false}
use Rattle.text_and_lists.proofs.Naturals.{above_so}
use Rattle.job_invariant.proofs.Whose.{attempt, who_is}
use Rattle.job_invariant.specs.Facts.{IsAttempt}
use Rattle.job_model.specs.Attempts.{Declared, Who, is_known, same_name}
use Rattle.job_model.specs.JobScript.{Script}
use Rattle.job_model.specs.Legal.{AreAttempts, IsLegal}
use Rattle.job_model.specs.declared.ends.EventEnd.{EventEnd}
use Rattle.job_model.specs.declared.events.Event.{Event}
use Rattle.job_protocol.specs.Seen.{Times, is_begun}
use Rattle.job_spec.specs.States.{begins_clean, begins_commit, clean_event, commit_event, event_from, is_refused, times}
use Rattle.script_steps.proofs.RunningStages.{Begun, with_event}
use Rattle.s3_types.specs.declared.request.Actor.TheVariants.{Attempt}
use Rattle.std.proofs.Common.{Bool, List, Option, Some, ap, arith, cond, false, inl, inr, is_some, length, not, refl, slice_get, subst, sym}
use Rattle.std.proofs.Common.{true, ℕ, [], ◌&&◌, ◌++◌, ◌+◌, ◌<◌, ◌||◌, ◌∙◌, ◌∷◌, ◌≡◌, ◌≤◌}
use Rattle.std.proofs.lemmas.Bool.{cond_both}
use Rattle.std.specs.Map.{lookup}

-- ---- the first event that passes a test

module _ (f : Event → Bool) where
  -- No event before the first one that is examined has that number.
  pub later : (n : ℕ) (evs : List Event) (xs : List EventEnd) (p : ℕ) → p < n → is_begun (event_from f n evs xs) p ≡ false
  later n [] xs p l = refl
  later n (v ∷ evs) [] p l = cond_both (f v) (Some n) (event_from f (n + 1) evs []) (λ o. is_begun o p ≡ false) (λ t. above_so n p l)
      (λ t. later (n + 1) evs [] p (omega arith))
  later n (v ∷ evs) (x ∷ xs) p l =
      cond_both (f v && not (is_refused x)) (Some n) (event_from f (n + 1) evs xs) (λ o. is_begun o p ≡ false) (λ t. above_so n p l)
      (λ t. later (n + 1) evs xs p (omega arith))

  -- After one more event it has begun if it had before, or if that event passes the test and is not refused.
  here : (n p : ℕ) (next : Option ℕ) → n ≡ p + 1 → is_begun next (p + 1) ≡ false → is_begun next p ≡ false → (b : Bool)
      → is_begun (cond b (Some n) next) (p + 1) ≡ (is_begun (cond b (Some n) next) p || b)
  here n p next h g e b = grind arith

  there : (n p : ℕ) (next : Option ℕ) (now : Bool) → n ≤ p → is_begun next (p + 1) ≡ (is_begun next p || now) → (b : Bool)
      → is_begun (cond b (Some n) next) (p + 1) ≡ (is_begun (cond b (Some n) next) p || now)
  there n p next now h g b = grind arith

  pub begun_from : (n : ℕ) (evs : List Event) (front : List EventEnd) (end : EventEnd) (more : List EventEnd) (ev : Event) (p : ℕ)
      → p + 1 ≡ n + length front → slice_get evs (length front) ≡ Some ev
      → is_begun (event_from f n evs (front ++ end ∷ more)) (p + 1) ≡ (is_begun (event_from f n evs (front ++ end ∷ more)) p ||
      (f ev && not (is_refused end)))
  begun_from n [] front end more ev p l e = absurd (none_some refl e)
  begun_from n (v ∷ evs) [] end more ev p l e =
      here n p (event_from f (n + 1) evs more) (omega arith) (later (n + 1) evs more (p + 1) (omega arith))
      (later (n + 1) evs more p (omega arith)) (f v && not (is_refused end))
      ∙ ap (λ u. is_begun (event_from f n (v ∷ evs) (end ∷ more)) p || (f u && not (is_refused end))) (some_is e)
  begun_from n (v ∷ evs) (x ∷ front) end more ev p l e =
      there n p (event_from f (n + 1) evs (front ++ end ∷ more)) (f ev && not (is_refused end)) (omega arith)
      (begun_from (n + 1) evs front end more ev p (omega arith) e) (f v && not (is_refused x))

-- In a run, after one more event.
abbrev pub begun_at : Times → ℕ → Begun
begun_at k n = record { commit = is_begun k.commit n; clean = is_begun k.clean n }

pub begun_next : (w : Script) (front : List EventEnd) (end : EventEnd) (more : List EventEnd) (ev : Event)
    → slice_get w.events (length front) ≡ Some ev → (b : Bool) → not (is_refused end) ≡ b
    → begun_at (times w (front ++ end ∷ more)) (length front + 1) ≡ with_event b (begun_at (times w (front ++ end ∷ more)) (length front))
    ev
begun_next w front end more ev e b fine =
    let c = begun_from begins_commit 1 w.events front end more ev (length front) (omega arith) e ∙ ap
    (λ v. is_begun (commit_event w (front ++ end ∷ more)) (length front) || (begins_commit ev && v)) fine in
    let d = begun_from begins_clean 1 w.events front end more ev (length front) (omega arith) e ∙ ap
    (λ v. is_begun (clean_event w (front ++ end ∷ more)) (length front) || (begins_clean ev && v)) fine in
    λ i. record { commit = c i; clean = d i }

-- Before the first event neither has begun.
pub unbegun : (w : Script) (xs : List EventEnd) → (is_begun (commit_event w xs) 0 ≡ false) × (is_begun (clean_event w xs) 0 ≡ false)
unbegun w xs = (later begins_commit 1 w.events xs 0 (omega arith), later begins_clean 1 w.events xs 0 (omega arith))

-- ---- what the bounds of a script say

bounds_in : (tasks : ℕ) (before es : List Declared) (a : Who) → AreAttempts tasks before es → is_some (lookup (same_name a) es) ≡ true
    → (a.task < tasks) × (a.attempt ≤ 99)
bounds_in tasks before [] a h e = absurd cc
bounds_in tasks before (d ∷ es) a h e = elim (true_or_false (same_name a d.0)) [
  | inl s ↦ (let is = who_is a d.0 s in (
    subst (λ (v : Who). v.task < tasks) (sym is) h.0,
    subst (λ (v : Who). v.attempt ≤ 99) (sym is)
        h.1,
  ))
  | inr s ↦ bounds_in tasks (before ++ d ∷ []) es a h.4 (sym (ap (λ b. is_some (cond b (Some d.1) (lookup (same_name a) es))) s) ∙ e)
]

-- An attempt that an event names has a task of the job.
pub known_attempt : {w : Script} → IsLegal w → (t n : ℕ) → is_known w.attempts (Attempt t n) ≡ true → IsAttempt w (attempt t n)
known_attempt {w = w} j t n e = let b = bounds_in w.tasks [] w.attempts (attempt t n) j.attempts e in record { task = b.0; attempt = b.1 }
