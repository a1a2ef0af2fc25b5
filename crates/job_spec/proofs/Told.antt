-- The state that a journal shows, and the journal as one job reads it.
use Rattle.job_model.specs.JobScript.{Script}
use Rattle.job_protocol.specs.Seen.{Seen, Times, is_publishing, nothing_seen, see, see_all, see_attempt, see_by, see_driver, seen}
use Rattle.job_spec.specs.Eyes.{entry_in, in_eyes, number_in}
use Rattle.job_spec.specs.Turns.{AllFrom, IsRising}
use Rattle.s3_types.specs.Moment.{AreHonest, IsHonest, after_all, effect, moment}
use Rattle.s3_types.specs.Store.{Content, Scene, opening}
use Rattle.s3_types.specs.declared.journal.Entry.{Entry}
use Rattle.s3_types.specs.declared.journal.Outcome.{Outcome}
use Rattle.s3_types.specs.declared.journal.Outcome.TheVariants.{Answered, ReplyLost, RequestLost, Slow}
use Rattle.s3_types.specs.declared.request.Actor.{Actor}
use Rattle.s3_types.specs.declared.request.Actor.TheVariants.{Attempt, Driver, Shell}
use Rattle.s3_types.specs.declared.request.Request.{Request}
use Rattle.std.proofs.Common.{Bool, List, Option, Some, ap, arith, cond, false, nat_eq, refl, subst, suc, sym, take, true, zero, ℕ, []}
use Rattle.std.proofs.Common.{◌&&◌, ◌+◌, ◌-◌, ◌∙◌, ◌∷◌, ◌≡◌, ◌≤◌}
use Rattle.std.proofs.Math.Nat.{le_refl, le_trans}

-- ---- what the journal shows

driver_scene : (w : Script) (b c : Bool) (s : Seen) (r : Request) (o : Outcome) → (see_driver w b c s r o).scene ≡ effect s.scene r o
driver_scene w b c s r (Answered x) = refl
driver_scene w b c s r _ = refl

attempt_scene : (w : Script) (s : Seen) (t a : ℕ) (r : Request) (o : Outcome) → (see_attempt w s t a r o).scene ≡ effect s.scene r o
attempt_scene w s t a r (Answered x) = refl
attempt_scene w s t a r _ = refl

by_scene : (w : Script) (k : Times) (s : Seen) (n : ℕ) (r : Request) (o : Outcome) (a : Actor)
    → (see_by w k s n r o a).scene ≡ effect s.scene r o
by_scene w k s n r o Driver = driver_scene w _ _ s r o
by_scene w k s n r o (Attempt t a) = attempt_scene w s t a r o
by_scene w k s n r o Shell = refl

all_scene : (w : Script) (k : Times) (s : Seen) (es : List Entry) → (see_all w k s es).scene ≡ after_all s.scene es
all_scene w k s [] = refl
all_scene w k s (e ∷ es) = all_scene w k (see w k s e) es ∙ ap (λ c. after_all c es) (by_scene w k s e.event e.request e.outcome e.actor)

pub scene_is : (w : Script) (k : Times) (content : Content) (journal : List Entry) (m : ℕ)
    → (seen w k content journal m).scene ≡ moment content journal m
scene_is w k content journal m = all_scene w k (nothing_seen content) (take m journal)

pub of_stranger : (w : Script) (k : Times) (s : Seen) (e : Entry) → e.actor ≡ Shell
    → see w k s e ≡ record {
      scene = effect s.scene e.request e.outcome;
      begun = s.begun;
      last = s.last;
      picks = s.picks;
      put_mark =
          s.put_mark;
    }
of_stranger w k s e h = ap (see_by w k s e.event e.request e.outcome) h

-- ---- the journal as one job reads it

number_alone : (n : ℕ) → number_in (λ m. true) n ≡ n
number_alone zero = refl
number_alone (suc n) = let h : number_in (λ m. true) n ≡ n = number_alone n in omega arith

pub alone : (es : List Entry) → in_eyes (λ n. true) es ≡ es
alone [] = refl
alone (e ∷ es) = ap (λ v. entry_in (λ n. true) e ∷ v) (alone es) ∙ ap (λ n. record
    { event = n; actor = e.actor; request = e.request; outcome = e.outcome } ∷ es) (number_alone e.event)

eyes_scene : (mine : ℕ → Bool) (s : Scene) (es : List Entry) (m : ℕ) → after_all s (take m (in_eyes mine es)) ≡ after_all s (take m es)
eyes_scene mine s [] zero = refl
eyes_scene mine s [] (suc m) = refl
eyes_scene mine s (e ∷ es) zero = refl
eyes_scene mine s (e ∷ es) (suc m) = eyes_scene mine (effect s e.request e.outcome) es m

pub eyes_moment : (mine : ℕ → Bool) (content : Content) (es : List Entry) (m : ℕ) → moment content (in_eyes mine es) m ≡ moment content es m
eyes_moment mine content es m = eyes_scene mine (opening content) es m

eyes_honest_from : (mine : ℕ → Bool) (s : Scene) (es : List Entry) → AreHonest s es → AreHonest s (in_eyes mine es)
eyes_honest_from mine s [] h = tt
eyes_honest_from mine s (e ∷ es) h = (h.0, eyes_honest_from mine (effect s e.request e.outcome) es h.1)

pub eyes_honest : (mine : ℕ → Bool) (content : Content) (es : List Entry) → IsHonest content es → IsHonest content (in_eyes mine es)
eyes_honest mine content es h = eyes_honest_from mine (opening content) es h

next_number : (mine : ℕ → Bool) (n : ℕ) → number_in mine n ≤ number_in mine (suc n)
next_number mine n = by (mine (suc n))
  where
    by : (b : Bool) → number_in mine n ≤ cond b (number_in mine n + 1) (number_in mine n)
    by true = omega arith
    by false = omega arith

number_grows_by : (mine : ℕ → Bool) (n d : ℕ) → number_in mine n ≤ number_in mine (n + d)
number_grows_by mine n zero = let e : n + 0 ≡ n = omega arith in subst (λ m. number_in mine n ≤ number_in mine m) (sym e)
    (le_refl (number_in mine n))
number_grows_by mine n (suc d) =
    let e : n + suc d ≡ suc (n + d) = omega arith in
    let h : number_in mine n ≤ number_in mine (n + d) = number_grows_by mine n d in
    let k : number_in mine (n + d) ≤ number_in mine (suc (n + d)) = next_number mine (n + d) in
    subst (λ m. number_in mine n ≤ number_in mine m) (sym e) (le_trans h k)

number_grows : (mine : ℕ → Bool) (n m : ℕ) → n ≤ m → number_in mine n ≤ number_in mine m
number_grows mine n m h = let e : n + (m - n) ≡ m = omega arith in subst (λ x. number_in mine n ≤ number_in mine x) e
    (number_grows_by mine n (m - n))

eyes_from : (mine : ℕ → Bool) (n : ℕ) (es : List Entry) → AllFrom n es → AllFrom (number_in mine n) (in_eyes mine es)
eyes_from mine n [] h = tt
eyes_from mine n (e ∷ es) h = (number_grows mine n e.event h.0, eyes_from mine n es h.1)

pub eyes_rising : (mine : ℕ → Bool) (es : List Entry) → IsRising es → IsRising (in_eyes mine es)
eyes_rising mine [] h = tt
eyes_rising mine (e ∷ es) h = (eyes_from mine e.event es h.0, eyes_rising mine es h.1)

-- ---- last publishers

one_more : (last : Option ℕ) (attempt : ℕ) (b : Bool) → (n : ℕ) × (last ≡ Some n) → (n : ℕ) × (cond b (Some attempt) last ≡ Some n)
one_more last attempt true h = (attempt, refl)
one_more last attempt false h = h

-- A task that has a last publisher keeps having one.
pub last_still : (w : Script) (k : Times) (s : Seen) (e : Entry) (t : ℕ) → (n : ℕ) × (s.last t ≡ Some n) → (n : ℕ)
    × ((see w k s e).last t ≡ Some n)
last_still w k s e t h = by e.actor e.outcome
  where
    by : (a : Actor) (o : Outcome) → (n : ℕ) × ((see_by w k s e.event e.request o a).last t ≡ Some n)
    by Driver (Answered x) = h
    by Driver Slow = h
    by Driver RequestLost = h
    by Driver ReplyLost = h
    by (Attempt task attempt) (Answered x) = one_more (s.last t) attempt (nat_eq t task && is_publishing w s.scene task e.request) h
    by (Attempt task attempt) Slow = h
    by (Attempt task attempt) RequestLost = h
    by (Attempt task attempt) ReplyLost = one_more (s.last t) attempt (nat_eq t task && is_publishing w s.scene task e.request) h
    by Shell o = h
