-- Entries of strangers between the events of a run: no actor of the job sent them, and they say nothing of the job.
use Rattle.text_and_lists.proofs.Members.{false_true}
use Rattle.job_model.specs.JobScript.{Script}
use Rattle.job_outcomes.proofs.RunEntries.{last_other}
use Rattle.job_protocol.specs.Seen.{Seen, Times, see, see_all}
use Rattle.job_spec.specs.Entries.{AreOwn}
use Rattle.job_spec.specs.States.{same_actor}
use Rattle.job_spec.specs.Turns.{AllBy, AllFrom, by_actor, is_own, own, until, until_last}
use Rattle.script_steps.proofs.Actors.{same_false}
use Rattle.protocol_runs.proofs.Plain.{entry_picks}
use Rattle.s3_types.specs.declared.journal.Entry.{Entry}
use Rattle.s3_types.specs.declared.request.Actor.{Actor}
use Rattle.s3_types.specs.declared.request.Actor.TheVariants.{Driver}
use Rattle.std.proofs.Common.{Bool, List, ap, arith, cond, false, nat_le, refl, true, ℕ, [], ◌++◌, ◌+◌, ◌||◌, ◌∙◌, ◌∷◌, ◌≡◌}
use Rattle.std.specs.List.{filter, list_any}

abbrev pub AreStrange : List Entry → Type 0
AreStrange [] = Unit {0}
AreStrange (e ∷ es) = (is_own e.actor ≡ false) × AreStrange es

-- If all of the job's own entries are of later events, each entry up to event n is a stranger's.
pub strange_until : (n : ℕ) (es : List Entry) → AllFrom (n + 1) (own es) → AreStrange (until n es)
strange_until n [] h = tt
strange_until n (e ∷ es) h = by (is_own e.actor) refl (nat_le e.event n) refl h (λ g. strange_until n es g)
  where
    by : (b : Bool) → is_own e.actor ≡ b → (c : Bool) → nat_le e.event n ≡ c → AllFrom (n + 1) (cond b (e ∷ own es) (own es))
        → (AllFrom (n + 1) (own es) → AreStrange (until n es)) → AreStrange (cond c (e ∷ until n es) (until n es))
    by b h c g e f = grind arith

pub strange_by : (a : Actor) → is_own a ≡ true → (es : List Entry) → AreStrange es → by_actor a es ≡ []
strange_by a own [] h = refl
strange_by a own (e ∷ es) h = ap (λ b. cond b (e ∷ by_actor a es) (by_actor a es))
    (same_false e.actor a (λ s. false_true h.0 (ap is_own s ∙ own))) ∙ strange_by a own es h.1

pub strange_none : (es : List Entry) → AreOwn es → AreStrange es → es ≡ []
strange_none [] own h = refl
strange_none (e ∷ es) own h = absurd (false_true h.0 own.0)

pub driver_none : (es : List Entry) → AllBy Driver es → AreStrange es → es ≡ []
driver_none [] all h = refl
driver_none (e ∷ es) all h = absurd (false_true h.0 (ap is_own all.0))

pub own_back : (es fs : List Entry) → AreOwn (es ++ fs) → AreOwn fs
own_back [] fs h = h
own_back (e ∷ es) fs h = own_back es fs h.1

pub own_part : (p : Entry → Bool) (es : List Entry) → AreOwn es → AreOwn (filter p es)
own_part p [] h = tt
own_part p (e ∷ es) h = elim (p e) as (λ b. AreOwn (cond b (e ∷ filter p es) (filter p es)))
    [ true ↦ (h.0, own_part p es h.1) | false ↦ own_part p es h.1 ]

pub own_all : (es : List Entry) → AreOwn es → own es ≡ es
own_all [] h = refl
own_all (e ∷ es) h = ap (λ b. cond b (e ∷ own es) (own es)) h.0 ∙ ap (λ l. e ∷ l) (own_all es h.1)

-- None of them is an actor's last entry.
strange_any : (a : Actor) → is_own a ≡ true → (es : List Entry) → AreStrange es → list_any (λ x. same_actor x.actor a) es ≡ false
strange_any a own [] h = refl
strange_any a own (e ∷ es) h = ap (λ b. b || list_any (λ x. same_actor x.actor a) es)
    (same_false e.actor a (λ s. false_true h.0 (ap is_own s ∙ own))) ∙ strange_any a own es h.1

pub strange_last : (a : Actor) → is_own a ≡ true → (es fs : List Entry) → AreStrange fs → until_last a (es ++ fs) ≡ until_last a es
strange_last a own es fs h = last_other a es fs (strange_any a own fs h)

-- They change no pick.
pub strange_picks : (w : Script) (k : Times) (s : Seen) (es : List Entry) → AreStrange es → (see_all w k s es).picks ≡ s.picks
strange_picks w k s [] h = refl
strange_picks w k s (e ∷ es) h = strange_picks w k (see w k s e) es h.1 ∙ (λ i t. entry_picks w k s e
    (λ d. absurd (false_true h.0 (ap is_own d))) t i)
