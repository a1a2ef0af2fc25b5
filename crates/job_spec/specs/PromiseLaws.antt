-- The laws of this crate.
use Rattle.job_model.specs.JobScript.{Script}
use Rattle.job_model.specs.declared.ends.EventEnd.{EventEnd}
use Rattle.job_model.specs.declared.ends.EventEnd.TheVariants.{Done, Refused}
use Rattle.job_model.specs.declared.ends.EventFault.{EventFault}
use Rattle.job_model.specs.declared.ends.OpEnd.{OpEnd}
use Rattle.job_model.specs.declared.ends.SetupEnd.{SetupEnd}
use Rattle.job_model.specs.declared.events.Event.TheVariants.{Restart, Start}
use Rattle.job_model.specs.declared.events.Op.TheVariants.{Commit}
use Rattle.job_model.specs.declared.states.Life.TheVariants.{Idle}
use Rattle.job_protocol.specs.Outputs.{Picks, is_clash}
use Rattle.job_protocol.specs.Seen.{Seen, Times, see, seen}
use Rattle.job_spec.specs.Ends.{EndedIn, commit_due}
use Rattle.job_spec.specs.Eyes.{in_eyes}
use Rattle.job_spec.specs.Promise.{Sent}
use Rattle.job_spec.specs.States.{Doing, EndedSo, NotBegun, Unended, end_verdict, is_committing, missing, past, verdict, verdict_or}
use Rattle.job_spec.specs.Turns.{IsRising}
use Rattle.retries.specs.Worn.{WornFirst}
use Rattle.s3_types.specs.Moment.{IsHonest, effect, moment}
use Rattle.s3_types.specs.Store.{Content}
use Rattle.s3_types.specs.declared.journal.Entry.{Entry}
use Rattle.s3_types.specs.declared.request.Actor.{Actor}
use Rattle.s3_types.specs.declared.request.Actor.TheVariants.{Attempt, Driver, Shell}
use Rattle.std.specs.Prelude.{Bool, List, None, Some, false, length, slice_get, suc, true, ℕ, [], ◌++◌, ◌∷◌, ◌≡◌, ◌⊎◌}
use Rattle.std.specs.FinMap as fin
use Rattle.job_model.specs.declared.ends.CommitEnd.TheVariants as commits
use Rattle.job_model.specs.declared.ends.OpEnd.TheVariants as ends
use Rattle.job_model.specs.declared.states.ActorStage.TheVariants as stage

-- The law of the state that a journal shows. Its store is the store after the same entries. A send of someone else, with the actor `Shell`,
-- changes nothing but the store.
pub record SeenIsMoment : Type 0 where
  pub scene : (w : Script) (k : Times) (opening : Content) (journal : List Entry) (m : ℕ)
      → (seen w k opening journal m).scene ≡ moment opening journal m
  pub stranger : (w : Script) (k : Times) (s : Seen) (e : Entry) → e.actor ≡ Shell
      → see w k s e ≡ record {
        scene = effect s.scene e.request e.outcome;
        begun = s.begun;
        last = s.last;
        picks = s.picks;
        put_mark =
            s.put_mark;
      }

-- The law of a journal as one job reads it. A job that is alone reads the journal itself. Otherwise the entries of others have other
-- numbers and actors, but the store, the replies and the order of events stay.
pub record EyesAreTrue : Type 0 where
  pub alone : (es : List Entry) → in_eyes (λ n. true) es ≡ es
  pub scene : (mine : ℕ → Bool) (opening : Content) (es : List Entry) (m : ℕ) → moment opening (in_eyes mine es) m ≡ moment opening es m
  pub honest : (mine : ℕ → Bool) (opening : Content) (es : List Entry) → IsHonest opening es → IsHonest opening (in_eyes mine es)
  pub rising : (mine : ℕ → Bool) (es : List Entry) → IsRising es → IsRising (in_eyes mine es)

-- The law of complete commits: a job's commit results in Committed if it misses no task, no request of it ran out of retries, and no two
-- chosen attempts write the same path.
pub record CommitsComplete : Type 0 where
  pub committed : (w : Script) (picks : Picks) → is_clash w picks ≡ false → commit_due w picks None None ≡ commits.Committed

-- The law of scripts without fates: each send is answered, so no request of an operation that ended ran out of retries.
pub record NothingWorn : Type 0 where
  pub none : (w : Script) (opening : Content) (journal : List Entry) (xs : List EventEnd) → w.fates ≡ fin.empty → Sent w opening journal
      → (j : ℕ) (a : Actor) (d : Doing) (end : OpEnd) (es : List Entry) → EndedIn w xs journal j a d end es → WornFirst w.retries es None

-- The law of restarts: the new driver is idle and knows no report. Its stage is `Failed` if the old one was committing, and otherwise the
-- old one's stage.
pub record RestartsAnew : Type 0 where
  pub idle : (w : Script) (xs : List EventEnd) → slice_get w.events (length xs) ≡ Some Restart
      → ((past w (xs ++ Done ∷ [])).state Driver).life ≡ Idle
  pub failed : (w : Script) (xs : List EventEnd) → slice_get w.events (length xs) ≡ Some Restart
      → ((past w xs).state Driver).stage ≡ stage.Committing
      → ((past w (xs ++ Done ∷ [])).state Driver).stage ≡ stage.Failed
  pub stays : (w : Script) (xs : List EventEnd) → slice_get w.events (length xs) ≡ Some Restart
      → is_committing ((past w xs).state Driver).stage ≡ false
      → ((past w (xs ++ Done ∷ [])).state Driver).stage ≡ ((past w xs).state Driver).stage
  -- No report from before the restart counts. So a commit that begins right after it misses task 0.
  pub forgets : (w : Script) (xs : List EventEnd) → slice_get w.events (length xs) ≡ Some Restart → (a : Actor)
      → (past w (xs ++ Done ∷ [])).reported a ≡ false
  pub misses : (w : Script) (xs : List EventEnd) (n : ℕ) → slice_get w.events (length xs) ≡ Some Restart → w.tasks ≡ suc n
      → missing w (past w (xs ++ Done ∷ [])).reported ≡ Some 0
  -- Attempts stay as they are.
  pub attempts : (w : Script) (xs : List EventEnd) → slice_get w.events (length xs) ≡ Some Restart → (t a : ℕ)
      → (past w (xs ++ Done ∷ [])).state (Attempt t a) ≡ (past w xs).state (Attempt t a)

-- The law of the status: the driver's commit decides it if one was begun, and otherwise its last set-up.
pub record CommitDecides : Type 0 where
  -- A commit that was begun gives 0 only if it ended with Committed, and a set-up never gives 0.
  pub zero : (w : Script) (xs : List EventEnd) → verdict w xs ≡ 0 → ((past w xs).commit ≡ EndedSo (ends.Commit commits.Committed))
      ⊎ ((past w xs).commit ≡ NotBegun)
  pub setup : (w : Script) (xs : List EventEnd) (e : SetupEnd) → (past w xs).commit ≡ NotBegun → (past w xs).setup ≡ EndedSo (ends.Setup e)
      → verdict w xs ≡ 0 → ⊥
  -- A commit that was begun decides alone, whatever the set-ups did.
  pub ended : (w : Script) (xs : List EventEnd) (e : OpEnd) → (past w xs).commit ≡ EndedSo e → verdict w xs ≡ end_verdict e
  pub unended : (w : Script) (xs : List EventEnd) → (past w xs).commit ≡ Unended → verdict w xs ≡ 1
  pub begun : (w : Script) (xs : List EventEnd) → slice_get w.events (length xs) ≡ Some (Start Driver Commit)
      → verdict w (xs ++ Done ∷ []) ≡ 1
  -- If no commit was begun, the last set-up decides.
  pub not_begun : (w : Script) (xs : List EventEnd) → (past w xs).commit ≡ NotBegun → verdict w xs ≡ verdict_or 1 (past w xs).setup
  -- A refused event decides nothing; nor does a refused commit.
  pub refused : (w : Script) (xs : List EventEnd) (f : EventFault) → verdict w (xs ++ Refused f ∷ []) ≡ verdict w xs
