-- The facts begin when the set-up is done; and a request that only reads keeps them, whoever sends it.
use Rattle.text_and_lists.proofs.Members.{none_some}
use Rattle.job_invariant.proofs.Driving.{driving_keeps, reads_drive}
use Rattle.job_invariant.proofs.Foreign.{reads_effect}
use Rattle.job_invariant.proofs.Placed.{path_below, record_magic, set_magic}
use Rattle.job_invariant.proofs.Sent.{read_keeps}
use Rattle.job_invariant.proofs.Whose.{attempt}
use Rattle.job_invariant.specs.Facts.{Facts, Hold}
use Rattle.job_invariant.specs.FactsKeep.{IsBare}
use Rattle.job_invariant.specs.Stores.{at_id, at_path, at_place, set_at}
use Rattle.job_invariant.specs.Told.{Told, nothing_told, tell}
use Rattle.job_model.specs.JobScript.{Script}
use Rattle.job_model.specs.Legal.{IsLegal}
use Rattle.job_protocol.specs.Seen.{Seen, Times, is_magic, is_staging, see}
use Rattle.magic_paths.specs.Places.{SetPlace, StagedSetPlace, TemporaryPlace}
use Rattle.s3_types.specs.Answer.{answer}
use Rattle.s3_types.specs.Moment.{IsHonestOutcome}
use Rattle.s3_types.specs.Requests.{only_reads}
use Rattle.s3_types.specs.Store.{Scene, Upload}
use Rattle.s3_types.specs.declared.journal.Entry.{Entry}
use Rattle.s3_types.specs.declared.journal.Outcome.{Outcome}
use Rattle.s3_types.specs.declared.journal.Outcome.TheVariants.{RequestLost, Slow}
use Rattle.s3_types.specs.declared.request.Actor.{Actor}
use Rattle.s3_types.specs.declared.request.Actor.TheVariants.{Attempt, Driver, Shell}
use Rattle.s3_types.specs.declared.request.Committer.{Committer}
use Rattle.std.proofs.Common.{List, None, Option, Some, arith, refl, true, ℕ, ◌<◌, ◌≡◌}
use Rattle.store_frame.specs.Held.{HasBucket}

-- If nothing of the job's own exists, no set does.
no_set : (c : Committer) (w : Script) (s : Scene) (t : ℕ) (b : List ℕ) → (is_magic c ≡ true → at_place w s.content (SetPlace t) ≡ None)
    → (is_staging c ≡ true → at_path w s (StagedSetPlace t) ≡ None) → set_at c w s t ≡ Some b → ⊥
no_set c w s t b h g e = grind arith

pub facts_begin : (w : Script) (minimum : ℕ) (s : Scene) (last : ℕ → Option ℕ) → IsLegal w → HasBucket s.content w.dest.bucket
    → s.content.minimum ≡ minimum → ((id : ℕ) (x : Upload) → at_id w s.content id ≡ Some x → id < s.content.next) → IsBare w s
    → ((t : ℕ) → last t ≡ None)
    → (v : Option ℕ) → Facts w minimum s last (nothing_told v)
facts_begin w minimum s last j there least fresh bare none v = record {
  there = there;
  least = least;
  ids = record { fresh = fresh; below = λ a d i. absurd i; apart = λ a b d e i k. absurd i; once = λ a d e i k. absurd i };
  owned = λ a d i. absurd i;
  below = λ g k x h e. absurd (none_some (bare.keys g k h) e);
  records = λ g a f x i e. absurd (none_some (bare.keys g _ (record_magic j g a f i)) e);
  sets = λ t b h e. absurd (no_set w.committer w s t b (λ g. bare.keys g _ (set_magic j t h))
      (λ g. bare.paths g _ (path_below w (StagedSetPlace t))) e);
  standing = λ c t a h e. absurd (none_some (none t) e);
  temporaries = λ g a b d e. absurd (none_some (bare.paths g _ (path_below w (TemporaryPlace a.task a.attempt))) e);
  kept = λ a e. refl;
}

-- ---- requests that only read

pub idle_keeps : (w : Script) (minimum : ℕ) (k : Times) (s : Seen) (m : Told) (e : Entry) → IsLegal w → only_reads e.request ≡ true
    → IsHonestOutcome e.outcome (answer s.scene e.request) → Hold w minimum s m → Hold w minimum (see w k s e) (tell w m e)
idle_keeps w minimum k s m e j reads honest f = by e.actor
  where
    by : (a : Actor) → let x : Entry = record { event = e.event; actor = a; request = e.request; outcome = e.outcome } in Hold w minimum
        (see w k s x) (tell w m x)
    by Driver = driving_keeps w minimum k s m e.event e.request e.outcome j (reads_drive w e.request reads) f
    by (Attempt t n) = read_keeps w minimum k s m (attempt t n) e.event f e.request reads e.outcome honest
    by Shell = strange e.outcome
      where
        strange : (o : Outcome) → let x : Entry = record { event = e.event; actor = Shell; request = e.request; outcome = o } in Hold w
            minimum (see w k s x) (tell w m x)
        strange Slow = f
        strange RequestLost = f
        strange _ = reads_effect s.scene e.request reads f
