-- What a journal says of a job beside what it shows: what each attempt knows and has undone, and which uploads the driver has ended.
use Rattle.job_model.specs.Attempts.{Who, actor_of, same_name}
use Rattle.job_model.specs.JobScript.{Script}
use Rattle.job_model.specs.Known.{Drawn, Known}
use Rattle.job_protocol.specs.Knowledge.{learn}
use Rattle.job_protocol.specs.Seen.{is_begun}
use Rattle.s3_types.specs.Moment.{is_effective}
use Rattle.s3_types.specs.declared.journal.Entry.{Entry}
use Rattle.s3_types.specs.declared.journal.Outcome.{Outcome}
use Rattle.s3_types.specs.declared.request.Actor.{Actor}
use Rattle.s3_types.specs.declared.request.Actor.TheVariants.{Attempt, Driver, Shell}
use Rattle.s3_types.specs.declared.request.Request.{Request}
use Rattle.s3_types.specs.declared.request.Request.TheVariants.{AbortUpload, ClusterDelete, CompleteUpload, DeleteObject, DeleteObjects}
use Rattle.std.specs.Prelude.{Bool, List, Option, cond, false, nat_eq, true, ℕ, [], ◌&&◌, ◌||◌, ◌∷◌}

-- What a journal says of a job's attempts and of the uploads that its driver ended.
pub record Told : Type 0 where
  -- The uploads that each attempt knows, the last one first.
  pub drawn : Who → List Drawn
  -- Whether the attempt has sent the put of its temporary file, and its publishing request.
  pub put_sent : Who → Bool
  pub publish_sent : Who → Bool
  -- Whether the attempt has sent an abort of an upload or a deletion.
  pub undone : Who → Bool
  -- Whether a completion or an abort of the upload, sent by the driver, took effect.
  pub ended : ℕ → Bool
  -- Whether the driver's abort or clean has begun, and its event, if there is one.
  pub cleaned : Bool
  pub cleans_at : Option ℕ

-- What an attempt knows.
abbrev pub known : Told → Who → Known
known m a = record { drawn = m.drawn a; put_sent = m.put_sent a; publish_sent = m.publish_sent a }

-- The function f, but with v for attempt a.
abbrev pub put_who : {X : Type 0} → (Who → X) → Who → X → Who → X
put_who f a v b = cond (same_name b a) v (f b)

-- The request aborts or deletes something.
abbrev pub undoes : Request → Bool
undoes (AbortUpload bucket key id) = true
undoes (DeleteObject bucket key) = true
undoes (DeleteObjects bucket keys) = true
undoes (ClusterDelete path) = true
undoes _ = false

-- The request ends the upload if it takes effect.
abbrev pub ends : Request → ℕ → Bool
ends (CompleteUpload bucket key id parts) u = nat_eq u id
ends (AbortUpload bucket key id) u = nat_eq u id
ends _ u = false

-- What a journal says, with new knowledge of an attempt and whether that attempt has undone something.
abbrev pub with_known : Told → Who → Known → Bool → Told
with_known m a k undone = record {
  drawn = put_who m.drawn a k.drawn;
  put_sent = put_who m.put_sent a k.put_sent;
  publish_sent = put_who m.publish_sent a k.publish_sent;
  undone = put_who m.undone a undone;
  ended = m.ended;
  cleaned = m.cleaned;
  cleans_at = m.cleans_at;
}

-- What a journal says after a send of an attempt.
abbrev pub tell_attempt : Script → Told → Who → Request → Outcome → Told
tell_attempt w m a r o = with_known m a (learn w a (known m a) r o) (m.undone a || undoes r)

-- What a journal says after a send of the driver.
abbrev pub tell_driver : Told → Request → Outcome → Told
tell_driver m r o = record {
  drawn = m.drawn;
  put_sent = m.put_sent;
  publish_sent = m.publish_sent;
  undone = m.undone;
  ended = λ u. m.ended u || (is_effective o && ends r u);
  cleaned = m.cleaned;
  cleans_at = m.cleans_at;
}

-- The driver's abort or clean has begun if the entry is in its event or a later one.
abbrev pub at_event : ℕ → Told → Told
at_event n m = record m { cleaned = m.cleaned || is_begun m.cleans_at n }

-- What a journal says after one more send; a stranger's changes nothing.
abbrev pub tell_by : Script → Told → ℕ → Request → Outcome → Actor → Told
tell_by w m n r o Driver = at_event n (tell_driver m r o)
tell_by w m n r o (Attempt task attempt) = tell_attempt w m (record { task = task; attempt = attempt }) r o
tell_by w m n r o Shell = m

-- What a journal says after one more entry.
abbrev pub tell : Script → Told → Entry → Told
tell w m e = tell_by w m e.event e.request e.outcome e.actor

-- What a journal says before its first entry.
abbrev pub nothing_told : Option ℕ → Told
nothing_told c = record {
  drawn = λ a. [];
  put_sent = λ a. false;
  publish_sent = λ a. false;
  undone = λ a. false;
  ended = λ u. false;
  cleaned = false;
  cleans_at = c;
}

-- What a journal says after these entries.
abbrev pub tell_all : Script → Told → List Entry → Told
tell_all w m [] = m
tell_all w m (e ∷ es) = tell_all w (tell w m e) es

-- An entry of an attempt.
abbrev pub entry : Who → ℕ → Request → Outcome → Entry
entry a n r o = record { event = n; actor = actor_of a; request = r; outcome = o }

-- An entry of the driver.
abbrev pub driver_entry : ℕ → Request → Outcome → Entry
driver_entry n r o = record { event = n; actor = Driver; request = r; outcome = o }

-- An entry of a stranger.
abbrev pub strange_entry : ℕ → Request → Outcome → Entry
strange_entry n r o = record { event = n; actor = Shell; request = r; outcome = o }
