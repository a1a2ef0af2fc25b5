-- What a journal shows of a job, read entry by entry from the first one on.
use Rattle.text_and_lists.specs.Order.{text_eq}
use Rattle.job_model.specs.JobScript.{Script}
use Rattle.job_protocol.specs.Knowledge.{is_set_key, is_set_path}
use Rattle.job_protocol.specs.Outputs.{Picks}
use Rattle.job_protocol.specs.View.{object_at}
use Rattle.s3_types.specs.Answer.{apply}
use Rattle.s3_types.specs.Moment.{effect}
use Rattle.s3_types.specs.Store.{Content, Scene, opening}
use Rattle.s3_types.specs.declared.journal.Entry.{Entry}
use Rattle.s3_types.specs.declared.journal.Outcome.{Outcome}
use Rattle.s3_types.specs.declared.journal.Outcome.TheVariants.{Answered, ReplyLost, RequestLost, Slow}
use Rattle.s3_types.specs.declared.request.Actor.{Actor}
use Rattle.s3_types.specs.declared.request.Actor.TheVariants.{Attempt, Driver, Shell}
use Rattle.s3_types.specs.declared.request.Committer.{Committer}
use Rattle.s3_types.specs.declared.request.Committer.TheVariants.{Magic}
use Rattle.s3_types.specs.declared.request.Request.{Request}
use Rattle.s3_types.specs.declared.request.Request.TheVariants.{ClusterGet, ClusterRename, GetObject, PutObject}
use Rattle.std.specs.Prelude.{Bool, List, None, Option, Some, cond, false, is_some, nat_eq, nat_le, not, take, true, ℕ, [], ◌&&◌, ◌||◌, ◌∷◌}
use Rattle.std.specs.FinMap as fin
use Rattle.magic_paths.specs.Layout as layout

-- ---- requests that publish, read and mark

-- True if it is the magic committer.
abbrev pub is_magic : Committer → Bool
is_magic Magic = true
is_magic _ = false

-- True if it is a staging committer: directory or partitioned.
abbrev pub is_staging : Committer → Bool
is_staging Magic = false
is_staging _ = true

-- True if the request publishes the task's set: it puts the set, or it renames a file that exists to it.
abbrev pub is_publishing : Script → Scene → ℕ → Request → Bool
is_publishing w s task (PutObject bucket key bytes header) = is_magic w.committer && is_set_key w task bucket key
is_publishing w s task (ClusterRename source target) = is_staging w.committer &&
    (is_set_path w task target && is_some (fin.get s.files source))
is_publishing w s task _ = false

-- True if the request reads the task's set.
abbrev pub is_reading : Script → ℕ → Request → Bool
is_reading w task (GetObject bucket key) = is_magic w.committer && is_set_key w task bucket key
is_reading w task (ClusterGet path) = is_staging w.committer && is_set_path w task path
is_reading w task _ = false

-- True if the request puts `_SUCCESS`.
abbrev pub is_marking : Script → Request → Bool
is_marking w (PutObject bucket key bytes header) = text_eq bucket w.dest.bucket && text_eq key (layout.success_key w.dest.key)
is_marking w _ = false

-- ---- reading a journal

-- What a journal shows of a job.
pub record Seen : Type 0 where
  -- The store and the cluster.
  pub scene : Scene
  -- True if the job's commit has begun.
  pub begun : Bool
  -- For each task, the attempt that published last.
  pub last : ℕ → Option ℕ
  -- For each task, the attempt whose set the driver's commit read: the one that had published last then.
  pub picks : Picks
  -- True if the driver has put `_SUCCESS`.
  pub put_mark : Bool

-- The numbers of the events in which the job's commit and its first abort or clean begin, if they do.
pub record Times : Type 0 where
  pub commit : Option ℕ
  pub clean : Option ℕ

-- True if event n is event k or a later one.
abbrev pub is_begun : Option ℕ → ℕ → Bool
is_begun None n = false
is_begun (Some k) n = nat_le k n

-- True if the commit has begun before event n or in it, and no abort or clean has.
abbrev pub is_picking : Times → Bool → ℕ → Bool
is_picking k begun n = (begun || is_begun k.commit n) && not (is_begun k.clean n)

-- The last publishers after a request of an attempt that took effect.
abbrev pub last_by : Script → Scene → (ℕ → Option ℕ) → ℕ → ℕ → Request → ℕ → Option ℕ
last_by w s last task attempt r t = cond (nat_eq t task && is_publishing w s task r) (Some attempt) (last t)

-- The chosen attempts after an answered request of the driver. They change only while `picking`, by reads of sets.
abbrev pub picks_by : Script → Bool → (ℕ → Option ℕ) → Picks → Request → ℕ → Option ℕ
picks_by w picking last picks r t = cond (picking && is_reading w t r) (last t) (picks t)

-- What the journal shows after a send of an attempt.
abbrev pub see_attempt : Script → Seen → ℕ → ℕ → Request → Outcome → Seen
see_attempt w s task attempt r (Answered reply) = record {
  scene = apply s.scene r;
  begun = s.begun;
  last = last_by w s.scene s.last task
      attempt r;
  picks = s.picks;
  put_mark = s.put_mark;
}
see_attempt w s task attempt r Slow = s
see_attempt w s task attempt r RequestLost = s
see_attempt w s task attempt r ReplyLost = record {
  scene = apply s.scene r;
  begun = s.begun;
  last = last_by w s.scene s.last task attempt
      r;
  picks = s.picks;
  put_mark = s.put_mark;
}

-- What it shows after a send of the driver. `begun`: the commit has begun by then. `picking`: its reads choose attempts.
abbrev pub see_driver : Script → Bool → Bool → Seen → Request → Outcome → Seen
see_driver w begun picking s r (Answered reply) = record {
  scene = apply s.scene r;
  begun = begun;
  last = s.last;
  picks = picks_by w picking
      s.last s.picks r;
  put_mark = s.put_mark || is_marking w r;
}
see_driver w begun picking s r Slow = record { scene = s.scene; begun = begun; last = s.last; picks = s.picks; put_mark = s.put_mark }
see_driver w begun picking s r RequestLost = record {
  scene = s.scene;
  begun = begun;
  last = s.last;
  picks = s.picks;
  put_mark = s.put_mark;
}
see_driver w begun picking s r ReplyLost = record {
  scene = apply s.scene r;
  begun = begun;
  last = s.last;
  picks = s.picks;
  put_mark =
      s.put_mark || is_marking w r;
}

-- What it shows after one more send in event `n`. A send of someone else, with the actor `Shell`, changes only the store and the cluster.
abbrev pub see_by : Script → Times → Seen → ℕ → Request → Outcome → Actor → Seen
see_by w k s n r o Driver = see_driver w (s.begun || is_begun k.commit n) (is_picking k s.begun n) s r o
see_by w k s n r o (Attempt task attempt) = see_attempt w s task attempt r o
see_by w k s n r o Shell = record { scene = effect s.scene r o; begun = s.begun; last = s.last; picks = s.picks; put_mark = s.put_mark }

-- What it shows after one more entry.
abbrev pub see : Script → Times → Seen → Entry → Seen
see w k s e = see_by w k s e.event e.request e.outcome e.actor

-- What it shows before the first entry.
abbrev pub nothing_seen : Content → Seen
nothing_seen content = record { scene = opening content; begun = false; last = λ t. None; picks = λ t. None; put_mark = false }

-- What it shows after these entries.
abbrev pub see_all : Script → Times → Seen → List Entry → Seen
see_all w k s [] = s
see_all w k s (e ∷ es) = see_all w k (see w k s e) es

-- What it shows after the first m entries.
abbrev pub seen : Script → Times → Content → List Entry → ℕ → Seen
seen w k content journal m = see_all w k (nothing_seen content) (take m journal)

-- True if the driver has put `_SUCCESS` in this run, and the object exists.
abbrev pub is_marked : Script → Seen → Bool
is_marked w s = s.put_mark && is_some (object_at s.scene.content w.dest.bucket (layout.success_key w.dest.key))
