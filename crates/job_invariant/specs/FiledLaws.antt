-- The laws of what exists at the paths of the job's files, and of uploads that are ended.
use Rattle.text_and_lists.specs.Members.{IsIn}
use Rattle.job_invariant.specs.Driver.{FitsJobCommit}
use Rattle.job_invariant.specs.Facts.{Hold, IsAttempt}
use Rattle.job_invariant.specs.Filed.{Decides, FileStands, FoundWithKeys, Gone, IsBefore, Wants, deletes, whole_of}
use Rattle.job_invariant.specs.Fits.{Fits}
use Rattle.job_invariant.specs.Stores.{at_id, at_key}
use Rattle.job_invariant.specs.Told.{Told, driver_entry, entry, known, nothing_told, strange_entry, tell}
use Rattle.job_invariant.specs.Turning.{NoneEnded, Turns}
use Rattle.job_model.specs.Attempts.{Who}
use Rattle.job_model.specs.JobScript.{Script}
use Rattle.job_model.specs.Legal.{IsLegal}
use Rattle.job_protocol.specs.Cleanups.{Clean, clean_after, clean_asks, clean_start}
use Rattle.job_protocol.specs.JobCommits.{Commit, CommitOver, Marking, Sets, commit_asks, commit_start, commit_tells}
use Rattle.job_protocol.specs.LaneTable.{Tabled}
use Rattle.job_protocol.specs.Operations.{Operation, Setting, asks}
use Rattle.job_protocol.specs.Seen.{Seen}
use Rattle.magic_paths.specs.Places.{is_open}
use Rattle.path_keys.specs.Paths.{below}
use Rattle.retries.specs.Retries.{Retried, step}
use Rattle.retries.specs.Worn.{IsWorn}
use Rattle.s3_types.specs.Answer.{answer, apply, bucket_of}
use Rattle.s3_types.specs.Moment.{IsHonestOutcome, effect}
use Rattle.s3_types.specs.Store.{Content, Scene}
use Rattle.s3_types.specs.declared.journal.Entry.{Entry}
use Rattle.s3_types.specs.declared.journal.Outcome.{Outcome}
use Rattle.s3_types.specs.declared.object.Object.{Object}
use Rattle.s3_types.specs.declared.request.Request.{Request}
use Rattle.std.specs.Prelude.{List, None, Option, Some, true, ℕ, [], ◌++◌, ◌<◌, ◌^◌, ◌∷◌, ◌≡◌, ◌≤◌}
use Rattle.store_frame.specs.Frame.{changed_keys}
use Rattle.store_frame.specs.Held.{HasBucket}
use Rattle.job_model.specs.declared.ends.CommitEnd.TheVariants as ends
use Rattle.job_model.specs.declared.ends.FaultStage.TheVariants as stages

-- The facts hold, and the state of the driver's commit fits them: the sets that it has read, its lanes, and the uploads that it has ended.
pub record Commits (w : Script) (minimum : ℕ) (s : Seen) (m : Told) (c : Commit) : Type 0 where
  pub hold : Hold w minimum s m
  pub gone : Gone w s.scene.content m
  pub fits : FitsJobCommit w minimum m.publish_sent m.drawn c
  pub tabled : Tabled w c
  pub turns : Turns m c
  pub decides : Decides w minimum m.publish_sent m.drawn c

-- ---- uploads that are ended

-- An upload that is gone does not come back, whoever sends.
abbrev pub NeverBack : Type 0
NeverBack = (w : Script) (s : Scene) → HasBucket s.content w.dest.bucket → (id : ℕ) → id < s.content.next → (r : Request)
    → at_id w s.content id ≡ None → at_id w (apply s r).content id ≡ None

-- Each upload that the driver has ended is gone: its completions and aborts end what they name, and nobody brings it back.
pub record EndedAreGone : Type 0 where
  pub begins : (w : Script) (s : Scene) (c : Option ℕ) → Gone w s.content (nothing_told c)
  pub commit : (g : Setting) → IsLegal g.script → (s : Seen) (m : Told) (c : Commit) → Commits g.script g.minimum s m c → (r : Request)
      → commit_asks g.script c ≡ Some r → (n : ℕ) (o : Outcome)
      → Gone g.script (effect s.scene r o).content (tell g.script m (driver_entry n r o))
  -- The requests of attempts and of strangers end nothing.
  pub attempts : (g : Setting) (s : Seen) (m : Told) (a : Who) → Hold g.script g.minimum s m → Gone g.script s.scene.content m
      → (n : ℕ) (r : Request) (o : Outcome) → Gone g.script (effect s.scene r o).content (tell g.script m (entry a n r o))
  pub strangers : (g : Setting) (s : Seen) (m : Told) → Hold g.script g.minimum s m → Gone g.script s.scene.content m
      → (n : ℕ) (r : Request) (o : Outcome) → Gone g.script (effect s.scene r o).content (tell g.script m (strange_entry n r o))
  -- An abort or clean of the job ends each upload that it found, with the key with which it found it.
  pub clean : (g : Setting) (s : Seen) (m : Told) → Hold g.script g.minimum s m → Gone g.script s.scene.content m → (c : Clean)
      → FoundWithKeys g.script s.scene.content c → (r : Request) → clean_asks g.script c ≡ Some r → (n : ℕ) (o : Outcome)
      → Gone g.script (effect s.scene r o).content (tell g.script m (driver_entry n r o))

-- What an abort or clean of the job found keeps its key, whoever sends.
pub record FindsKeys : Type 0 where
  pub begins : (w : Script) (c : Content) → FoundWithKeys w c clean_start
  pub goes : (g : Setting) (s : Seen) (m : Told) → Hold g.script g.minimum s m → (retries : ℕ) (t : Retried Clean)
      → FoundWithKeys g.script s.scene.content t.operation → (r : Request) → clean_asks g.script t.operation ≡ Some r → (o : Outcome)
      → IsHonestOutcome o (answer s.scene r)
      → FoundWithKeys g.script (effect s.scene r o).content (step retries (clean_after g.script) t o).operation
  pub beside : (w : Script) (s : Scene) → HasBucket s.content w.dest.bucket → (t : Clean) → FoundWithKeys w s.content t
      → (r : Request) (o : Outcome) → FoundWithKeys w (effect s r o).content t

-- ---- how a commit goes on with its sets

-- A commit that goes on has the sets of all tasks, and no two of their attempts write one path.
pub record SetsDecide : Type 0 where
  pub begins : (w : Script) (minimum : ℕ) (m : Told) (missing : Option ℕ)
      → Decides w minimum m.publish_sent m.drawn (commit_start w missing)
  pub goes : (g : Setting) → IsLegal g.script → (s : Seen) (m : Told) (c : Commit) → Commits g.script g.minimum s m c → (o : Outcome)
      → Decides g.script g.minimum m.publish_sent m.drawn (commit_tells g.script c o)
  -- No request of an attempt changes that.
  pub beside : (g : Setting) (m : Told) (a : Who) (op : Operation) → Fits g.script g.minimum a m op → (r : Request)
      → asks g a (known m a) op ≡ Some r → (n : ℕ) (o : Outcome)
      → let now = tell g.script m (entry a n r o) in (c : Commit) → Decides g.script g.minimum m.publish_sent m.drawn c
      → Decides g.script g.minimum now.publish_sent now.drawn c

-- ---- files

-- The object at the path of a wanted file, with every number of lanes, in every mode, while no stranger names its key. Before its upload is
-- asked for, it is the old one or none. Once the completion is answered, it is the whole file. After a completion without an answer, it is
-- one of these, by whether the upload is ended. Once the commit is at the marker, every wanted file is there. After a revert none is,
-- unless its deletion ran out of retries.
pub record WantedFiles : Type 0 where
  pub begins : (w : Script) (minimum : ℕ) → IsLegal w → (s : Seen) (m : Told) → Hold w minimum s m → NoneEnded m
      → (q b : List ℕ) (first now : Option Object) → now ≡ first → (missing : Option ℕ) → Wants w q b (commit_start w missing)
      → FileStands w q b first [] now m.ended (commit_start w missing)
  pub goes : (g : Setting) → IsLegal g.script → (s : Seen) (m : Told) (c : Commit) → Commits g.script g.minimum s m c
      → s.scene.content.next ≤ 2 ^ 64
      → (q b : List ℕ) (first : Option Object) (es : List Entry) → Wants g.script q b c
      → FileStands g.script q b first es (at_key g.script s.scene.content (below g.script.dest.key q)) m.ended c
      → (r : Request) → commit_asks g.script c ≡ Some r → (n : ℕ) (o : Outcome) → IsHonestOutcome o (answer s.scene r)
      → Wants g.script q b (commit_tells g.script c o)
      → FileStands g.script q b first (es ++ driver_entry n r o ∷ []) (at_key g.script (effect s.scene r o).content
      (below g.script.dest.key q)) (tell g.script m (driver_entry n r o)).ended (commit_tells g.script c o)
  -- A request of an attempt, and one of a stranger that does not name the key, leave the object at a path as it is and end nothing.
  pub attempts : (g : Setting) → IsLegal g.script → (s : Seen) (m : Told) (a : Who) → Hold g.script g.minimum s m → IsAttempt g.script a
      → (op : Operation) → Fits g.script g.minimum a m op → (r : Request) → asks g a (known m a) op ≡ Some r → (o : Outcome)
      → (q : List ℕ) → is_open q ≡ true → at_key g.script (effect s.scene r o).content (below g.script.dest.key q) ≡ at_key g.script
      s.scene.content (below g.script.dest.key q)
  pub strangers : (w : Script) (minimum : ℕ) (s : Seen) (m : Told) → Hold w minimum s m → (r : Request) (o : Outcome) (k : List ℕ)
      → (bucket_of r ≡ w.dest.bucket → IsIn k (changed_keys r) → ⊥) → at_key w (effect s.scene r o).content k ≡ at_key w s.scene.content k
  -- All lanes are answered.
  pub whole : (w : Script) (q b : List ℕ) (first now : Option Object) (es : List Entry) (m : Told) (sets : Sets) (n : ℕ)
      → FileStands w q b first es now m.ended (Marking sets n) → now ≡ Some (whole_of b)
  -- A revert is over.
  pub reverted : (w : Script) (q b : List ℕ) (first now : Option Object) (es : List Entry) (m : Told)
      → FileStands w q b first es now m.ended (CommitOver (ends.StoreFault stages.Complete)) → (IsWorn w.retries (deletes w q) es → ⊥)
      → IsBefore first now
