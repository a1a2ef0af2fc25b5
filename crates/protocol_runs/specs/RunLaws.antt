-- The laws of whole runs: what the job does, and what readers of the destination may rely on at each moment.
use Rattle.job_invariant.specs.Facts.{Hold}
use Rattle.job_invariant.specs.Told.{known, nothing_told, tell_all}
use Rattle.job_model.specs.Attempts.{Who, actor_of}
use Rattle.job_model.specs.JobScript.{Script}
use Rattle.job_model.specs.Legal.{IsLegal}
use Rattle.job_model.specs.declared.ends.CommitEnd.{CommitEnd}
use Rattle.job_protocol.specs.JobCommits.{CommitOver, is_untouched}
use Rattle.job_protocol.specs.Knowledge.{knows}
use Rattle.job_protocol.specs.Operations.{Setting, TheCommit, TheTaskCommit}
use Rattle.job_protocol.specs.Scope.{SameOutside}
use Rattle.job_protocol.specs.Seen.{Times, nothing_seen, see_all}
use Rattle.job_protocol.specs.TaskCommits.{TaskCommitOver}
use Rattle.job_protocol.specs.View.{Same, view}
use Rattle.job_spec.specs.Ends.{has_cleaned}
use Rattle.job_spec.specs.Entries.{AreOwn, ZeroRename}
use Rattle.job_spec.specs.Headline.{Always}
use Rattle.job_spec.specs.OperationEnds.{NoDeletionWorn, OnlyOpening, WasPublished}
use Rattle.job_spec.specs.Turns.{by_actor}
use Rattle.protocol_runs.specs.Runs.{IsOpening, Runs, Stand, is_set}
use Rattle.s3_types.specs.Moment.{moment}
use Rattle.s3_types.specs.Store.{Content}
use Rattle.s3_types.specs.declared.journal.Entry.{Entry}
use Rattle.std.specs.Prelude.{Bool, List, Option, Some, false, length, true, ℕ, ◌≡◌, ◌≤◌}
use Rattle.job_model.specs.declared.ends.CommitEnd.TheVariants as commits
use Rattle.job_model.specs.declared.ends.FaultStage.TheVariants as stages
use Rattle.job_model.specs.declared.ends.TaskEnd.TheVariants as tasks

-- A journal says of an attempt what the attempt knows from its own entries. It says that the driver cleans up once it has an entry of the
-- first abort or clean.
pub record ToldIsSaid : Type 0 where
  pub known : (w : Script) (c : Option ℕ) (a : Who) (es : List Entry)
      → known (tell_all w (nothing_told c) es) a ≡ knows w a (by_actor (actor_of a) es)
  pub cleaned : (w : Script) (c : Option ℕ) (es : List Entry) → (tell_all w (nothing_told c) es).cleaned ≡ has_cleaned c es

-- What holds of a run of a job, of every committer and mode. Its operations send what they ask and receive what S3 answers, in any order of
-- its actors, among strangers that leave its own alone. What readers see is said only of runs in which no stranger sends.
pub record RunsKeep (g : Setting) (k : Times) (opening : Content) (es : List Entry) (x : Stand) : Type 0 where
  -- The run's state is what its entries say.
  pub seen : x.seen ≡ see_all g.script k (nothing_seen opening) es
  pub told : x.told ≡ tell_all g.script (nothing_told x.told.cleans_at) es
  -- From the end of the set-up on, the facts hold.
  pub hold : is_set x.driver ≡ true → Hold g.script g.minimum x.seen x.told
  -- At each moment readers of the destination see what the headline says.
  pub always : AreOwn es → Always g.script k opening es
  -- No entry of the job copies a file or changes anything outside the destination. The driver sends no data, and only its completions and
  -- deletions change what readers see.
  pub entries : ZeroRename g.script opening es
  pub outside : AreOwn es → (m : ℕ) → m ≤ length es → SameOutside g.script opening (moment opening es m).content
  -- Until the driver cleans up, an attempt's commit that is done has published its own set.
  pub published : x.told.cleaned ≡ false → (a : Who) (spare : ℕ) (repeated : Bool)
      → x.attempts a ≡ Some (TheTaskCommit (record { operation = TaskCommitOver tasks.Done; spare = spare; repeated = repeated }))
      → (n : ℕ) × WasPublished g.script opening es a.task a.attempt n
  -- If the commit ended before its first completion, readers see the opening files.
  pub untouched : AreOwn es → (end : CommitEnd) → x.driver ≡ Some (TheCommit (CommitOver end)) → is_untouched end ≡ true
      → Same (view g.script.dest x.seen.scene.content) (view g.script.dest opening)
  -- A revert of which no deletion ran out of retries leaves no file of the job.
  pub reverted : AreOwn es → x.driver ≡ Some (TheCommit (CommitOver (commits.StoreFault stages.Complete)))
      → NoDeletionWorn g.script.retries x.commit → OnlyOpening g.script opening x.seen.scene.content

-- Every run of a legal script keeps all of this.
abbrev pub AllRunsKeep : Type 0
AllRunsKeep = (g : Setting) → IsLegal g.script → (k : Times) (opening : Content) → IsOpening g opening → (es : List Entry) (x : Stand)
    → Runs g k opening es x → RunsKeep g k opening es x
