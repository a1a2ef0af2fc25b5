-- Journals that a job's promise refuses. The name of each tells the broken part.
use Rattle.job_examples.specs.Jobs.{before_commit, commits_at, lake, said}
use Rattle.job_examples.specs.OneFile.{attempt_entries, opening, script, setup_entries, the_completion, the_marking, the_read}
use Rattle.job_examples.specs.OneFile.{write_entries}
use Rattle.job_model.specs.declared.ends.Pick.{Pick}
use Rattle.job_spec.specs.Headline.{Always}
use Rattle.job_spec.specs.Promise.{Promised}
use Rattle.s3_types.specs.Store.{Content}
use Rattle.s3_types.specs.Tags.{plain_tag}
use Rattle.s3_types.specs.declared.journal.Entry.{Entry}
use Rattle.s3_types.specs.declared.reply.Reply.TheVariants.{Deleted, Stored}
use Rattle.s3_types.specs.declared.request.Actor.TheVariants.{Driver}
use Rattle.s3_types.specs.declared.request.Request.TheVariants.{DeleteObject, PutObject}
use Rattle.std.specs.Prelude.{List, None, codes, ℕ, [], ◌++◌, ◌∷◌}
use Rattle.std.specs.FinMap as fin

-- The driver puts an object during its commit.
abbrev pub puts : List ℕ → List ℕ → Entry
puts key bytes = said 4 Driver (PutObject lake key bytes None) (Stored (plain_tag bytes))

-- A foreign file exists at the destination after the commit has begun.
abbrev pub foreign : List Entry
foreign = attempt_entries ++ the_read ∷ puts (codes "out/other") (codes "hello") ∷ []

-- The file of the chosen attempt is torn.
abbrev pub torn : List Entry
torn = attempt_entries ++ the_read ∷ puts (codes "out/part-00000") (codes "hel") ∷ []

-- The driver completes the upload in an event before its commit.
abbrev pub early : List Entry
early = setup_entries ++ write_entries ++ the_completion 3 ∷ []

-- The commit completes the upload before it has read the set.
abbrev pub unread : List Entry
unread = attempt_entries ++ the_completion 4 ∷ []

-- The driver puts `_SUCCESS`, and the file does not exist.
abbrev pub marked_early : List Entry
marked_early = attempt_entries ++ the_read ∷ the_marking ∷ []

-- A store in which readers already see one file.
abbrev pub old_opening : Content
old_opening = record {
  buckets = fin.insert fin.empty lake (record {
    objects = fin.insert fin.empty (codes "out/old")
        (record { bytes = codes "old"; header = None });
    uploads = fin.empty;
  });
  next = 1;
  minimum = 5242880;
}

-- A file that the mode append keeps is gone.
abbrev pub kept_gone : List Entry
kept_gone = attempt_entries ++ the_read ∷ said 4 Driver (DeleteObject lake (codes "out/old")) Deleted ∷ []

-- Each of these journals breaks what readers may rely on.
pub record Misshown : Type 0 where
  pub foreign : Always script (commits_at 4) opening foreign → ⊥
  pub torn : Always script (commits_at 4) opening torn → ⊥
  pub early : Always script (commits_at 4) opening early → ⊥
  pub unread : Always script (commits_at 4) opening unread → ⊥
  pub marked_early : Always script (commits_at 4) opening marked_early → ⊥
  pub kept_gone : Always script (commits_at 4) old_opening kept_gone → ⊥

-- No such run is promised, whatever attempts are reported as chosen.
pub record MisshownRuns : Type 0 where
  pub foreign : (ps : List Pick) → Promised script opening foreign ps before_commit → ⊥
  pub torn : (ps : List Pick) → Promised script opening torn ps before_commit → ⊥
  pub early : (ps : List Pick) → Promised script opening early ps before_commit → ⊥
  pub unread : (ps : List Pick) → Promised script opening unread ps before_commit → ⊥
  pub marked_early : (ps : List Pick) → Promised script opening marked_early ps before_commit → ⊥
  pub kept_gone : (ps : List Pick) → Promised script old_opening kept_gone ps before_commit → ⊥
