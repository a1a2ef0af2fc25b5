-- The picks at each moment of a run, and what readers see if a commit ended before its first completion.
use Rattle.job_model.specs.JobScript.{Script}
use Rattle.job_model.specs.Legal.{IsLegal}
use Rattle.job_model.specs.declared.ends.CommitEnd.{CommitEnd}
use Rattle.job_protocol.specs.Cleanups.{Clean, clean_asks}
use Rattle.job_protocol.specs.JobCommits.{CommitOver, is_untouched}
use Rattle.job_protocol.specs.Operations.{Setting, TheCommit}
use Rattle.job_protocol.specs.Seen.{Seen, Times, is_reading, see_all, seen}
use Rattle.job_protocol.specs.View.{Same, view}
use Rattle.job_spec.specs.Headline.{Always}
use Rattle.protocol_runs.specs.Runs.{IsOpening, Runs, Stand}
use Rattle.s3_types.specs.Moment.{moment}
use Rattle.s3_types.specs.Store.{Content}
use Rattle.s3_types.specs.declared.journal.Entry.{Entry}
use Rattle.s3_types.specs.declared.request.Actor.TheVariants.{Driver}
use Rattle.s3_types.specs.declared.request.Request.{Request}
use Rattle.std.specs.Prelude.{List, None, Some, false, length, true, ℕ, [], ◌++◌, ◌<◌, ◌∷◌, ◌≡◌, ◌≤◌, ◌⊎◌}
use Rattle.job_model.specs.declared.ends.CommitEnd.TheVariants as commits

-- By none of these entries does the driver read a task's set.
abbrev pub NoneRead : Script → List Entry → Type 0
NoneRead w [] = Unit {0}
NoneRead w (e ∷ es) = (e.actor ≡ Driver → (t : ℕ) → is_reading w t e.request ≡ false) × NoneRead w es

-- Picks stay once they are made, and a commit that ended before its first completion has shown nothing.
pub record CommitMoments : Type 0 where
  -- At each moment a task has no pick, or the one that it has at the end.
  pub earlier : (g : Setting) → IsLegal g.script → (k : Times) (opening : Content) → IsOpening g opening → (es : List Entry) (x : Stand)
      → Runs g k opening es x → (m : ℕ) → m ≤ length es
      → (t : ℕ) → t < g.script.tasks → ((seen g.script k opening es m).picks t ≡ None)
      ⊎ ((seen g.script k opening es m).picks t ≡ x.seen.picks t)
  -- The driver makes no pick with entries that read no set.
  pub later : (w : Script) (k : Times) (s : Seen) (es : List Entry) → NoneRead w es → (t : ℕ) → (see_all w k s es).picks t ≡ s.picks t
  -- An abort or clean of the job reads no set.
  pub cleans : (w : Script) (c : Clean) (r : Request) → clean_asks w c ≡ Some r → (t : ℕ) → is_reading w t r ≡ false
  -- If the commit ended before its first completion, and the driver read no set after that, readers see the opening files at each moment.
  pub untouched : (g : Setting) → IsLegal g.script → (k : Times) (opening : Content) → IsOpening g opening → (es : List Entry) (x : Stand)
      → Runs g k opening es x
      → (end : CommitEnd) → x.driver ≡ Some (TheCommit (CommitOver end)) → is_untouched end ≡ true
      → ((t : ℕ) → end ≡ commits.Missing t → t < g.script.tasks)
      → (more : List Entry) → NoneRead g.script more → Always g.script k opening (es ++ more) → (m : ℕ) → m ≤ length (es ++ more)
      → Same (view g.script.dest (moment opening (es ++ more) m).content) (view g.script.dest opening)
