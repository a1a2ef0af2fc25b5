-- Every run of a job is sound for readers.
use Rattle.job_model.specs.JobScript.{Script}
use Rattle.job_model.specs.Legal.{IsLegal}
use Rattle.job_model.specs.declared.ends.EventEnd.{EventEnd}
use Rattle.job_protocol.specs.Operations.{Setting}
use Rattle.job_protocol.specs.Outputs.{Picks, is_decided}
use Rattle.job_protocol.specs.Seen.{seen}
use Rattle.job_soundness.specs.Claim.{chosen_below, claim_of, moments_to, shown}
use Rattle.job_spec.specs.Entries.{AreOwn}
use Rattle.job_spec.specs.States.{times}
use Rattle.script_steps.specs.Transitions.{Play, Reachable}
use Rattle.protocol_runs.specs.Runs.{IsOpening}
use Rattle.s3_types.specs.Store.{Content}
use Rattle.s3_types.specs.declared.journal.Entry.{Entry}
use Rattle.soundness.specs.Claims.{Chooses}
use Rattle.soundness.specs.Moments.{Explains, Sound}
use Rattle.std.specs.List.{All}
use Rattle.std.specs.Prelude.{List, None, length, true, ◌≡◌}

-- The attempts that the job's commit has chosen at the end of a journal.
abbrev pub picks_at_end : Script → Content → List Entry → List EventEnd → Picks
picks_at_end w opening journal xs = (seen w (times w xs) opening journal (length journal)).picks

-- The attempts that the job's commit has chosen are a choice for the job's claim, and they explain each moment of the journal.
pub record PicksExplain (w : Script) (opening : Content) (journal : List Entry) (xs : List EventEnd) : Type 0 where
  pub chooses : Chooses (claim_of w).tasks (chosen_below w (picks_at_end w opening journal xs) w.tasks)
  pub explain : All (Explains (claim_of w) (shown w.dest opening) (chosen_below w (picks_at_end w opening journal xs) w.tasks))
      (moments_to w (times w xs) opening journal (length journal))

-- If only the job's actors sent requests, the run is sound for readers at each moment of the journal.
pub record ReadersSafe (w : Script) (opening : Content) (journal : List Entry) (xs : List EventEnd) : Type 0 where
  -- One attempt per task explains all that readers saw, or readers saw nothing that needs a choice.
  pub sound : AreOwn journal → Sound (claim_of w) (shown w.dest opening) (moments_to w (times w xs) opening journal (length journal))
  -- If the commit has chosen an attempt of each task, and no two of these write one path, then the chosen attempts explain it.
  pub picks : AreOwn journal → is_decided w (picks_at_end w opening journal xs) ≡ true → PicksExplain w opening journal xs

-- At each point between two events, the run of a legal script is sound for readers.
abbrev pub RunsAreSafe : Type 0
RunsAreSafe = (g : Setting) (opening : Content) (x : Play) → IsLegal g.script → IsOpening g opening → Reachable g opening x → x.now ≡ None
    → ReadersSafe g.script opening x.journal x.ends
