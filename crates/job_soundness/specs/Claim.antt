-- What the job of a script claims about its run, and what readers see at a moment of it, in the terms of `soundness`.
use Rattle.job_model.specs.JobScript.{Script}
use Rattle.job_model.specs.Placed.{placed}
use Rattle.job_protocol.specs.Outputs.{Picks, files_picked}
use Rattle.job_protocol.specs.Seen.{Seen, Times, seen}
use Rattle.job_protocol.specs.View.{object_at}
use Rattle.magic_paths.specs.Layout.{success_key}
use Rattle.path_keys.specs.Paths.{Path, below}
use Rattle.s3_types.specs.Store.{Content}
use Rattle.s3_types.specs.declared.journal.Entry.{Entry}
use Rattle.s3_types.specs.declared.request.Committer.{Committer}
use Rattle.s3_types.specs.declared.request.Committer.TheVariants.{Directory, Partitioned}
use Rattle.s3_types.specs.declared.request.Mode.{Mode}
use Rattle.s3_types.specs.declared.request.Mode.TheVariants.{Replace}
use Rattle.soundness.specs.Claims.{Attempts, Claim, Files}
use Rattle.soundness.specs.Moments.{Moment, Shown}
use Rattle.soundness.specs.Paths.{is_visible}
use Rattle.soundness.specs.declared.keeps.Keeps.{Keeps}
use Rattle.soundness.specs.declared.marker.Marker.{Marker}
use Rattle.std.specs.List.{filter}
use Rattle.std.specs.Option.{option_map}
use Rattle.std.specs.Prelude.{Bool, List, None, cond, false, is_some, map, nat_eq, suc, true, zero, ℕ, [], ◌++◌, ◌∷◌}
use Rattle.soundness.specs.declared.keeps.Keeps.TheVariants as keeps
use Rattle.soundness.specs.declared.marker.Marker.TheVariants as markers

-- ---- the claim

-- The opening files that a committer keeps in a conflict mode (Hadoop: fs.s3a.committer.staging.conflict-mode).
abbrev pub keeps_by : Committer → Mode → Keeps
keeps_by Directory Replace = keeps.Nothing
keeps_by Partitioned Replace = keeps.Partitions
keeps_by _ _ = keeps.Everything

-- The attempts that a script declares for a task, in the script's order: for each, the bytes of its files by their paths below the
-- destination.
abbrev pub attempts_of : Script → ℕ → Attempts (List ℕ)
attempts_of w t = map (λ a. placed w.unique w.job a.1) (filter (λ a. nat_eq a.0.task t) w.attempts)

-- The attempts of each of the first tasks, task by task.
abbrev pub tasks_below : Script → ℕ → List (Attempts (List ℕ))
tasks_below w zero = []
tasks_below w (suc t) = tasks_below w t ++ attempts_of w t ∷ []

-- The claim of a script's job: what its committer keeps in its mode, and the attempts of each task.
abbrev pub claim_of : Script → Claim (List ℕ)
claim_of w = record { keeps = keeps_by w.committer w.mode; tasks = tasks_below w w.tasks }

-- The files of the chosen attempt of each of the first tasks; no files for a task without a choice yet.
abbrev pub chosen_below : Script → Picks → ℕ → List (Files (List ℕ))
chosen_below w picks zero = []
chosen_below w picks (suc t) = chosen_below w picks t ++ files_picked w t (picks t) ∷ []

-- ---- moments

-- What readers of a destination see at a path: the bytes of the object there, if the path is visible.
abbrev pub shown : Path → Content → Shown (List ℕ)
shown dest c p = cond (is_visible p) (option_map (λ o. o.bytes) (object_at c dest.bucket (below dest.key p))) None

-- Which success marker exists, by two answers: whether one exists, and whether this run has put it.
abbrev pub marker_of : Bool → Bool → Marker
marker_of false put = markers.Absent
marker_of true false = markers.Old
marker_of true true = markers.New

-- A moment of a job: whether its commit has begun, which success marker exists, and what readers see.
abbrev pub moment_of : Script → Seen → Moment (List ℕ)
moment_of w s = record {
  begun = s.begun;
  marker = marker_of (is_some (object_at s.scene.content w.dest.bucket (success_key w.dest.key))) s.put_mark;
  shown = shown w.dest s.scene.content;
}

-- The moments of a journal from the opening to the one after its first n entries.
abbrev pub moments_to : Script → Times → Content → List Entry → ℕ → List (Moment (List ℕ))
moments_to w k opening journal zero = moment_of w (seen w k opening journal 0) ∷ []
moments_to w k opening journal (suc n) = moments_to w k opening journal n ++ moment_of w (seen w k opening journal (suc n)) ∷ []
