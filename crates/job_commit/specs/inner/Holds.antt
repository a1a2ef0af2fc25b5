-- Definitions beside those of `Holds` that no public contract cites.
use Rattle.commit_lanes.specs.Places.{places_from}
use Rattle.commit_lanes.specs.ReadSets.{AreRead, HasAll}
use Rattle.commit_lanes.specs.Tables.{LaneTable}
use Rattle.commit_lanes.specs.Undos.{NumbersWithin}
use Rattle.commit_lanes.specs.declared.places.Place.{Place}
use Rattle.commit_lanes.specs.declared.undo.Undo.{Undo}
use Rattle.conflict.specs.Deletions.{Deletion, spared}
use Rattle.job_commit.specs.Holds.{picks_from}
use Rattle.job_commit.specs.inner.Stages.{operation_of}
use Rattle.job_commit.specs.declared.basis.Basis.{Basis}
use Rattle.job_commit.specs.declared.step.Next.{Next}
use Rattle.job_commit.specs.declared.step.Step.{Step}
use Rattle.job_model.specs.JobScript.{Script}
use Rattle.job_model.specs.Jobs.{Job}
use Rattle.job_model.specs.declared.ends.Pick.{Pick}
use Rattle.job_protocol.specs.AtWork.{picked_after, read_script, sets_after, sets_in}
use Rattle.job_protocol.specs.JobCommits.{Commit, Sets, all_commits, commit_asks, commit_hears, commit_misses}
use Rattle.job_protocol.specs.LaneTable.{In}
use Rattle.job_protocol.specs.Lanes.{Turn}
use Rattle.s3_types.specs.declared.journal.Outcome.TheVariants.{Answered}
use Rattle.s3_types.specs.declared.reply.Reply.{Reply}
use Rattle.s3_types.specs.declared.reply.Reply.TheVariants.{ClusterBytes, Object}
use Rattle.s3_types.specs.declared.request.Request.{Request}
use Rattle.std.specs.Prelude.{Bool, List, None, Option, Some, length, map, ℕ, [], ◌<◌, ◌≡◌, ◌≤◌}
use Rattle.job_commit.specs.declared.step.Step.TheVariants as steps

-- The attempts of these choices.
abbrev pub attempts_of : List Pick → List ℕ
attempts_of picks = map (λ p. p.attempt) picks

-- The sets read so far are those of their tasks, and a task is left to read.
pub record Reads (j : Job) (sets : Sets) : Type 0 where
  pub each : AreRead j sets
  pub more : length sets < j.tasks

-- The numbers in the lanes are those of uploads.
pub record LanesWithin (sets : Sets) (l : LaneTable) : Type 0 where
  pub turns : (x : Turn) → In x l.turns → x.number < length (all_commits sets)
  pub done : (n : ℕ) → In n l.finished → n < length (all_commits sets)

-- The steps left of a revert are about uploads of these sets.
abbrev pub UndoWithin : Sets → List Undo → Type 0
UndoWithin sets u = NumbersWithin (length (all_commits sets)) u

-- All sets were read, and a prefix is left below which to delete.
pub record Deletes (j : Job) (sets : Sets) (places : List Place) (d : Deletion) : Type 0 where
  pub all : HasAll j sets places
  pub spared : d.spared ≡ spared j.dest
  pub some : d.prefixes ≡ [] → ⊥

-- At each step its data fit: a task is left to read; or all sets were read and a prefix or a lane is left; or a request of the revert is
-- left.
pub record StepHolds (j : Job) (sets : Sets) (places : List Place) (step : Step) : Type 0 where
  pub reads : (m : ℕ) → step ≡ steps.Fetching m → Reads j sets
  pub deletes : (d : Deletion) (m : ℕ) → step ≡ steps.Replacing d m → Deletes j sets places d
  pub all : (l : LaneTable) → step ≡ steps.Completing l → HasAll j sets places
  pub lanes : (l : LaneTable) → step ≡ steps.Completing l → LanesWithin sets l
  pub turns : (l : LaneTable) → step ≡ steps.Completing l → l.turns ≡ [] → ⊥
  pub placed : (u : List Undo) (m : ℕ) → step ≡ steps.Reverting u m → places ≡ places_from 0 sets
  pub undo : (u : List Undo) (m : ℕ) → step ≡ steps.Reverting u m → UndoWithin sets u
  pub some : (u : List Undo) (m : ℕ) → step ≡ steps.Reverting u m → u ≡ [] → ⊥

-- The request that the commit sends next.
abbrev pub asks : Job → Commit → Option Request
asks j c = commit_asks (read_script j (sets_in c)) c

-- The chosen attempts are those of the tasks from 0 on. They are no more than the sets, and the sets no more than the tasks.
pub record PicksHold (j : Job) (sets : Sets) (picks : List Pick) : Type 0 where
  pub picked : picks ≡ picks_from 0 (attempts_of picks)
  pub counted : length picks ≤ length sets
  pub few : length sets ≤ j.tasks

-- What the machine keeps true.
pub record Holds (j : Job) (sets : Sets) (places : List Place) (picks : List Pick) (step : Step) (asked : Option Request) : Type 0 where
  pub counts : PicksHold j sets picks
  pub goes : StepHolds j sets places step
  pub wants : asked ≡ asks j (operation_of sets step)

-- This is the machine's next step if the commit goes on as `c`.
pub record IsNext (j : Job) (sets : Sets) (places : List Place) (c : Commit) (next : Next) : Type 0 where
  pub is : operation_of sets next.step ≡ c
  pub asked : next.asked ≡ asks j c
  pub step : StepHolds j sets places next.step

-- The machine's next step after an answer, with the sets, the places and the chosen attempts that it then has.
pub record Heard (j : Job) (sets : Sets) (picks : List Pick) (c : Commit) (r : Reply) (sets' : Sets) (places' : List Place)
    (picks' : List Pick) (after : Next) : Type 0 where
  pub next : IsNext j sets' places' (commit_hears (read_script j (sets_after c (Answered r))) c r) after
  pub picked : attempts_of picks' ≡ picked_after (attempts_of picks) c (Answered r)

-- The script of the job, with the sets that were read.
abbrev pub script_of : Basis → Script
script_of b = read_script b.plan b.sets

-- All sets were read, and the places of their uploads are known.
abbrev pub HasRead : Basis → Type 0
HasRead b = HasAll b.plan b.sets b.places

-- The places are those of the uploads of the sets.
abbrev pub IsPlaced : Basis → Type 0
IsPlaced b = b.places ≡ places_from 0 b.sets

-- The commit may be at this step.
abbrev pub IsAt : Basis → Step → Type 0
IsAt b step = StepHolds b.plan b.sets b.places step

-- This is the next step if the commit goes on as `c`.
abbrev pub GoesTo : Basis → Commit → Next → Type 0
GoesTo b c next = IsNext b.plan b.sets b.places c next

-- The next step after an answer, with the sets and places that the commit then has.
abbrev pub Hears : Basis → List Pick → Commit → Reply → Basis → List Pick → Next → Type 0
Hears b picks c r b' picks' next = Heard b.plan b.sets picks c r b'.sets b'.places picks' next

-- The next step after a send without an answer, which was lost or slow.
abbrev pub Misses : Basis → Step → Bool → Next → Type 0
Misses b step lost next = let c = operation_of b.sets step in GoesTo b (commit_misses (read_script b.plan (sets_in c)) c lost) next

-- The bytes in an answer, or None.
abbrev pub bytes_in : Reply → Option (List ℕ)
bytes_in (Object bytes header) = Some bytes
bytes_in (ClusterBytes bytes) = Some bytes
bytes_in _ = None
