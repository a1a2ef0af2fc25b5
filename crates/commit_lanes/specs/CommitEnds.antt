-- Laws of a job commit alone.
use Rattle.commit_lanes.specs.Fitting.{FitsCommit}
use Rattle.commit_lanes.specs.Tables.{listed}
use Rattle.job_model.specs.Jobs.{Job}
use Rattle.job_model.specs.declared.ends.CommitEnd.{CommitEnd}
use Rattle.job_protocol.specs.AtWork.{Committing, commit_told, commit_wants, read_script}
use Rattle.job_protocol.specs.JobCommits.{Commit, CommitOver, Completing, Fetching, Marking, Replacing, Reverting, Sets, all_commits}
use Rattle.job_protocol.specs.JobCommits.{commit_over, commit_start, picks_of, set_read, stage_of}
use Rattle.job_protocol.specs.Lanes.{Turn}
use Rattle.job_protocol.specs.Outputs.{same_path}
use Rattle.list_walk.specs.Left.{adds_key, one_if, sweep_left}
use Rattle.list_walk.specs.Walks.{sweep_start}
use Rattle.pending_json.specs.declared.records.PendingSet.{PendingSet}
use Rattle.retries.specs.Operation.{Follows, run}
use Rattle.retries.specs.Worn.{WornFirst}
use Rattle.s3_types.specs.Answer.{answer, apply}
use Rattle.s3_types.specs.Moment.{effect}
use Rattle.s3_types.specs.Store.{Scene}
use Rattle.s3_types.specs.declared.journal.Entry.{Entry}
use Rattle.s3_types.specs.declared.journal.Outcome.{Outcome}
use Rattle.s3_types.specs.declared.journal.Outcome.TheVariants.{Answered}
use Rattle.s3_types.specs.declared.reply.Reply.{Reply}
use Rattle.s3_types.specs.declared.request.Committer.{Committer}
use Rattle.s3_types.specs.declared.request.Committer.TheVariants.{Magic}
use Rattle.s3_types.specs.declared.request.Request.{Request}
use Rattle.s3_types.specs.declared.request.Request.TheVariants.{ClusterGet, GetObject}
use Rattle.std.specs.Prelude.{List, None, Option, Some, length, max, ℕ, [], ◌*◌, ◌++◌, ◌+◌, ◌-◌, ◌<◌, ◌∷◌, ◌≡◌, ◌≤◌}
use Rattle.job_model.specs.declared.ends.CommitEnd.TheVariants as ends

-- The commit of a job as it begins; `missing` is the lowest task that did not report.
abbrev pub start : Job → Option ℕ → Committing
start j missing = record { plan = j; picked = []; operation = commit_start (read_script j []) missing }

-- Each outcome fits the commit that received it.
abbrev pub AllFit : Committing → List Entry → Type 0
AllFit m [] = Unit {0}
AllFit m (e ∷ es) = FitsCommit m e.outcome × AllFit (commit_told m e.outcome) es

-- ---- its end

-- The set in the answer to the read of a set, or None.
abbrev pub set_heard : Request → Outcome → Option PendingSet
set_heard (GetObject bucket key) (Answered r) = set_read r
set_heard (ClusterGet path) (Answered r) = set_read r
set_heard _ _ = None

-- The sets that the answered reads of these entries returned.
abbrev pub sets_heard : List Entry → Sets
sets_heard [] = []
sets_heard (e ∷ es) = listed (set_heard e.request e.outcome) ++ sets_heard es

-- The end of a commit: Missing of a task, else StoreFault of the first request that exhausted its retries, else a path that two tasks
-- write, else Committed.
abbrev pub due : Option ℕ → Option Request → Option CommitEnd → CommitEnd
due (Some t) worn shared = ends.Missing t
due None (Some r) shared = ends.StoreFault (stage_of r)
due None None (Some end) = end
due None None None = ends.Committed

-- A job commit ends as `due` says of its own entries.
pub record EndsByEntries : Type 0 where
  pub ends : (j : Job) (missing : Option ℕ) → 0 < j.lanes → (es : List Entry) → Follows commit_wants commit_told (start j missing) es
      → AllFit (start j missing) es
      → (end : CommitEnd) → commit_over (run commit_told (start j missing) es).operation ≡ Some end
      → (worn : Option Request) × WornFirst j.retries es worn
      × (end ≡ due missing worn (same_path (read_script j (sets_heard es)) (picks_of (sets_heard es))))

-- ---- how much it has left

-- A bound on the sends of a lane from this turn on: for each upload that is not answered, the sends of its completion and those of one
-- request of a revert.
abbrev pub turn_left : ℕ → ℕ → Turn → ℕ
turn_left retries total x = (1 + (total - x.number)) * (2 * retries + 3) + (retries - x.missed)

-- A bound on the sends that these lanes have left.
abbrev pub turns_left : ℕ → ℕ → List Turn → ℕ
turns_left retries total [] = 0
turns_left retries total (x ∷ xs) = turn_left retries total x + turns_left retries total xs

-- A bound on the sends of the lanes, then of a revert with `done` completed uploads, then of the marker.
abbrev pub lanes_left : ℕ → ℕ → List Turn → ℕ → ℕ
lanes_left retries total xs done = turns_left retries total xs + (3 * total + done + 3) * (retries + 1) + (retries + 2)

-- A bound on the sends that complete `total` uploads in `lanes` lanes, with a revert and the marker.
abbrev pub all_left : ℕ → ℕ → ℕ → ℕ
all_left retries lanes total = lanes * ((1 + total) * (2 * retries + 3) + retries) + (3 * total + 3) * (retries + 1) + (retries + 2)

-- A bound on the sends of the read of a set of at most `most` uploads, with all that its uploads add.
abbrev pub read_left : ℕ → ℕ → ℕ → ℕ
read_left retries lanes most = most * (lanes * (2 * retries + 3) + 3 * (retries + 1)) + (retries + 2)

-- The largest number of uploads in one of these sets, but at least `most`.
abbrev pub widest : ℕ → Sets → ℕ
widest most [] = most
widest most (s ∷ ss) = max (length s.commits) (widest most ss)

-- A bound on the prefixes below which a replace mode deletes, if no set has more than `most` uploads.
abbrev pub prefixes_most : Job → ℕ → ℕ
prefixes_most j most = 1 + j.tasks * most

-- A bound on the requests of a sweep below any prefix of the bucket, from its beginning.
abbrev pub any_sweep : Job → Scene → ℕ
any_sweep j s = sweep_left j.dest.bucket [] sweep_start s

-- The number, or 0 for the magic committer, which deletes nothing.
abbrev pub if_staging : Committer → ℕ → ℕ
if_staging Magic n = 0
if_staging _ n = n

-- A bound on the sends of a deletion that is still to come, if no set has more than `most` uploads.
abbrev pub deletion_left : Job → ℕ → Scene → ℕ
deletion_left j most s = if_staging j.committer (prefixes_most j most * any_sweep j s * (j.retries + 1))

-- A bound on the sends that are still to come, if each set has at most `most` uploads.
abbrev pub left_of : ℕ → Job → Commit → Scene → ℕ
left_of most j (Fetching sets m) s = all_left j.retries j.lanes (length (all_commits sets)) + (1 + (j.tasks - length sets)) * read_left
    j.retries j.lanes most + (j.retries - m) + deletion_left j (widest most sets) s
left_of most j (Replacing sets p ps w m) s = (sweep_left j.dest.bucket p w s + length ps * any_sweep j s) * (j.retries + 1) +
    (j.retries - m) + all_left j.retries j.lanes (length (all_commits sets))
left_of most j (Completing sets x xs done) s = lanes_left j.retries (length (all_commits sets)) (x ∷ xs) (length done)
left_of most j (Marking sets m) s = j.retries - m + 1
left_of most j (Reverting q qs m) s = length qs * (j.retries + 1) + (j.retries - m + 1)
left_of most j (CommitOver end) s = 0

-- A bound on the sends that a job commit has left, if each set has at most `most` uploads.
abbrev pub left : ℕ → Committing → Scene → ℕ
left most m s = left_of most m.plan m.operation s

-- By how much a key that another actor adds may raise the bound at this stage.
abbrev pub rise_of : ℕ → Job → Commit → ℕ
rise_of most j (Fetching sets m) = if_staging j.committer (prefixes_most j (widest most sets) * (j.retries + 1))
rise_of most j (Replacing sets p ps w m) = (1 + length ps) * (j.retries + 1)
rise_of most j _ = 0

-- By how much a key that another actor adds may raise the bound.
abbrev pub rise : ℕ → Committing → ℕ
rise most m = rise_of most m.plan m.operation

-- A set that was read has at most `most` uploads.
abbrev pub HasFew : ℕ → Option PendingSet → Type 0
HasFew most None = Unit {0}
HasFew most (Some s) = length s.commits ≤ most

-- A set that this outcome returns has at most `most` uploads.
abbrev pub ReadsFew : ℕ → Commit → Outcome → Type 0
ReadsFew most (Fetching sets m) (Answered r) = HasFew most (set_read r)
ReadsFew most _ _ = Unit {0}

-- The outcome fits, the job has a lane, and a set that the outcome returns has at most `most` uploads.
pub record FitsFew (most : ℕ) (m : Committing) (o : Outcome) : Type 0 where
  pub lanes : 0 < m.plan.lanes
  pub fits : FitsCommit m o
  pub few : ReadsFew most m.operation o

-- A job commit sends no more requests than it has left.
pub record CommitFalls : Type 0 where
  -- The bound falls with each send, whatever its outcome.
  pub falls : (most : ℕ) (m : Committing) (s : Scene) (r : Request) (o : Outcome) → commit_wants m ≡ Some r → FitsFew most m o
      → ((a : Reply) → o ≡ Answered a → a ≡ answer s r) → left most (commit_told m o) (effect s r o) < left most m s
  -- A request of another actor raises the bound by at most `rise`, and only if it may add a key.
  pub others : (most : ℕ) (m : Committing) (s : Scene) (r : Request)
      → left most m (apply s r) ≤ left most m s + rise most m * one_if (adds_key r)
