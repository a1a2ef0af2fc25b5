-- The laws of this crate.
use Rattle.text_and_lists.specs.Order.{text_cmp}
use Rattle.job_model.specs.Attempts.{Who}
use Rattle.job_model.specs.JobScript.{Script}
use Rattle.job_model.specs.Known.{Known}
use Rattle.job_model.specs.declared.ends.CommitEnd.{CommitEnd}
use Rattle.job_model.specs.declared.ends.CommitEnd.TheVariants.{SamePath}
use Rattle.job_model.specs.declared.ends.OpEnd.{OpEnd}
use Rattle.job_model.specs.declared.events.Op.{Op}
use Rattle.job_protocol.specs.JobCommits.{Commit, Completing, Sets, all_commits, commit_asks, commit_over, commit_start, commit_tells}
use Rattle.job_protocol.specs.JobCommits.{stage_of}
use Rattle.job_protocol.specs.LaneOrder.{IsNext, lane_after}
use Rattle.job_protocol.specs.LaneTable.{AllSound, In, RequestsApart, Table, Tabled}
use Rattle.job_protocol.specs.Lanes.{Turn, nth}
use Rattle.job_protocol.specs.Operations.{Operation, Reports, Running, Setting, TheCheck, TheClean, TheCommit, TheSetup, TheSparing}
use Rattle.job_protocol.specs.Operations.{TheTaskAbort, TheTaskCommit, TheWrite, advance, asks, over, start_of, wants}
use Rattle.job_protocol.specs.Outputs.{Picks, same_path, writes}
use Rattle.retries.specs.Operation.{Follows, run}
use Rattle.retries.specs.Retries.{spent_in}
use Rattle.retries.specs.Worn.{WornFirst}
use Rattle.s3_types.specs.declared.journal.Entry.{Entry}
use Rattle.s3_types.specs.declared.journal.Outcome.{Outcome}
use Rattle.s3_types.specs.declared.request.Actor.{Actor}
use Rattle.s3_types.specs.declared.request.Actor.TheVariants.{Attempt, Driver}
use Rattle.s3_types.specs.declared.request.Request.{Request}
use Rattle.std.specs.Ordering.{is_lt}
use Rattle.std.specs.Prelude.{Bool, List, None, Option, Some, false, is_some, length, true, ℕ, [], ◌<◌, ◌≡◌}
use Rattle.job_model.specs.declared.events.Op.TheVariants as ops
use Rattle.job_model.specs.declared.ends.OpEnd.TheVariants as ends
use Rattle.job_model.specs.declared.ends.SetupEnd.TheVariants as setups
use Rattle.job_model.specs.declared.ends.TaskEnd.TheVariants as tasks
use Rattle.job_model.specs.declared.ends.CleanEnd.TheVariants as cleans
use Rattle.job_model.specs.declared.ends.CommitEnd.TheVariants as commits

-- Holds if there is a request or an end, and not both.
abbrev pub OneOf : {X : Type 0} → Option Request → Option X → Type 0
OneOf (Some r) None = Unit {0}
OneOf None (Some e) = Unit {0}
OneOf (Some r) (Some e) = ⊥
OneOf None None = ⊥

-- True if the actor has this operation.
abbrev pub has_op : Actor → Op → Bool
has_op Driver ops.Setup = true
has_op Driver ops.Commit = true
has_op Driver ops.Abort = true
has_op Driver ops.Clean = true
has_op (Attempt t a) ops.Write = true
has_op (Attempt t a) ops.Commit = true
has_op (Attempt t a) ops.Abort = true
has_op _ _ = false

-- The law of operations.
pub record OperationTable : Type 0 where
  -- An operation has a next request exactly until it is over.
  pub goes_on : (g : Setting) (a : Who) (k : Known) (op : Operation) → OneOf (asks g a k op) (over op)
  -- Each actor has its operations, for every committer.
  pub starts : (g : Setting) (a : Actor) (op : Op) (r : Reports) (k : Known) → is_some (start_of g a op r k) ≡ has_op a op

-- ---- requests that run out of retries

-- True if the operation sends one request at a time, with retries. A job's commit sends in lanes, and a check may go on as one.
abbrev pub is_serial : Operation → Bool
is_serial (TheCommit c) = false
is_serial (TheCheck t) = false
is_serial _ = true

-- How often the current request may still be sent again.
abbrev pub spare_of : Operation → ℕ
spare_of (TheSetup t) = t.spare
spare_of (TheWrite t) = t.spare
spare_of (TheTaskCommit t) = t.spare
spare_of (TheTaskAbort t) = t.spare
spare_of (TheCommit c) = 0
spare_of (TheClean t) = t.spare
spare_of (TheCheck t) = t.spare
spare_of (TheSparing t) = t.spare

-- True if a set-up, an operation of an attempt, or an abort or clean ended with StoreFault.
abbrev pub is_fault : Option OpEnd → Bool
is_fault (Some (ends.Setup setups.StoreFault)) = true
is_fault (Some (ends.Task tasks.StoreFault)) = true
is_fault (Some (ends.Clean cleans.StoreFault)) = true
is_fault _ = false

-- The law of faults. An operation that sends one request at a time begins with all retries left, and follows its actor's entries. Then
-- it ends with StoreFault exactly if a request ran out of retries by these entries alone.
pub record FaultsAreWorn : Type 0 where
  pub first : (g : Setting) (a : Actor) (m : Running) → is_serial m.operation ≡ true → spare_of m.operation ≡ g.script.retries
      → (es : List Entry) → Follows (wants g a) (advance g a) m es
      → WornFirst g.script.retries es (spent_in (advance g a) (λ x. spare_of x.operation) m es)
  pub fault : (g : Setting) (a : Actor) (m : Running) → is_serial m.operation ≡ true → is_fault (over m.operation) ≡ false
      → (es : List Entry) → Follows (wants g a) (advance g a) m es
      → is_fault (over (run (advance g a) m es).operation) ≡ is_some (spent_in (advance g a) (λ x. spare_of x.operation) m es)

-- ---- the path that two chosen attempts write

-- Holds if p is the least path that two chosen attempts write, and t and u are the two lowest tasks that write it.
pub record IsShared (w : Script) (picks : Picks) (p : List ℕ) (t u : ℕ) : Type 0 where
  pub first : t < u
  pub last : u < w.tasks
  pub writes_first : writes w picks p t ≡ true
  pub writes_last : writes w picks p u ≡ true
  -- No other task below u writes it.
  pub least_tasks : (v : ℕ) → v < u → writes w picks p v ≡ true → v ≡ t
  -- No lesser path is written by two tasks.
  pub least_path : (q : List ℕ) (v x : ℕ) → v < x → x < w.tasks → writes w picks q v ≡ true → writes w picks q x ≡ true
      → is_lt (text_cmp q p) ≡ false

-- The law of SamePath: it names a path that two chosen attempts write, and without it no two of them write the same path.
pub record SharedPaths : Type 0 where
  pub found : (w : Script) (picks : Picks) (e : CommitEnd) → same_path w picks ≡ Some e → (p : List ℕ) × (t : ℕ) × (u : ℕ)
      × (e ≡ SamePath p t u) × IsShared w picks p t u
  pub none : (w : Script) (picks : Picks) → same_path w picks ≡ None → (p : List ℕ) (t u : ℕ) → t < u → u < w.tasks
      → writes w picks p t ≡ true → writes w picks p u ≡ true → ⊥

-- ---- lanes

-- The law of the table of lanes. While a job's commit completes, each upload is either completed, or at or after exactly one turn. The
-- commit goes on to `_SUCCESS` only when all are completed.
pub record LanesKeep : Type 0 where
  pub starts : (w : Script) (missing : Option ℕ) → 0 < w.lanes → Tabled w (commit_start w missing)
  pub goes_on : (w : Script) (c : Commit) (o : Outcome) → 0 < w.lanes → Tabled w c → Tabled w (commit_tells w c o)
  pub all_done : (lanes retries total : ℕ) (finished : List ℕ) → Table lanes retries total [] finished → (n : ℕ) → n < total → In n finished

-- Holds if the end fits the first request that ran out of retries: StoreFault of its stage, and any other end if there is none.
abbrev pub EndIs : Option Request → CommitEnd → Type 0
EndIs (Some r) end = end ≡ commits.StoreFault (stage_of r)
EndIs None (commits.StoreFault stage) = ⊥
EndIs None end = Unit {0}

-- The law of how a job's commit in lanes ends, and which upload it completes next.
pub record CommitsInLanes : Type 0 where
  -- It ends by its first request that ran out of retries, by its entries alone.
  pub ends : (w : Script) → 0 < w.lanes → (es : List Entry) → Follows (commit_asks w) (commit_tells w) (commit_start w None) es
      → AllSound w (commit_start w None) es
      → (end : CommitEnd) → commit_over (run (commit_tells w) (commit_start w None) es) ≡ Some end → (worn : Option Request)
      × WornFirst w.retries es worn × EndIs worn end
  -- It completes next the next upload in the cyclic order of the lanes, from lane 0 on.
  pub order : (w : Script) → 0 < w.lanes → (es : List Entry) (sets : Sets) (x : Turn) (xs : List Turn) (done : List ℕ)
      → run (commit_tells w) (commit_start w None) es ≡ Completing sets x xs done
      → IsNext w.lanes (length (all_commits sets)) done (lane_after w (commit_start w None) 0 es) x.number
  -- Completions of uploads with different keys are different requests.
  pub apart : (sets : Sets) → ((m n : ℕ) → m < length (all_commits sets) → n < length (all_commits sets)
      → (nth (all_commits sets) m).destination ≡ (nth (all_commits sets) n).destination → m ≡ n) → RequestsApart sets
