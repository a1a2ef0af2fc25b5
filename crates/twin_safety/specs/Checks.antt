-- How the check before the commit of a job at a shared destination ends, by its entries alone.
use Rattle.job_model.specs.Attempts.{Who}
use Rattle.job_model.specs.JobScript.{Script}
use Rattle.job_model.specs.declared.ends.CheckEnd.{CheckEnd}
use Rattle.job_model.specs.declared.ends.CheckEnd.TheVariants.{Clear, Conflict, StoreFault}
use Rattle.job_protocol.specs.Rechecks.{Check, CheckOver, check_after, check_asks, check_start}
use Rattle.job_protocol.specs.Setup.{dest_prefix, first_shown}
use Rattle.job_protocol.specs.TaskCommits.{partition_prefix}
use Rattle.list_walk.specs.Walks.{keys_on, page_after}
use Rattle.retries.specs.Operation.{Follows, run}
use Rattle.retries.specs.Retries.{Retried, fresh, step, wants_of}
use Rattle.retries.specs.Worn.{WornFirst}
use Rattle.s3_types.specs.declared.journal.Entry.{Entry}
use Rattle.s3_types.specs.declared.journal.Outcome.{Outcome}
use Rattle.s3_types.specs.declared.journal.Outcome.TheVariants.{Answered}
use Rattle.s3_types.specs.declared.reply.PageEntry.{PageEntry}
use Rattle.s3_types.specs.declared.reply.Reply.TheVariants.{Page}
use Rattle.s3_types.specs.declared.request.Request.{Request}
use Rattle.s3_types.specs.declared.request.Request.TheVariants.{ListPage}
use Rattle.std.specs.Prelude.{Bool, List, None, Option, Some, false, ℕ, [], ◌++◌, ◌∷◌, ◌≡◌, ◌⊎◌}

-- The check of the files of these attempts, before its first request.
abbrev pub checking : Script → List Who → Retried Check
checking w reported = fresh w.retries (check_start w reported)

-- The check after the outcome of one send.
abbrev pub next : Script → Retried Check → Outcome → Retried Check
next w = step w.retries (check_after w)

-- The check asked the requests of these entries, and their outcomes led it to this state.
abbrev pub Checked : Script → List Who → List Entry → Retried Check → Type 0
Checked w reported es t = Follows (wants_of (check_asks w)) (next w) (checking w reported) es × (run (next w) (checking w reported) es ≡ t)

-- The answer of the entry showed the conflict: a page of the destination on which p is the first file, or a key below the partition p.
abbrev pub ShownBy : Script → List ℕ → Entry → Type 0
ShownBy w p e = (page : List PageEntry) × (more : Bool) × (e.outcome ≡ Answered (Page page more))
    × (((keys : List (List ℕ)) × (e.request ≡ page_after w.dest.bucket (dest_prefix w) keys) × (first_shown w (keys_on page) ≡ Some p))
    ⊎ ((e.request ≡ ListPage w.dest.bucket (partition_prefix w p) false [] 1) × (x : PageEntry) × (xs : List PageEntry) × (page ≡ x ∷ xs)))

-- How a check ends: with StoreFault if a request of it ran out of retries, else clear, or as a conflict that its last answer showed.
abbrev pub CheckIs : Script → List Entry → Option Request → CheckEnd → Type 0
CheckIs w es (Some r) end = end ≡ StoreFault
CheckIs w es None Clear = Unit {0}
CheckIs w es None (Conflict p) = (before : List Entry) × (e : Entry) × (es ≡ before ++ e ∷ []) × ShownBy w p e
CheckIs w es None _ = ⊥

-- Each check that is over ended so, by the first of its requests that ran out of retries.
abbrev pub ChecksEnd : Type 0
ChecksEnd = (w : Script) (reported : List Who) (es : List Entry) (t : Retried Check) → Checked w reported es t → (end : CheckEnd)
    → t.operation ≡ CheckOver end → (worn : Option Request) × WornFirst w.retries es worn × CheckIs w es worn end
