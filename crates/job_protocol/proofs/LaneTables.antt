-- Each send keeps the table of lanes.
use Rattle.job_model.specs.JobScript.{Script}
use Rattle.job_model.specs.declared.ends.CommitEnd.{CommitEnd}
use Rattle.job_protocol.proofs.Tables.{lt_or_not, table_again, table_answered, table_dealt}
use Rattle.job_protocol.specs.JobCommits.{Commit, CommitOver, Completing, Fetching, Replacing, Reverting, Sets, all_commits, commit_hears}
use Rattle.job_protocol.specs.JobCommits.{commit_misses, commit_start, commit_tells, completing, decided, fetched, fetching, is_no_magic}
use Rattle.job_protocol.specs.JobCommits.{picks_of, replaced, replacing, reverting, set_read, swept, worn_completion}
use Rattle.job_protocol.specs.LaneTable.{Table, Tabled}
use Rattle.job_protocol.specs.Lanes.{Turn, again, dealt, follow, revert}
use Rattle.job_protocol.specs.Outputs.{Picks, first_shared, shared_by, two_where, writes}
use Rattle.list_walk.specs.Walks.{Sweep, sweep_hears}
use Rattle.pending_json.specs.declared.records.PendingSet.{PendingSet}
use Rattle.s3_types.specs.declared.journal.Outcome.{Outcome}
use Rattle.s3_types.specs.declared.reply.Reply.{Reply}
use Rattle.s3_types.specs.declared.request.Request.{Request}
use Rattle.std.proofs.Common.{Bool, List, None, Option, Some, arith, cond, inl, inr, length, subst, sym, ℕ, [], ◌++◌, ◌<◌, ◌∷◌}
use Rattle.job_model.specs.declared.ends.CommitEnd.TheVariants as ends

-- ---- the next state of a commit, by a property of its stages as they begin

-- Holds if the end is SamePath, or if there is none.
abbrev pub IsSharedEnd : Option CommitEnd → Type 0
IsSharedEnd None = Unit {0}
IsSharedEnd (Some (ends.SamePath p t u)) = Unit {0}
IsSharedEnd (Some _) = ⊥

first_end : (w : Script) (picks : Picks) (ps : List (List ℕ)) → IsSharedEnd (first_shared w picks ps)
first_end w picks [] = tt
first_end w picks (p ∷ ps) = elim (two_where (writes w picks p) w.tasks) as (λ o. IsSharedEnd (shared_by p o (first_shared w picks ps)))
    [ Some x ↦ tt | None ↦ first_end w picks ps ]

pub record Begins (w : Script) (P : Commit → Type 0) : Type 0 where
  pub reads : (sets : Sets) → P (Fetching sets 0)
  pub deletes : (sets : Sets) (p : List ℕ) (ps : List (List ℕ)) (s : Sweep) → P (Replacing sets p ps s 0)
  pub completes : (sets : Sets) → P (completing sets (dealt w.lanes (length (all_commits sets))) [])
  pub ends : (p : List ℕ) (t u : ℕ) → P (CommitOver (ends.SamePath p t u))

module _ (w : Script) (P : Commit → Type 0) (h : Begins w P) where
  pub replacing_so : (sets : Sets) (ps : List (List ℕ)) → P (replacing w sets ps)
  replacing_so sets ps = grind arith

  decided_so : (sets : Sets) (o : Option CommitEnd) → IsSharedEnd o → P (decided w sets o)
  decided_so sets None shared = replacing_so sets (replaced w.committer w.mode w (picks_of sets))
  decided_so sets (Some (ends.SamePath p t u)) shared = h.ends p t u
  decided_so sets (Some _) shared = absurd shared

  pub fetching_so : (sets : Sets) → P (fetching w sets)
  fetching_so sets = grind (arith, decided_so, first_end)

  pub fetched_so : (sets : Sets) (o : Option PendingSet) → P (fetched w sets o)
  fetched_so sets (Some s) = fetching_so (sets ++ s ∷ [])
  fetched_so sets None = h.reads sets

  pub swept_so : (sets : Sets) (p : List ℕ) (ps : List (List ℕ)) (o : Option Sweep) → P (swept w sets p ps o)
  swept_so sets p ps o = grind arith

-- The property holds in both cases: the request is sent again, or not.
pub either_so : (P : Commit → Type 0) (b : Bool) (c d : Commit) → P c → P d → P (cond b c d)
either_so P b c d h g = grind arith

-- ---- the table

tabled_completing : (w : Script) (sets : Sets) (xs : List Turn) (done : List ℕ)
    → Table w.lanes w.retries (length (all_commits sets)) xs done → Tabled w (completing sets xs done)
tabled_completing w sets xs done t = grind arith

tabled_reverting : (w : Script) (qs : List Request) → Tabled w (reverting qs)
tabled_reverting w qs = grind arith

begins : (w : Script) → 0 < w.lanes → Begins w (Tabled w)
begins w some = record {
  reads = λ sets. tt;
  deletes = λ sets p ps s. tt;
  completes = λ sets. tabled_completing w sets (dealt w.lanes (length (all_commits sets))) []
      (table_dealt w.lanes w.retries (length (all_commits sets)) some);
  ends = λ p t u. tt;
}

tabled_heard : (w : Script) (c : Commit) (r : Reply) → 0 < w.lanes → Tabled w c → Tabled w (commit_hears w c r)
tabled_heard w (Fetching sets m) r some h = fetched_so w (Tabled w) (begins w some) sets (set_read r)
tabled_heard w (Replacing sets p ps s m) r some h = swept_so w (Tabled w) (begins w some) sets p ps (sweep_hears (is_no_magic w) s r)
tabled_heard w (Completing sets x xs done) r some h = tabled_completing w sets (xs ++ follow w.lanes (length (all_commits sets)) x.number)
    (x.number ∷ done) (table_answered x some h)
tabled_heard w (Reverting q qs m) r some h = tabled_reverting w qs
tabled_heard w _ r some h = tt

tabled_missed : (w : Script) (c : Commit) (lost : Bool) → Tabled w c → Tabled w (commit_misses w c lost)
tabled_missed w (Completing sets x xs done) lost h =
    let P : Bool → Type 0 = λ b. Tabled w (cond b (completing sets (xs ++ again x lost ∷ []) done) (worn_completion sets x xs done)) in
    elim (lt_or_not x.missed w.retries) [
      | inl b ↦ subst P (sym b.0) (tabled_completing w sets (xs ++ again x lost ∷ []) done (table_again x lost b.1 h))
      | inr b ↦ subst P (sym b.0) (tabled_reverting w (revert (all_commits sets) x.number xs done))
    ]
tabled_missed w c lost h = grind arith

pub tabled_tells : (w : Script) (c : Commit) (o : Outcome) → 0 < w.lanes → Tabled w c → Tabled w (commit_tells w c o)
tabled_tells w c o h g = grind (arith, tabled_heard, tabled_missed)

pub tabled_start : (w : Script) (missing : Option ℕ) → 0 < w.lanes → Tabled w (commit_start w missing)
tabled_start w missing h = grind arith
