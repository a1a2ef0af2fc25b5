-- Where one send of a commit leads: what each stage may become. So a fact of the stages is kept if each of these keeps it.
use Rattle.job_model.specs.JobScript.{Script}
use Rattle.job_model.specs.declared.ends.CommitEnd.{CommitEnd}
use Rattle.job_protocol.proofs.LaneTables.{either_so}
use Rattle.job_protocol.proofs.Shared.{shared_found}
use Rattle.job_protocol.specs.JobCommits.{Commit, CommitOver, Completing, Fetching, Marking, Replacing, Reverting, Sets, all_commits}
use Rattle.job_protocol.specs.JobCommits.{commit_misses, commit_tells, completing, decided, fetched, fetching, is_no_magic, picks_of}
use Rattle.job_protocol.specs.JobCommits.{replaced, replacing, reverting, set_read, swept}
use Rattle.job_protocol.specs.Lanes.{Turn, again, dealt, follow, revert}
use Rattle.job_protocol.specs.Outputs.{same_path}
use Rattle.job_spec.specs.OperationEnds.{is_lost}
use Rattle.list_walk.specs.Walks.{Sweep, sweep_hears, sweep_start}
use Rattle.pending_json.specs.declared.records.PendingSet.{PendingSet}
use Rattle.s3_types.specs.declared.journal.Outcome.{Outcome}
use Rattle.s3_types.specs.declared.journal.Outcome.TheVariants.{Answered, ReplyLost, RequestLost, Slow}
use Rattle.s3_types.specs.declared.reply.Reply.{Reply}
use Rattle.s3_types.specs.declared.request.Request.{Request}
use Rattle.std.proofs.Common.{Bool, List, None, Option, Some, ap, arith, cond, false, length, nat_lt, refl, subst, sym, true, ℕ, [], ◌++◌}
use Rattle.std.proofs.Common.{◌+◌, ◌∙◌, ◌∷◌, ◌≡◌}
use Rattle.job_model.specs.declared.ends.CommitEnd.TheVariants as commits
use Rattle.job_model.specs.declared.ends.FaultStage.TheVariants as stages

-- The stages that the commit may enter with these sets.
pub data Enters (w : Script) (sets : Sets) : Commit → Type 0 where
  reads_next : Enters w sets (Fetching sets 0)
  is_shared : (p : List ℕ) (t u : ℕ) → same_path w (picks_of sets) ≡ Some (commits.SamePath p t u)
      → Enters w sets (CommitOver (commits.SamePath p t u))
  empties : {p : List ℕ} {ps : List (List ℕ)} → p ∷ ps ≡ replaced w.committer w.mode w (picks_of sets)
      → Enters w sets (Replacing sets p ps sweep_start 0)
  deals : {x : Turn} {xs : List Turn} → [] ≡ replaced w.committer w.mode w (picks_of sets)
      → x ∷ xs ≡ dealt w.lanes (length (all_commits sets))
      → Enters w sets (Completing sets x xs [])
  deals_none : [] ≡ replaced w.committer w.mode w (picks_of sets) → Enters w sets (Marking sets 0)

-- The stages to which this outcome may lead.
pub data Leads (w : Script) : Commit → Outcome → Commit → Type 0 where
  -- The send was answered.
  fetches : {sets : Sets} {n : ℕ} {x : Reply} {d : Commit} (y : PendingSet) → set_read x ≡ Some y → Enters w (sets ++ y ∷ []) d
      → Leads w (Fetching sets n) (Answered x) d
  reads_none : {sets : Sets} {n : ℕ} {x : Reply} → set_read x ≡ None → Leads w (Fetching sets n) (Answered x) (Fetching sets 0)
  sweeps_on : {sets : Sets} {p : List ℕ} {ps : List (List ℕ)} {s t : Sweep} {n : ℕ} {x : Reply} → sweep_hears (is_no_magic w) s x ≡ Some t
      → Leads w (Replacing sets p ps s n) (Answered x) (Replacing sets p ps t 0)
  empties_next : {sets : Sets} {p q : List ℕ} {ps : List (List ℕ)} {s : Sweep} {n : ℕ} {x : Reply} → sweep_hears (is_no_magic w) s x ≡ None
      → Leads w (Replacing sets p (q ∷ ps) s n) (Answered x) (Replacing sets q ps sweep_start 0)
  deals_then : {sets : Sets} {p : List ℕ} {s : Sweep} {n : ℕ} {x : Reply} {y : Turn} {ys : List Turn}
      → sweep_hears (is_no_magic w) s x ≡ None
      → y ∷ ys ≡ dealt w.lanes (length (all_commits sets)) → Leads w (Replacing sets p [] s n) (Answered x) (Completing sets y ys [])
  marks_then : {sets : Sets} {p : List ℕ} {s : Sweep} {n : ℕ} {x : Reply} → sweep_hears (is_no_magic w) s x ≡ None
      → Leads w (Replacing sets p [] s n) (Answered x) (Marking sets 0)
  completes : {sets : Sets} {x y : Turn} {xs ys : List Turn} {done : List ℕ} {r : Reply}
      → y ∷ ys ≡ xs ++ follow w.lanes (length (all_commits sets)) x.number
      → Leads w (Completing sets x xs done) (Answered r) (Completing sets y ys (x.number ∷ done))
  is_marked : {sets : Sets} {n : ℕ} {x : Reply} → Leads w (Marking sets n) (Answered x) (CommitOver commits.Committed)
  -- The last completion, and the requests of the revert, answered or not.
  all_complete : {sets : Sets} {x : Turn} {xs : List Turn} {done : List ℕ} {o : Outcome}
      → Leads w (Completing sets x xs done) o (Marking sets 0)
  reverts_next : {q r : Request} {rs : List Request} {n : ℕ} {o : Outcome} → Leads w (Reverting q (r ∷ rs) n) o (Reverting r rs 0)
  is_reverted : {q : Request} {n : ℕ} {o : Outcome} → Leads w (Reverting q [] n) o (CommitOver (commits.StoreFault stages.Complete))
  stays_over : {end : CommitEnd} {o : Outcome} → Leads w (CommitOver end) o (CommitOver end)
  -- A send without an answer is made again,
  reads_again : {sets : Sets} {n : ℕ} {o : Outcome} → Leads w (Fetching sets n) o (Fetching sets (n + 1))
  sweeps_again : {sets : Sets} {p : List ℕ} {ps : List (List ℕ)} {s : Sweep} {n : ℕ} {o : Outcome}
      → Leads w (Replacing sets p ps s n) o (Replacing sets p ps s (n + 1))
  completes_again : {sets : Sets} {x y : Turn} {xs ys : List Turn} {done : List ℕ} {o : Outcome} → y ∷ ys ≡ xs ++ again x (is_lost o) ∷ []
      → Leads w (Completing sets x xs done) o (Completing sets y ys done)
  marks_again : {sets : Sets} {n : ℕ} {o : Outcome} → Leads w (Marking sets n) o (Marking sets (n + 1))
  reverts_again : {q : Request} {qs : List Request} {n : ℕ} {o : Outcome} → Leads w (Reverting q qs n) o (Reverting q qs (n + 1))
  -- or the request runs out of retries.
  read_worn : {sets : Sets} {n : ℕ} {o : Outcome} → Leads w (Fetching sets n) o (CommitOver (commits.StoreFault stages.Read))
  sweep_worn : {sets : Sets} {p : List ℕ} {ps : List (List ℕ)} {s : Sweep} {n : ℕ} {o : Outcome}
      → Leads w (Replacing sets p ps s n) o (CommitOver (commits.StoreFault stages.Delete))
  mark_worn : {sets : Sets} {n : ℕ} {o : Outcome} → Leads w (Marking sets n) o (CommitOver (commits.StoreFault stages.Success))
  reverts : {sets : Sets} {x : Turn} {xs : List Turn} {done : List ℕ} {o : Outcome} {q : Request} {qs : List Request}
      → Leads w (Completing sets x xs done) o (Reverting q qs 0)
  none_reverts : {sets : Sets} {x : Turn} {xs : List Turn} {done : List ℕ} {o : Outcome}
      → Leads w (Completing sets x xs done) o (CommitOver (commits.StoreFault stages.Complete))

-- ---- each outcome leads to one of these

turns_so : (P : Commit → Type 0) (sets : Sets) (xs : List Turn) (done : List ℕ) → P (Marking sets 0)
    → ((y : Turn) (ys : List Turn) → y ∷ ys ≡ xs → P (Completing sets y ys done)) → P (completing sets xs done)
turns_so P sets xs done h g = grind arith

reverting_so : (P : Commit → Type 0) (qs : List Request) → P (CommitOver (commits.StoreFault stages.Complete))
    → ((q : Request) (rs : List Request) → P (Reverting q rs 0))
    → P (reverting qs)
reverting_so P qs h g = grind arith

module _ (w : Script) where
  pub enters : (sets : Sets) → Enters w sets (fetching w sets)
  enters sets = by (nat_lt (length sets) w.tasks) (same_path w (picks_of sets)) refl
    where
      prefixes : (ps : List (List ℕ)) → ps ≡ replaced w.committer w.mode w (picks_of sets) → Enters w sets (replacing w sets ps)
      prefixes [] e = turns_so (Enters w sets) sets (dealt w.lanes (length (all_commits sets))) [] (deals_none e) (λ y ys q. deals e q)
      prefixes (p ∷ ps) e = empties e

      by : (b : Bool) (o : Option CommitEnd) → same_path w (picks_of sets) ≡ o → Enters w sets (cond b (Fetching sets 0) (decided w sets o))
      by true o e = reads_next
      by false None e = prefixes (replaced w.committer w.mode w (picks_of sets)) refl
      by false (Some end) e = let x = shared_found w (picks_of sets) end e in subst (λ v. Enters w sets (CommitOver v)) (sym x.3)
          (is_shared x.0 x.1 x.2 (e ∙ ap Some x.3))

  missed : (c : Commit) (o : Outcome) → Leads w c o (commit_misses w c (is_lost o))
  missed (Fetching sets n) o = either_so (Leads w (Fetching sets n) o) (nat_lt n w.retries) _ _ reads_again read_worn
  missed (Replacing sets p ps s n) o = either_so (Leads w (Replacing sets p ps s n) o) (nat_lt n w.retries) _ _ sweeps_again sweep_worn
  missed (Completing sets x xs done) o =
      let P : Commit → Type 0 = Leads w (Completing sets x xs done) o in
      either_so P (nat_lt x.missed w.retries) _ _
      (turns_so P sets (xs ++ again x (is_lost o) ∷ []) done all_complete (λ y ys e. completes_again e))
      (reverting_so P (revert (all_commits sets) x.number xs done) none_reverts (λ q qs. reverts))
  missed (Marking sets n) o = either_so (Leads w (Marking sets n) o) (nat_lt n w.retries) _ _ marks_again mark_worn
  missed (Reverting q [] n) o = either_so (Leads w (Reverting q [] n) o) (nat_lt n w.retries) _ _ reverts_again is_reverted
  missed (Reverting q (r ∷ rs) n) o = either_so (Leads w (Reverting q (r ∷ rs) n) o) (nat_lt n w.retries) _ _ reverts_again reverts_next
  missed (CommitOver end) o = stays_over

  read : (sets : Sets) (n : ℕ) (x : Reply) (o : Option PendingSet) → set_read x ≡ o
      → Leads w (Fetching sets n) (Answered x) (fetched w sets o)
  read sets n x (Some y) e = fetches y e (enters (sets ++ y ∷ []))
  read sets n x None e = reads_none e

  emptied : (sets : Sets) (p : List ℕ) (ps : List (List ℕ)) (s : Sweep) (n : ℕ) (x : Reply) (o : Option Sweep)
      → sweep_hears (is_no_magic w) s x ≡ o
      → Leads w (Replacing sets p ps s n) (Answered x) (swept w sets p ps o)
  emptied sets p ps s n x (Some t) e = sweeps_on e
  emptied sets p [] s n x None e =
      turns_so (Leads w (Replacing sets p [] s n) (Answered x)) sets (dealt w.lanes (length (all_commits sets))) [] (marks_then e)
      (λ y ys q. deals_then e q)
  emptied sets p (q ∷ ps) s n x None e = empties_next e

  pub leads : (c : Commit) (o : Outcome) → Leads w c o (commit_tells w c o)
  leads (Fetching sets n) (Answered x) = read sets n x (set_read x) refl
  leads (Replacing sets p ps s n) (Answered x) = emptied sets p ps s n x (sweep_hears (is_no_magic w) s x) refl
  leads (Completing sets x xs done) (Answered r) =
      turns_so (Leads w (Completing sets x xs done) (Answered r)) sets (xs ++ follow w.lanes (length (all_commits sets)) x.number)
      (x.number ∷ done) all_complete
      (λ y ys e. completes e)
  leads (Marking sets n) (Answered x) = is_marked
  leads (Reverting q [] n) (Answered x) = is_reverted
  leads (Reverting q (r ∷ rs) n) (Answered x) = reverts_next
  leads (CommitOver end) (Answered x) = stays_over
  leads c Slow = missed c Slow
  leads c RequestLost = missed c RequestLost
  leads c ReplyLost = missed c ReplyLost
