-- The attempts that a job's operations have chosen, and those that `see` derives from the entries.
use Rattle.job_operations.proofs.WorksGo.{asked_of, behind}
use Rattle.job_operations.specs.Acts.{tells_of}
use Rattle.job_operations.specs.Plans.{IsAttempt, IsOf, picks_of, running_of}
use Rattle.job_operations.specs.declared.act.Act.{Act}
use Rattle.job_operations.specs.declared.act.Act.TheVariants.{Checked, Commit, Setup, Sparing}
use Rattle.conflict.specs.Rechecks.{PlannedCheck}
use Rattle.job_actor.proofs.Keeping.{picks_go_on, picks_then, with_read}
use Rattle.job_actor.proofs.Staying.{picks_stay, same_picks}
use Rattle.job_actor.proofs.Unread.{attempt_picks, left}
use Rattle.job_actor.specs.Picks.{ArePicksOf, HasPicked, LeavesPicks, is_job_commit}
use Rattle.job_actor.specs.Works.{IsAt}
use Rattle.job_commit.specs.Holds.{picks_from}
use Rattle.job_model.specs.JobScript.{Script}
use Rattle.job_model.specs.Known.{Known}
use Rattle.job_model.specs.declared.ends.Pick.{Pick}
use Rattle.job_protocol.specs.AtWork.{Committing, Driving, job_script, picked_after, with_pick}
use Rattle.job_protocol.specs.Cleanups.{clean_asks}
use Rattle.job_protocol.specs.JobCommits.{Commit as JobCommit}
use Rattle.job_protocol.specs.Operations.{Setting}
use Rattle.job_protocol.specs.Seen.{Seen, Times, is_begun, is_picking, is_reading, see}
use Rattle.job_protocol.specs.Setup.{setup_asks}
use Rattle.job_spec.specs.States.{times}
use Rattle.script_steps.proofs.Running.{carried, number}
use Rattle.script_steps.proofs.RunningNumbers.{begun_at}
use Rattle.script_steps.proofs.RunningStages.{IsTimed}
use Rattle.script_steps.specs.Running.{operation_of}
use Rattle.script_steps.specs.Transitions.{MaySend, Play, Sends, happen}
use Rattle.machine.specs.declared.retrying.Retrying.{Retrying}
use Rattle.pending_json.specs.declared.records.PendingSet.{PendingSet}
use Rattle.s3_types.specs.Store.{Content}
use Rattle.s3_types.specs.declared.journal.Entry.{Entry}
use Rattle.s3_types.specs.declared.journal.Outcome.{Outcome}
use Rattle.s3_types.specs.declared.journal.Outcome.TheVariants.{Answered}
use Rattle.s3_types.specs.declared.request.Actor.{Actor}
use Rattle.s3_types.specs.declared.request.Actor.TheVariants.{Driver}
use Rattle.s3_types.specs.declared.request.Request.{Request}
use Rattle.std.proofs.Common.{List, None, Option, Some, ap, arith, cond, false, length, refl, subst, suc, sym, true, ℕ, [], ◌&&◌, ◌++◌, ◌+◌}
use Rattle.std.proofs.Common.{◌∙◌, ◌∷◌, ◌≡◌}
use Rattle.std.specs.Option.{is_some}
use Rattle.job_protocol.specs.Setup as setups
use Rattle.job_protocol.specs.Cleanups as cleans
use Rattle.job_protocol.specs.Rechecks as checks
use Rattle.job_protocol.specs.Sparing as sparings

-- ---- the chosen attempts of the job's commit

pub act_has_picks : (k : Known) (work : Act) → is_some (picks_of work) ≡ is_job_commit (running_of k work).operation
act_has_picks k work = grind arith

-- ---- they are those that `see` derives

from_more : (t : ℕ) (picked : List ℕ) (a : ℕ) → picks_from t (picked ++ a ∷ []) ≡ picks_from t picked ++ record
    { task = t + length picked; attempt = a } ∷ []
from_more t [] a = let e : t ≡ t + length {A = ℕ} [] = omega arith in ap (λ (i : ℕ). record { task = i; attempt = a } ∷ []) e
from_more t (b ∷ picked) a =
    let e : (t + 1) + length picked ≡ t + length (b ∷ picked) = omega arith in
    ap (λ (v : List Pick). record { task = t; attempt = b } ∷ v) (from_more (t + 1) picked a ∙ ap
    (λ (i : ℕ). picks_from (t + 1) picked ++ record { task = i; attempt = a } ∷ []) e)

from_length : (t : ℕ) (picked : List ℕ) → length (picks_from t picked) ≡ length picked
from_length t [] = refl
from_length t (b ∷ picked) = ap suc (from_length (t + 1) picked)

read_kept : (picked : List ℕ) (o : Option PendingSet) → with_read (picks_from 0 picked) o ≡ picks_from 0 (with_pick picked o)
read_kept picked o = grind (arith, from_length, from_more)

kept : (picked : List ℕ) (c : JobCommit) (o : Outcome) → picks_then (picks_from 0 picked) c o ≡ picks_from 0 (picked_after picked c o)
kept picked c o = grind (arith, read_kept)

-- ---- any other operation does not change them

setup_reads : (w v : Script) (op : setups.Setup) (r : Request) → setup_asks v op ≡ Some r → (t : ℕ) → is_reading w t r ≡ false
setup_reads w v op r e t = grind arith

clean_reads : (w v : Script) (op : cleans.Clean) (r : Request) → clean_asks v op ≡ Some r → (t : ℕ) → is_reading w t r ≡ false
clean_reads w v op r e t = grind arith

-- a check reads no set
check_reads : (w v : Script) (op : checks.Check) (r : Request) → checks.check_asks v op ≡ Some r → (t : ℕ) → is_reading w t r ≡ false
check_reads w v op r e t = grind arith

module _ (w : Script) (k : Times) (s : Seen) (n : ℕ) (r : Request) where
  -- The chosen attempts that `see` derives are the same after the request.
  abbrev Leaves : Actor → Outcome → Type 0
  Leaves a o = (see w k s (record { event = n; actor = a; request = r; outcome = o })).picks ≡ s.picks

  driver_leaves : (a : Actor) → a ≡ Driver → ((t : ℕ) → is_reading w t r ≡ false) → (o : Outcome) → Leaves a o
  driver_leaves a is none o = subst (λ b. Leaves b o) (sym is) (elim o as (λ p. Leaves Driver p) [
    | Answered x ↦ λ i t. left (is_picking k s.begun n) (is_reading w t r) (s.last t) (s.picks t) (none t) i
    | _ ↦ refl
  ])

  -- After an abort or clean has begun, no attempt is chosen.
  closed_leaves : (a : Actor) → a ≡ Driver → is_begun k.clean n ≡ true → (o : Outcome) → Leaves a o
  closed_leaves a is begun o =
      let off : is_picking k s.begun n ≡ false = grind arith in
      subst (λ b. Leaves b o) (sym is) (elim o as (λ p. Leaves Driver p) [
        | Answered x ↦ λ i t. ap
            (λ b. cond (b && is_reading w t r) (s.last t) (s.picks t)) off i
        | _ ↦ refl
      ])

  attempt_leaves : (a : Actor) → IsAttempt a → (o : Outcome) → Leaves a o
  attempt_leaves a is o = subst (λ b. Leaves b o) (sym is.2) (attempt_picks w k s (record { task = is.0; attempt = is.1 }) n r o)

module _ (g : Setting) (opening : Content) (x : Play) (a : Actor) where
  abbrev w : Script
  w = g.script

  -- A request of the driver that reads no set.
  reads_none : (e : Entry) → e.actor ≡ a → a ≡ Driver → ((t : ℕ) → is_reading g.script t e.request ≡ false) → LeavesPicks g opening x e
  reads_none e is driver none = λ xs ahead. picks_stay w opening x.journal e xs
      (λ s. driver_leaves w (times w xs) s e.event e.request e.actor (is ∙ driver) none e.outcome)

  by_attempt : (e : Entry) → e.actor ≡ a → IsAttempt a → LeavesPicks g opening x e
  by_attempt e is attempt = λ xs ahead. picks_stay w opening x.journal e xs (λ s. attempt_leaves w (times w xs) s e.event e.request e.actor
      (subst IsAttempt (sym is) attempt) e.outcome)

  -- A sparing abort or clean may read sets, but chooses no attempts.
  spares : (t : Retrying (Driving sparings.Sparing)) → IsAt IsOf running_of g opening x a (Sparing t) → (e : Entry) → e.actor ≡ a
      → MaySend g opening x e → LeavesPicks g opening x e
  spares t at e is may = λ xs ahead.
      let h = (carried g opening at.legal at.opens x at.happened xs ahead).along in
      let driver = at.goes_by.actor in
      let timed = subst (IsTimed (begun_at (times w xs) (number x.now (length x.ends))))
      (ap operation_of (ap x.running (sym driver) ∙ at.at)) h.timed in
      let here : e.event ≡ number x.now (length x.ends) = may.number ∙ sym (ap (λ o. number o (length x.ends)) may.during) in
      let k = times w xs in
      let begun : is_begun k.clean e.event ≡ true = ap (is_begun k.clean) here ∙ timed in
      picks_stay w opening x.journal e xs (λ s. closed_leaves w k s e.event e.request e.actor (is ∙ driver) begun e.outcome)

pub act_leaves : (g : Setting) (opening : Content) (x : Play) (a : Actor) (work : Act) → IsAt IsOf running_of g opening x a work
    → picks_of work ≡ None → (e : Entry) → e.actor ≡ a → MaySend g opening x e → LeavesPicks g opening x e
act_leaves g opening x a work h f e p q = grind (arith, reads_none, setup_reads, asked_of, clean_reads, spares, by_attempt)

-- ---- after a send

module _ (g : Setting) (opening : Content) (x : Play) (a : Actor) where
  commit_picks : (c : Committing) → IsAt IsOf running_of g opening x a (Commit c) → ArePicksOf g opening x (picks_from 0 c.picked)
      → (e : Entry) → e.actor ≡ a → MaySend g opening x e
      → ArePicksOf g opening (happen g x (Sends e)) (picks_from 0 (picked_after c.picked c.operation e.outcome))
  commit_picks c at has e is may =
      let driver : a ≡ Driver = at.goes_by.0 in
      let go_on = picks_go_on g opening at.legal at.opens x at.happened c.operation _ (ap x.running (sym driver) ∙ at.at)
      (picks_from 0 c.picked) has e (is ∙ driver) may in
      subst (ArePicksOf g opening (happen g x (Sends e))) (kept c.picked c.operation e.outcome) go_on

  -- Its check does not change them.
  checked_picks : (o : Option (Retrying PlannedCheck)) (c : Committing)
      → IsAt IsOf running_of g opening x a (Checked (record { check = o; commit = c })) → ArePicksOf g opening x (picks_from 0 c.picked)
      → (e : Entry) → e.actor ≡ a → MaySend g opening x e
      → HasPicked g opening (happen g x (Sends e)) (picks_of (tells_of (Checked (record { check = o; commit = c })) e.outcome))
  checked_picks (Some t) c at has e is may =
      let asked = asked_of g opening x a (Checked (record { check = Some t; commit = c })) at e is may in
      same_picks g opening x e (reads_none g opening x a e is at.goes_by.actor
      (check_reads g.script (job_script t.machine.plan.job) t.machine.operation e.request asked)) (picks_from 0 c.picked) has
  checked_picks None c at has e is may = commit_picks c (behind g opening x a c at) has e is may

pub act_picks : (g : Setting) (opening : Content) (x : Play) (a : Actor) (work : Act) → IsAt IsOf running_of g opening x a work
    → HasPicked g opening x (picks_of work)
    → (e : Entry) → e.actor ≡ a → MaySend g opening x e → HasPicked g opening (happen g x (Sends e)) (picks_of (tells_of work e.outcome))
act_picks g opening x a (Setup t) at has e is may = tt
act_picks g opening x a (Commit c) at has e is may = commit_picks g opening x a c at has e is may
act_picks g opening x a (Checked y) at has e is may = checked_picks g opening x a y.check y.commit at has e is may
act_picks g opening x a _ at has e is may = tt
