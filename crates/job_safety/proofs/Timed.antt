-- At the end of an event in which an operation of the driver ended: the run then, the event in which the commit began, and what the journal
-- shows.
use Rattle.job_invariant.specs.Told.{Told, nothing_told}
use Rattle.job_model.specs.JobScript.{Script}
use Rattle.job_model.specs.Legal.{IsLegal}
use Rattle.job_model.specs.declared.ends.OpEnd.{OpEnd}
use Rattle.job_model.specs.declared.events.Event.{Event}
use Rattle.job_model.specs.declared.events.Op.{Op}
use Rattle.job_outcomes.proofs.CommitMoments.{see_parts}
use Rattle.job_outcomes.proofs.EventRows.{event_rows}
use Rattle.job_protocol.proofs.Begun.{commit_of_so}
use Rattle.job_protocol.specs.JobCommits.{Commit}
use Rattle.job_protocol.specs.Operations.{Operation, Setting, TheCommit, commit_of}
use Rattle.job_protocol.specs.Seen.{Seen, Times, is_begun, nothing_seen, see_all}
use Rattle.job_safety.proofs.Early.{driver_past}
use Rattle.job_safety.proofs.Ending.{Ending, ahead_none, journal_until, until_strange}
use Rattle.job_safety.proofs.History.{Began, IsBegin}
use Rattle.job_safety.proofs.Spans.{start}
use Rattle.job_safety.proofs.Strange.{strange_picks}
use Rattle.job_spec.specs.Ends.{has_cleaned}
use Rattle.job_spec.specs.Promise.{seen_until}
use Rattle.job_spec.specs.States.{Doing, driver_may, refusal, reports, times}
use Rattle.job_spec.specs.Turns.{since, until}
use Rattle.script_steps.proofs.Running.{carried, closed_ahead, is_run, not_refused, number, opened_ahead}
use Rattle.script_steps.proofs.RunningNumbers.{begun_at}
use Rattle.script_steps.proofs.RunningStages.{Begins, Begun, IsSettingUp, IsTimed, begins_so, may_commit_job, timed_setting}
use Rattle.script_steps.proofs.Told.{told_all}
use Rattle.script_steps.specs.Running.{Ahead, IsRun, operation_of}
use Rattle.script_steps.specs.Transitions.{Closes, MayOpen, Opens, Play, Reachable, happen, happens, open_running}
use Rattle.protocol_runs.proofs.Entries.{in_commit, sees, tells_so}
use Rattle.protocol_runs.proofs.Learnt.{cleaned_is}
use Rattle.protocol_runs.specs.Runs.{IsOpening, is_just_set}
use Rattle.s3_types.specs.Store.{Content}
use Rattle.s3_types.specs.declared.journal.Entry.{Entry}
use Rattle.s3_types.specs.declared.request.Actor.TheVariants.{Driver}
use Rattle.std.proofs.Common.{List, None, Option, Some, ap, arith, false, inl, inr, length, subst, sym, take, true, ℕ, ◌+◌, ◌∙◌, ◌≡◌}
use Rattle.std.proofs.Math.Seq.{take-append_seam}
use Rattle.job_model.specs.declared.events.Op.TheVariants as ops

-- ---- simple facts

just_setting : (d : Option Operation) → is_just_set d ≡ true → IsSettingUp d
just_setting d h = grind arith

-- If the commit has begun after the next event and not before it, the next event is that of the commit.
commit_number : (k : Option ℕ) (n : ℕ) → is_begun k n ≡ false → is_begun k (n + 1) ≡ true → k ≡ Some (n + 1)
commit_number k n h g = grind arith

-- The driver begins only what it may begin.
pub begins_at : (g : Setting) (y : Play) (ev : Event) (op : Op) → MayOpen g y ev None → IsBegin ev Driver op
    → Begins (y.past.state Driver).stage Driver op (y.past.state Driver).life (y.past.state Driver).stage
begins_at g y ev op may (inl is) = begins_so (y.past.state Driver).stage Driver op (y.past.state Driver).life (y.past.state Driver).stage
    (ap (refusal y.past.state) (sym is) ∙ may.refusal_is)
begins_at g y ev op may (inr is) = begins_so (y.past.state Driver).stage Driver op (y.past.state Driver).life (y.past.state Driver).stage
    (ap (refusal y.past.state) (sym is) ∙ may.refusal_is)

module _ (g : Setting) (opening : Content) (j : IsLegal g.script) (is_opening : IsOpening g opening) (x : Play)
    (run_x : Reachable g opening x) (idle : x.now ≡ None) (i : ℕ) (d : Doing) (end : OpEnd) (es : List Entry)
    (n : Ending g opening x i Driver d end es) where
  abbrev w : Script
  w = g.script

  -- The events of the commit and of the first abort or clean, if there are any.
  abbrev k : Times
  k = times w x.ends

  abbrev z : Play
  z = n.closed.at

  -- The run at the end of the event.
  pub ahead_then : Ahead (happen g z (Closes n.event_end)) x.ends
  ahead_then = n.closed.ahead x.ends (ahead_none x idle)

  pub run_then : IsRun g opening (happen g z (Closes n.event_end)) (times w x.ends)
  run_then = is_run g opening j is_opening (happen g z (Closes n.event_end)) (happens z (Closes n.event_end) n.closed.happened n.closed.may)
      x.ends ahead_then

  -- The run when the operation began.
  pub ahead_end : Ahead z x.ends
  ahead_end = closed_ahead g z n.event_end x.ends (not_refused w z.past.state n.closed.may.event n.event_end _ n.closed.may.turns)
      ahead_then

  abbrev s : Began g opening z Driver d
  s = start g opening x i Driver d end es n

  pub ahead_opened : Ahead (happen g s.at (Opens s.event)) x.ends
  ahead_opened = s.ahead x.ends ahead_end

  pub ahead_start : Ahead s.at x.ends
  ahead_start = opened_ahead g s.at s.event x.ends s.may.idle ahead_opened

  -- ---- a commit that began

  module _ (is : d.op ≡ ops.Commit) where
    timed_before : is_begun k.commit (length s.at.ends) ≡ false
    timed_before =
        let h = (carried g opening j is_opening s.at s.happened x.ends ahead_start).along in
        let b = begins_at g s.at s.event d.op s.may s.begins in
        let op = operation_of (s.at.running Driver) in
        let may : driver_may ops.Commit (s.at.past.state Driver).stage ≡ true = ap (λ v. driver_may v (s.at.past.state Driver).stage)
        (sym is) ∙ b.may_begin in
        let just = may_commit_job (s.at.past.state Driver).stage (s.at.past.state Driver).life op
        (driver_past g opening j is_opening s.at s.happened s.may.idle) may in
        let timed : IsTimed (begun_at (times w x.ends) (length s.at.ends)) op = subst
        (λ v. IsTimed (begun_at (times w x.ends) (number v (length s.at.ends))) op) s.may.idle h.timed in
        (timed_setting (begun_at (times w x.ends) (length s.at.ends)) op timed (just_setting op just)).0

    pub opened_commit : (ev : Event) → IsBegin ev Driver ops.Commit
        → operation_of (open_running g s.at ev Driver) ≡ Some (commit_of g (reports w s.at.past.reported))
    opened_commit ev h = grind arith

    timed_now : is_begun k.commit (length s.at.ends + 1) ≡ true
    timed_now =
        let h = (carried g opening j is_opening (happen g s.at (Opens s.event)) (happens s.at (Opens s.event) s.happened s.may) x.ends
        ahead_opened).along in
        let b : Begun = begun_at (times w x.ends) (length s.at.ends + 1) in
        commit_of_so g (λ op. IsTimed b (Some op) → b.commit ≡ true) (λ missing h. h.0) (λ t h. h.0) (reports w s.at.past.reported)
        (subst (IsTimed b) (opened_commit s.event (subst (λ v. IsBegin s.event Driver v) is s.begins)) h.timed)

    -- The commit's event is the one in which it began.
    pub number_is : k.commit ≡ Some d.since
    number_is = commit_number k.commit (length s.at.ends) timed_before timed_now ∙ ap (λ v. Some v) (sym s.since_is)

  -- While the driver runs its commit, no abort or clean has begun.
  pub unclean_then : (c : Commit) → run_then.stand.driver ≡ Some (TheCommit c) → has_cleaned k.clean z.journal ≡ false
  unclean_then c at =
      let told = tells_so g k opening j is_opening z.journal run_then.stand run_then.runs in
      let uncleaned = (in_commit g k opening j is_opening z.journal run_then.stand run_then.runs c at).2.uncleaned in
      sym (ap (λ (m : Told). m.cleaned) told ∙ cleaned_is w z.journal (nothing_told run_then.stand.told.cleans_at) ∙ ap
      (λ c. has_cleaned c z.journal) run_then.cleans) ∙ uncleaned

  -- ---- what the journal shows then

  -- Up to the end of the event, strangers may have sent after the operation.
  abbrev strays : List Entry
  strays = until (i + 1) n.closed.entries

  pub taken_then : take (length (until (i + 1) x.journal)) x.journal ≡ until (i + 1) x.journal
  taken_then =
      let parts = event_rows.front (i + 1) x.journal (told_all g opening x run_x).rising in
      ap (take (length (until (i + 1) x.journal))) (sym parts) ∙ take-append_seam (until (i + 1) x.journal) (since (i + 1 + 1) x.journal)

  pub picks_then : run_then.stand.seen.picks ≡ (seen_until w opening x.journal x.ends (i + 1)).picks
  picks_then =
      ap (λ (v : Seen). v.picks) (sees g k opening j is_opening z.journal run_then.stand run_then.runs)
      ∙ sym (strange_picks w k (see_all w k (nothing_seen opening) z.journal) strays
      (until_strange g opening x run_x idle i n.event_end n.closed))
      ∙ ap (λ (v : Seen). v.picks) (sym (see_parts w k (nothing_seen opening) z.journal strays))
      ∙ ap (λ l. (see_all w k (nothing_seen opening) l).picks) (sym
      (taken_then ∙ journal_until g opening x run_x idle i n.event_end n.closed))
