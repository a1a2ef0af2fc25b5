-- The driver runs the job's commit exactly if it began that last, and nothing is picked before it.
use Rattle.text_and_lists.proofs.Members.{none_some}
use Rattle.job_actor.specs.Picks.{ArePicksOf, PicksGo, is_committing, is_job_commit}
use Rattle.job_invariant.specs.Told.{Told}
use Rattle.job_model.specs.Known.{Known}
use Rattle.job_model.specs.Legal.{IsLegal}
use Rattle.job_model.specs.declared.events.Event.{Event}
use Rattle.job_model.specs.declared.events.Event.TheVariants.{Do, Start}
use Rattle.job_model.specs.declared.events.Op.{Op}
use Rattle.job_model.specs.declared.events.Op.TheVariants.{Abort, Clean, Commit}
use Rattle.job_model.specs.declared.states.ActorState.{ActorState}
use Rattle.job_protocol.proofs.Begun.{after_check_so, clean_of_so, commit_of_so}
use Rattle.job_protocol.specs.Operations.{Operation, Reports, Running, Setting, TheCheck, TheSetup, start_of, tells, who}
use Rattle.job_protocol.specs.Outputs.{Picks}
use Rattle.job_protocol.specs.Rechecks.{check_after}
use Rattle.job_protocol.specs.Seen.{Seen, nothing_seen, see_all}
use Rattle.job_spec.specs.Promise.{picked, picks_below}
use Rattle.job_spec.specs.States.{begins_commit, driver_may, is_commit, open_event, put, refusal, reports, times}
use Rattle.script_steps.proofs.Running.{carried}
use Rattle.script_steps.proofs.RunningStages.{DriverAt, begins_so, may_commit_job}
use Rattle.script_steps.specs.Running.{operation_of}
use Rattle.script_steps.specs.Transitions.{Closes, Finishes, MayOpen, Opens, Play, Reachable, Refuses, Sends, Strays, begun, happens, hear}
use Rattle.script_steps.specs.Transitions.{knows_now, nothing_happened, open_running}
use Rattle.protocol_runs.proofs.Entries.{late_now, sees, take_all}
use Rattle.protocol_runs.proofs.EveryRun.{just_set}
use Rattle.protocol_runs.proofs.Running.{At}
use Rattle.protocol_runs.specs.Runs.{IsOpening, is_just_set}
use Rattle.retries.specs.Retries.{step}
use Rattle.s3_types.specs.Store.{Content}
use Rattle.s3_types.specs.declared.journal.Entry.{Entry}
use Rattle.s3_types.specs.declared.journal.Outcome.{Outcome}
use Rattle.s3_types.specs.declared.request.Actor.{Actor}
use Rattle.s3_types.specs.declared.request.Actor.TheVariants.{Driver}
use Rattle.std.proofs.Common.{None, Option, Some, ap, arith, false, length, refl, subst, suc, sym, true, zero, ℕ, [], ◌++◌, ◌+◌, ◌∙◌, ◌≡◌}
use Rattle.std.proofs.lemmas.Bool.{false≢true}

-- ---- what the driver began last

-- The driver is in the job's commit exactly if it began that last, and between two events no operation is in progress.
record Doing (x : Play) : Type 0 where
  same : is_committing (x.running Driver) ≡ is_commit (x.live.doing Driver)
  rest : x.now ≡ None → x.live.doing ≡ x.past.doing

module _ (g : Setting) where
  began : (op : Op) (k : Known) (since : ℕ) (r : Reports)
      → is_committing (begun (start_of g Driver op r k) k) ≡ is_commit (Some (record { op = op; since = since; reports = r }))
  began Commit k since r = commit_of_so g (λ op. is_job_commit op ≡ true) (λ m. refl) (λ t. refl) r
  began Abort k since r = clean_of_so g (λ op. is_job_commit op ≡ false) refl refl
  began Clean k since r = clean_of_so g (λ op. is_job_commit op ≡ false) refl refl
  began _ k since r = refl

  opened : (x : Play) (ev : Event) → is_committing (x.running Driver) ≡ is_commit (x.past.doing Driver)
      → is_committing (open_running g x ev Driver) ≡ is_commit ((open_event g.script x.past ev).doing Driver)
  opened x (Do Driver op) h = began op (knows_now g x Driver) (x.past.events + 1) (reports g.script x.past.reported)
  opened x (Start Driver op) h = began op (knows_now g x Driver) (x.past.events + 1) (reports g.script x.past.reported)
  opened x _ h = h

  -- After an outcome, an operation is of the same kind.
  told_commit : (op : Operation) (o : Outcome) → is_job_commit (tells g (who Driver) op o) ≡ is_job_commit op
  told_commit (TheCheck t) o = after_check_so g (λ op. is_job_commit op ≡ true) refl (λ u. refl)
      (step g.script.retries (check_after g.script) t o)
  told_commit (TheSetup t) o = refl
  told_commit _ o = refl

  heard : (m : Option Running) (e : Entry) → is_committing (hear g Driver m e) ≡ is_committing m
  heard None e = refl
  heard (Some m) e = told_commit m.operation e.outcome

  sent : (a : Actor) (r : Actor → Option Running) (e : Entry) → is_committing (put r a (hear g a (r a) e) Driver) ≡ is_committing (r Driver)
  sent Driver r e = heard (r Driver) e
  sent _ r e = refl

module _ (g : Setting) (opening : Content) where
  doing_so : (x : Play) → Reachable g opening x → Doing x
  doing_so x (nothing_happened) = record { same = refl; rest = λ e. refl }
  doing_so x (happens y (Refuses f) past may) = let h = doing_so y past in record
      { same = h.same ∙ ap (λ d. is_commit (d Driver)) (h.rest may.1.idle); rest = λ e. refl }
  doing_so x (happens y (Opens ev) past may) =
      let h = doing_so y past in
      record { same = opened g y ev (h.same ∙ ap (λ d. is_commit (d Driver)) (h.rest may.idle)); rest = λ e. absurd (none_some e refl) }
  doing_so x (happens y (Sends e) past may) = let h = doing_so y past in record
      { same = sent g e.actor y.running e ∙ h.same; rest = h.rest }
  doing_so x (happens y (Finishes z) past may) = let h = doing_so y past in record
      { same = h.same; rest = λ e. absurd (none_some e may.during) }
  doing_so x (happens y (Closes end) past may) = let h = doing_so y past in record { same = h.same; rest = λ e. refl }
  doing_so x (happens y (Strays r o) past may) = let h = doing_so y past in record { same = h.same; rest = h.rest }

-- ---- before the commit

-- If the event that begins the commit is not refused, the driver is in a stage in which it may begin it.
may_commit : (st : Actor → ActorState) (ev : Event) → begins_commit ev ≡ true → refusal st ev ≡ None
    → driver_may Commit (st Driver).stage ≡ true
may_commit st (Do Driver Commit) b r = (begins_so (st Driver).stage Driver Commit (st Driver).life (st Driver).stage r).may_begin
may_commit st (Start Driver Commit) b r = (begins_so (st Driver).stage Driver Commit (st Driver).life (st Driver).stage r).may_begin
may_commit st _ b r = absurd (false≢true b)

pub none_below : (p : Picks) → ((t : ℕ) → p t ≡ None) → (n : ℕ) → picks_below p n ≡ []
none_below p h zero = refl
none_below p h (suc n) = ap (λ l. l ++ picked n (p n)) (none_below p h n) ∙ ap (picked n) (h n)

module _ (g : Setting) (opening : Content) (j : IsLegal g.script) (is_opening : IsOpening g opening) where
  -- Right after the set-up nothing is picked.
  pub unpicked : (d : Option Operation) (s : Seen) (m : Told) → is_just_set d ≡ true → At g opening d s m → (t : ℕ) → s.picks t ≡ None
  unpicked (Some (TheSetup v)) s m e h t = h.1.unpicked t
  unpicked _ s m e h t = absurd (false≢true e)

  none_picked : (x : Play) → Reachable g opening x → (ev : Event) → begins_commit ev ≡ true → MayOpen g x ev None
      → ArePicksOf g opening x []
  none_picked x past ev begins may xs ahead =
      let k = times g.script xs in
      let c = carried g opening j is_opening x past xs ahead in
      let h = c.along in
      let at : DriverAt (x.past.state Driver).stage (x.past.state Driver).life (operation_of (x.running Driver)) = subst
      (λ s. DriverAt (s Driver).stage (s Driver).life (operation_of (x.running Driver))) (c.rest may.idle) h.driver_at in
      let set = may_commit_job (x.past.state Driver).stage (x.past.state Driver).life (operation_of (x.running Driver)) at
      (may_commit x.past.state ev begins may.refusal_is) in
      let just : is_just_set h.stand.driver ≡ true = ap is_just_set h.driver ∙ set in
      let l = late_now g k opening j is_opening x.journal h.stand h.runs (just_set h.stand.driver just) in
      let none : picks_below h.stand.seen.picks g.script.tasks ≡ [] = none_below h.stand.seen.picks
      (unpicked h.stand.driver h.stand.seen h.stand.told just l.driver) g.script.tasks in
      let seen_is = sees g k opening j is_opening x.journal h.stand h.runs in
      let all = take_all x.journal (length x.journal) (omega arith) in
      sym none ∙ ap (λ (s : Seen). picks_below s.picks g.script.tasks) (seen_is ∙ ap (see_all g.script k (nothing_seen opening)) (sym all))

pub picks_go : PicksGo
picks_go = record {
  doing = λ g opening x j past. (doing_so g opening x past).same;
  none_before = λ g opening x j is_opening past ev begins may. none_picked g opening j is_opening x past ev begins may;
}
