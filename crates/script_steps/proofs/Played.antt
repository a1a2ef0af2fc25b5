-- At each point between two events a run has done what its events say.
use Rattle.job_model.specs.Legal.{IsLegal}
use Rattle.job_model.specs.declared.events.Event.{Event}
use Rattle.job_protocol.specs.Operations.{Setting}
use Rattle.job_spec.specs.Follows.{IsUnended, OpFollows}
use Rattle.job_spec.specs.States.{Doing, Past, open_event, past}
use Rattle.job_spec.specs.Turns.{AllUpTo, OpenTurns, by_actor, of_event}
use Rattle.script_steps.proofs.Parts.{event_none}
use Rattle.script_steps.proofs.PastMore.{event_at, legal_begins, turns_open}
use Rattle.script_steps.proofs.Told.{AllRun, Told, opened_run, runs_follow, told_all}
use Rattle.script_steps.specs.StepsPlay.{IsPlayed}
use Rattle.script_steps.specs.Transitions.{Play, Reachable, open_running}
use Rattle.s3_types.specs.Store.{Content}
use Rattle.s3_types.specs.declared.request.Actor.{Actor}
use Rattle.std.proofs.Common.{None, Some, ap, length, slice_get, subst, sym, [], ◌+◌, ◌∙◌, ◌≡◌}

module _ (g : Setting) (opening : Content) (x : Play) (legal : IsLegal g.script) (h : Told g opening x) (idle : x.now ≡ None) where
  live_is : x.live ≡ x.past
  live_is = (h.closed idle).0

  up_to : AllUpTo (length x.ends) x.journal
  up_to = (h.closed idle).1

  -- The next event has no entry.
  no_entry : of_event (length x.ends + 1) x.journal ≡ []
  no_entry = event_none (length x.ends) x.journal up_to

  follow : (ev : Event) → slice_get g.script.events (length x.ends) ≡ Some ev → (a : Actor) (d : Doing)
      → (open_event g.script (past g.script x.ends) ev).doing a ≡ Some d → OpFollows g a d (by_actor a x.journal)
  follow ev next a d e =
      let begins = legal_begins g g.script.attempts ev (event_at g.script.attempts g.script.events (length x.ends) ev legal.events next) in
      let runs : AllRun g x.past.doing x.journal x.running (length x.ends + 1) = subst
      (λ (p : Past). AllRun g p.doing x.journal x.running (length x.ends + 1)) live_is h.runs in
      let doing : (open_event g.script x.past ev).doing a ≡ Some d = ap (λ p. (open_event g.script p ev).doing a) h.past_is ∙ e in
      runs_follow g a d (by_actor a x.journal) (length x.ends + 1) (open_running g x ev a)
      (opened_run g opening x h ev begins up_to runs a d doing)

  unended : IsUnended g x.ends x.journal
  unended ev next = record {
    follow = follow ev next;
    turns = λ e. subst (λ es. OpenTurns g.script (past g.script x.ends).state ev es) (sym no_entry)
        (turns_open g.script (past g.script x.ends).state ev);
    silent = λ f e. no_entry;
  }

  played : IsPlayed g opening x
  played = assumption (unended, no_entry, live_is, h)

pub happenings_play : (g : Setting) (opening : Content) (x : Play) → IsLegal g.script → Reachable g opening x → x.now ≡ None
    → IsPlayed g opening x
happenings_play g opening x legal run idle = played g opening x legal (told_all g opening x run) idle
