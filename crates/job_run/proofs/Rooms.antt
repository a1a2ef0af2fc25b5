-- A body takes room before its next event, which changes nothing else; and why that event is refused, if it is.
use Rattle.job_model.specs.Known.{Known}
use Rattle.job_model.specs.declared.ends.EventFault.{EventFault}
use Rattle.job_model.specs.declared.ends.Pick.{Pick}
use Rattle.job_model.specs.declared.events.Event.{Event}
use Rattle.job_protocol.specs.Operations.{Running, Setting}
use Rattle.job_run.proofs.Moments.{never, stands_of}
use Rattle.job_run.specs.Events.{Grown, IsAsBefore, Next}
use Rattle.job_run.specs.Holds.{AreOf, IsTurn, Quiet, all_sound, is_mine, stays_on}
use Rattle.job_run.specs.declared.body.Body.{Body}
use Rattle.job_run.specs.declared.body.Shared.{Shared}
use Rattle.job_spec.specs.States.{Past, past, refusal}
use Rattle.job_states.specs.Stands.{Stands}
use Rattle.s3_types.specs.Fates.{fate_at}
use Rattle.s3_types.specs.declared.request.Actor.{Actor}
use Rattle.s3_types.specs.declared.request.Request.{Request}
use Rattle.std.proofs.Common.{List, Option, ap, length, slice_get, subst, sym, [], ◌++◌, ◌+◌, ◌∙◌, ◌∷◌, ◌≡◌}

module _ {W : Type 0} (wants : W → Option Request) (is_of : Setting → Actor → W → Type 0) (running : Known → W → Running)
    (picks_of : W → Option (List Pick)) where
  pub quiet_roomy : (b c : Body W) → Quiet wants is_of running picks_of b → c.side.ends.items ≡ b.side.ends.items
      → c.side.finished.items ≡ b.side.finished.items
      → Quiet wants is_of running picks_of (record b { side = record b.side { ends = c.side.ends; finished = c.side.finished } })
  quiet_roomy b c q ends finished =
      let counts = q.holds.counts ∙ sym (ap length ends) in
      let turn = never (IsTurn (record b { side = record b.side { ends = c.side.ends; finished = c.side.finished } })) b.side.event q.idle
      in
      search (ends ∙ q.holds.ends, counts, turn, finished ∙ q.holds.finished, finished ∙ q.none, q, q.holds)

  -- The event is refused by the states that follow from the ends so far.
  pub refusal_is : (b : Body W) → Quiet wants is_of running picks_of b → (ev : Event) (o : Option EventFault)
      → ((p : Past) → Stands b.side.script b.side.states p → o ≡ refusal p.state ev)
      → refusal (past b.side.script b.side.ends.items).state ev ≡ o
  refusal_is b q ev o h = sym (h (past b.side.script b.side.ends.items) (stands_of is_of running picks_of all_sound b q.holds q.idle))

module _ {W : Type 0} (b c : Body W) (same : IsAsBefore b c) where
  pub turn_roomy : IsTurn b → IsTurn c
  turn_roomy turn = record {
    mine = ap (λ v. is_mine v.items (c.shared.events + 1)) same.others ∙ ap (λ v. is_mine b.side.others.items (v.events + 1)) same.shared ∙
        turn.mine;
    few = rw same.shared turn.few;
  }

  pub next_roomy : (ev : Event) → Next b ev → Next c ev
  next_roomy ev next = ap (λ v. slice_get v.events (length c.side.ends.items)) same.script ∙ ap
      (λ xs. slice_get b.side.script.events (length xs)) same.ends ∙ next

  pub grown_roomy : (d : Body W) → Grown c d → Grown b d
  grown_roomy d grown = record {
    stays = stays_on b c d (record {
      script = same.script;
      others = same.others;
      shares = same.shares;
      opening = ap (λ v. v.opening)
          same.shared;
      fates = λ n. ap (λ v. fate_at v.store.fates n) same.shared;
    }) grown.stays;
    end = grown.end;
    ends = grown.ends ∙ ap (λ xs. xs ++ grown.end ∷ []) same.ends;
    events = grown.events ∙ ap (λ v. v.events + 1) same.shared;
    more = (
      grown.more.0,
      grown.more.1 ∙ ap (λ v. v.journal.entries ++ grown.more.0) same.shared,
      subst
          (λ (v : Shared). AreOf (v.events + 1) grown.more.0) same.shared grown.more.2,
    );
  }
