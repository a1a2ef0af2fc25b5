-- What an event leaves as it was, step by step.
use Rattle.job_model.specs.declared.events.Event.{Event}
use Rattle.job_run.specs.Events.{Grown}
use Rattle.job_run.specs.inner.Events.{ByTurns, Emptied, Entered, HasRoom, IsOpened, event_entries}
use Rattle.job_run.specs.Holds.{AreOf, Same, both_of, is_mine, seen_by, stays_on}
use Rattle.job_run.specs.declared.body.Body.{Body}
use Rattle.job_spec.specs.Eyes.{in_eyes}
use Rattle.job_spec.specs.Turns.{of_event}
use Rattle.std.proofs.Common.{Some, ap, append_assoc, length, subst, vec_capacity, vec_len, ℕ, [], ◌++◌, ◌+◌, ◌<◌, ◌∙◌, ◌∷◌, ◌≡◌}

module _ {W : Type 0} where
  -- An opened body from which a hand was taken out.
  pub opened_is : (place : ℕ) (ev : Event) (b c d : Body W) → Emptied place b c → IsOpened ev c d
      → d ≡ record b { side = record b.side { hands = c.side.hands; picks = c.side.picks; states = d.side.states; event = Some ev } }
  opened_is place ev b c d emptied opened = opened.is ∙ ap (λ (v : Body W). record v
      { side = record v.side { states = d.side.states; event = Some ev } }) emptied.is

  pub begun_entered : (place : ℕ) (ev : Event) (b c d f : Body W) → Emptied place b c → IsOpened ev c d → Same d f
      → f.shared.journal ≡ d.shared.journal → event_entries b ≡ [] → Entered ev b f
  begun_entered place ev b c d f emptied opened same sent fresh = then (rw (opened_is place ev b c d emptied opened) at same)
      (rw (opened_is place ev b c d emptied opened) at sent)
    where
      then : Same (record b {
        side = record b.side { hands = c.side.hands; picks = c.side.picks; states = d.side.states; event = Some ev };
      }) f
          → f.shared.journal ≡ b.shared.journal → Entered ev b f
      then same sent =
          let fresh_then =
          ap (λ v. of_event (length v.items + 1) (seen_by f)) same.ends ∙ ap (λ v. of_event (length b.side.ends.items + 1)
          (in_eyes (is_mine v.items) f.shared.journal.entries))
          same.stays.others
          ∙ ap (λ v. of_event (length b.side.ends.items + 1) (in_eyes (is_mine b.side.others.items) v.entries)) sent ∙ fresh in
          assumption (fresh_then, sent, same)

  -- ---- what a body needs before its event ends

  module _ (ev : Event) (b d f : Body W) (entered : Entered ev b d) (same : Same d f) where
    pub closing : (v : Event) {G : Type 0} → ev ≡ v → HasRoom b → ByTurns f v → G
        → record { now : f.side.event ≡ Some ev; turns : ByTurns f ev; room : vec_len f.side.ends < vec_capacity f.side.ends; going : G }
    closing v is room turns going = record {
      now = same.event ∙ entered.now;
      turns = rw is turns;
      room = rw (same.ends ∙ entered.ends)
          room.ends;
      going = going;
    }

    pub grown_after : (z : Body W) → Grown f z → Grown b z
    grown_after z grown = record {
      stays = stays_on b f z (stays_on b d f entered.stays same.stays) grown.stays;
      end = grown.end;
      ends = grown.ends ∙ ap (λ v. v.items ++ grown.end ∷ []) (same.ends ∙ entered.ends);
      events = grown.events ∙ ap (λ n. n + 1) (same.events ∙ entered.events);
      more = (
        same.more.0 ++ grown.more.0,
        grown.more.1 ∙ ap (λ es. es ++ grown.more.0) (same.more.1 ∙ ap (λ v. v.entries ++ same.more.0) entered.journal) ∙ append_assoc
            b.shared.journal.entries same.more.0 grown.more.0,
        both_of (b.shared.events + 1) same.more.0 grown.more.0
            (subst (λ (n : ℕ). AreOf (n + 1) same.more.0) entered.events same.more.2)
            (subst (λ (n : ℕ). AreOf (n + 1) grown.more.0) (same.events ∙ entered.events) grown.more.2),
      );
    }
