-- Events of a script, one after another.
use Rattle.job_model.specs.Attempts.{Declared}
use Rattle.job_model.specs.JobScript.{Script}
use Rattle.job_model.specs.Legal.{AreEvents, IsEvent}
use Rattle.job_model.specs.declared.ends.EventEnd.{EventEnd}
use Rattle.job_model.specs.declared.ends.EventEnd.TheVariants.{Refused}
use Rattle.job_model.specs.declared.ends.EventFault.{EventFault}
use Rattle.job_model.specs.declared.events.Event.{Event}
use Rattle.job_spec.specs.States.{Past, after_event, count, end_ops, open_event, told}
use Rattle.std.proofs.Common.{List, ap, arith, drop, get_or, length, subst, suc, sym, zero, ℕ, [], ◌+◌, ◌<◌, ◌∙◌, ◌∷◌, ◌≡◌}
use Rattle.std.proofs.lemmas.List.{drop_more}

-- An event that is not refused begins, and then its operations end.
pub after_played : (w : Script) (p : Past) (ev : Event) (end : EventEnd) → ((f : EventFault) → end ≡ Refused f → ⊥)
    → after_event w p ev end ≡ count (end_ops (open_event w p ev) (told ev end))
after_played w p ev end h = grind arith

-- An event of a script belongs to the driver or a declared attempt.
pub event_at : (ds : List Declared) (evs : List Event) (i : ℕ) (ev : Event) → AreEvents ds evs → i < length evs → ev ≡ get_or evs i ev
    → IsEvent ds ev
event_at ds [] i ev h lt e = absurd (omega arith)
event_at ds (x ∷ evs) zero ev h lt e = subst (IsEvent ds) (sym e) h.0
event_at ds (x ∷ evs) (suc i) ev h lt e = event_at ds evs i ev h.1 (omega arith) e

-- The rest of a list from a place on begins with the element there.
pub left_from : {X : Type 0} (xs : List X) (i : ℕ) (x : X) → i < length xs → x ≡ get_or xs i x → drop i xs ≡ x ∷ drop (i + 1) xs
left_from xs i x lt e = drop_more xs i x lt ∙ ap (λ y. y ∷ drop (i + 1) xs) (sym e)
