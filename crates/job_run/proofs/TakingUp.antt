-- An actor has the operation in hand that it began, which has more to send or ends at once.
use Rattle.text_and_lists.proofs.Members.{nat_false}
use Rattle.job_model.specs.Known.{Known}
use Rattle.job_model.specs.declared.ends.OpEnd.{OpEnd}
use Rattle.job_model.specs.declared.ends.Pick.{Pick}
use Rattle.job_protocol.specs.Operations.{Running, Setting}
use Rattle.job_run.proofs.Finishes.{hands_by}
use Rattle.job_run.proofs.Standings.{placed}
use Rattle.job_run.proofs.Writes.{set_other, set_so}
use Rattle.job_run.specs.inner.Events.{Begun, Handed, InHand, TakenUp}
use Rattle.job_run.specs.Holds.{HandsAre, all_sound, is_busy_at, setting_of}
use Rattle.job_run.specs.Sending.{Asks}
use Rattle.job_run.specs.declared.body.Body.{Body}
use Rattle.job_run.specs.declared.hands.Hand.{Hand}
use Rattle.job_run.specs.declared.hands.Hand.TheVariants.{At}
use Rattle.s3_types.specs.declared.request.Actor.{Actor}
use Rattle.s3_types.specs.declared.request.Request.{Request}
use Rattle.std.proofs.Common.{Bool, List, Option, Some, ap, length, not, slice_get, slice_set, subst, sym, true, ℕ, ◌<◌, ◌∙◌, ◌≡◌}
use Rattle.std.proofs.Math.ListN.{length-set}
use Rattle.std.specs.Prelude.{Ok, Result}

-- A hand is written at its place.
pub handed_at : {W : Type 0} (place : ℕ) (b c : Body W) (h k : Hand W) → c ≡ record b { side = record b.side { hands = c.side.hands } }
    → c.side.hands.items ≡ slice_set b.side.hands.items place h → place < length b.side.hands.items → h ≡ k → Handed place k b c
handed_at place b c h k is items below same = record {
  is = is;
  places = ap length items ∙ length-set _ _ _;
  here = ap (λ l. slice_get l place) items ∙ set_so b.side.hands.items place h k below same;
  others = λ q ne. ap (λ l. slice_get l q) items ∙ set_other b.side.hands.items place q h ne;
}

module _ {W : Type 0} (wants : W → Option Request) (end_of : W → Option OpEnd) (is_of : Setting → Actor → W → Type 0)
    (running : Known → W → Running) (picks_of : W → Option (List Pick)) where
  -- ---- the hand is filled

  module _ (place : ℕ) (a : Actor) (b c : Body W) (m : W) (handed : Handed place (At m) b c) where
    module _ {E : Type 0} (begun : Begun {E = E} wants is_of running picks_of place a b (Ok m)) where
      filled_hands : HandsAre is_of running picks_of all_sound (setting_of b) b.shared.opening begun.holds.play c.side.hands.items
      filled_hands =
          hands_by is_of running picks_of (setting_of b) b.shared.opening begun.holds.play all_sound place a (At m) c.side.hands.items
          (placed b.side.script a place begun.actor)
          (λ s. handed.here) begun.fits
          (λ p v k ne s there hand. begun.holds.hands p v k (ap not (nat_false p place ne)) there (sym (handed.others p ne) ∙ hand))

      filled : InHand wants is_of running picks_of place a (record b { side = record b.side { hands = c.side.hands } })
      filled =
          let turn = begun.holds.turn begun.during in
          let others : (q : ℕ) (h : Hand W) → (q ≡ place → ⊥) → is_busy_at b.side.states.actors q ≡ true
          → slice_get c.side.hands.items q ≡ Some h → Asks wants h =
          λ p k ne busy hand. begun.others p k ne busy (sym (handed.others p ne) ∙ hand) in
          search (turn, handed.places ∙ begun.holds.places, filled_hands, others, begun)

      pub in_hand : InHand wants is_of running picks_of place a c
      in_hand = subst (InHand wants is_of running picks_of place a) (sym handed.is) filled

    pub in_hand_of : {E : Type 0} (r : Result W E) → r ≡ Ok m → Begun {E = E} wants is_of running picks_of place a b r
        → InHand wants is_of running picks_of place a c
    in_hand_of r is begun = in_hand (subst (Begun wants is_of running picks_of place a b) is begun)

-- ---- what its turns need

pub goes_then : {W : Type 0} (place : ℕ) (a : Actor) (b : Body W) (goes_on : Bool) → goes_on ≡ true → TakenUp place a b goes_on
    → TakenUp place a b true
goes_then place a b goes_on e taken = subst (TakenUp place a b) e taken
