-- The laws of a stream as a machine. Contracts cite none of them; the machine names `stream_laws` as what holds of it.
use Rattle.block_stream.proofs.FillingLaws.{settled_by}
use Rattle.block_stream.proofs.KeepingLaws.{asks_alive, falls, fit, gave_up, hidden, lost, some_left, took}
use Rattle.block_stream.specs.Holds.{IsReady}
use Rattle.block_stream.specs.Stream.{Fits, Stream, answers, is_no_upload, left, moved, parted, refused, stage, standing, standing_of, told}
use Rattle.block_stream.specs.Stream.{wanted}
use Rattle.block_stream.specs.declared.stage.StreamStage.{StreamStage}
use Rattle.block_stream.specs.declared.stage.StreamStage.TheVariants.{Beginning, Completing, Putting, Sending}
use Rattle.machine.specs.MachineLaws.{Laws}
use Rattle.machine.specs.Standing.{Fine}
use Rattle.s3_types.specs.declared.reply.Refusal.{Refusal}
use Rattle.s3_types.specs.declared.reply.Reply.{Reply}
use Rattle.s3_types.specs.declared.reply.Reply.TheVariants.{Completed, Part, Refused, Stored, Upload}
use Rattle.std.proofs.Common.{ap, arith, refl, sym, ◌∙◌}
use Rattle.std.specs.Prelude.{Bool, false, true, ◌≡◌}

-- No reply is a fault of the store or of memory.
fine_refused : (m : Stream) (b : Bool) (r : Refusal) → standing m ≡ Fine → is_no_upload r ≡ true → standing (refused m b r) ≡ Fine
fine_refused m b r h g = grind arith

-- The same at a stage with a request.
fine_told : (g : StreamStage) (m : Stream) (b : Bool) (a : Reply) → standing m ≡ Fine → answers g a ≡ true → standing (told g m b a) ≡ Fine
fine_told Putting m b (Stored t) h k = refl
fine_told Beginning m b (Upload id) h k = h
fine_told Sending m b (Part t) h k = settled_by (λ v. standing v ≡ Fine) (parted m t) refl h
fine_told Sending m b (Refused r) h k = fine_refused m false r h k
fine_told Completing m b (Completed t) h k = refl
fine_told Completing m b (Refused r) h k = fine_refused m b r h k
fine_told _ m b _ h k = absurd (cc)

pub stream_laws : Laws wanted moved Fits IsReady (λ m s. left m) standing
stream_laws = record {
  fit = λ m s r b w h. fit m s b h.bytes h.holds r w;
  lost = λ m s b h. record { bytes = h.bytes; holds = lost m s b h.bytes h.holds };
  hidden = λ m s r b w h. record { bytes = h.bytes; holds = hidden m s b h.bytes h.holds r w };
  took = λ m s r b w h. record { bytes = h.bytes; holds = took m s b h.bytes h.holds r w };
  gave_up = λ m s r b w h. record { bytes = h.bytes; holds = gave_up m s b h.bytes h.holds };
  falls = λ m s r b w h. falls m s b h.bytes h.holds r w;
  falls_worn = λ m s r b w h. some_left m (asks_alive m r w);
  no_rise = λ m s r b w h. omega arith;
  stops = λ m. refl;
  breaks = λ m. refl;
  faults = λ m r w. refl;
  goes_on = λ m r a b w h. fine_told (stage m) m b a (ap standing_of (asks_alive m r w)) h ∙ sym (ap standing_of (asks_alive m r w));
}
