-- What driving a stream alone leaves.
use Rattle.block_stream.proofs.Ended.{stored}
use Rattle.block_stream.proofs.FillingLaws.{settled_by}
use Rattle.block_stream.proofs.KeepingLaws.{gave_up, hidden, lost, took}
use Rattle.block_stream.specs.Holds.{Holds, IsReady}
use Rattle.block_stream.specs.Stored.{IsSameOutput, IsStored}
use Rattle.block_stream.specs.Stream.{Stream, ended, moved, parted, refused, settled, stage, standing, told, wanted}
use Rattle.block_stream.specs.declared.stage.StreamStage.{StreamStage}
use Rattle.block_stream.specs.declared.stage.StreamStage.TheVariants.{Beginning, Completing, Putting, Sending}
use Rattle.machine.proofs.Keeping.{Keeps}
use Rattle.machine.proofs.Keeps.{kept_run}
use Rattle.machine.specs.Drove.{Drove}
use Rattle.machine.specs.Standing.{Fine}
use Rattle.machine.specs.Turns.{retried}
use Rattle.machine.specs.declared.driving.DriveStop.{DriveStop}
use Rattle.machine.specs.declared.retrying.Retrying.{Retrying}
use Rattle.retries.specs.Operation.{run}
use Rattle.retries.specs.Retries.{Got, Retried, step}
use Rattle.s3_types.specs.Answer.{answer}
use Rattle.s3_types.specs.Store.{Scene}
use Rattle.s3_types.specs.declared.fates.Fate.{Fate}
use Rattle.s3_types.specs.declared.journal.Entry.{Entry}
use Rattle.s3_types.specs.declared.reply.Refusal.{Refusal}
use Rattle.s3_types.specs.declared.reply.Reply.{Reply}
use Rattle.s3_types.specs.declared.reply.Reply.TheVariants.{Completed, Part, Refused, Stored, Upload}
use Rattle.s3_types.specs.declared.request.Actor.{Actor}
use Rattle.std.proofs.Common.{arith, refl, subst, sym, ◌∙◌}
use Rattle.std.specs.Prelude.{Bool, Err, IfOk, List, Ok, Option, Result, false, true, ℕ, ◌≡◌}

-- Each send keeps what a stream holds.
holds_kept : (bytes : List ℕ) → Keeps wanted moved (λ m s repeated. Holds m s repeated bytes)
holds_kept bytes = record {
  lost = λ m s b h. lost m s b bytes h;
  hidden = λ m s r b w h. hidden m s b bytes h r w;
  took = λ m s r b w h. took m s b bytes h r w;
  gave_up = λ m s r b w h. gave_up m s b bytes h;
}

the_same : (m : Stream) → IsSameOutput m m
the_same m = record { mode = refl; bucket = refl; key = refl; block = refl; count = refl; closed = refl }

same_settled : (m : Stream) → IsSameOutput m (settled m)
same_settled m = settled_by (IsSameOutput m) m (record {
  mode = refl;
  bucket = refl;
  key = refl;
  block = refl;
  count = refl;
  closed = refl;
}) (the_same m)

same_then : (a b c : Stream) → IsSameOutput a b → IsSameOutput b c → IsSameOutput a c
same_then a b c h k = record {
  mode = k.mode ∙ h.mode;
  bucket = k.bucket ∙ h.bucket;
  key = k.key ∙ h.key;
  block = k.block ∙ h.block;
  count =
      k.count ∙ h.count;
  closed = k.closed ∙ h.closed;
}

same_refused : (m : Stream) (b : Bool) (r : Refusal) → IsSameOutput m (refused m b r)
same_refused m b r = grind arith

same_told : (g : StreamStage) (m : Stream) (b : Bool) (a : Reply) → IsSameOutput m (told g m b a)
same_told Putting m b (Stored t) = record { mode = refl; bucket = refl; key = refl; block = refl; count = refl; closed = refl }
same_told Beginning m b (Upload id) = record { mode = refl; bucket = refl; key = refl; block = refl; count = refl; closed = refl }
same_told Sending m b (Part t) = same_then m (parted m t) (settled (parted m t))
    (record { mode = refl; bucket = refl; key = refl; block = refl; count = refl; closed = refl }) (same_settled (parted m t))
same_told Sending m b (Refused r) = same_refused m false r
same_told Completing m b (Completed t) = record { mode = refl; bucket = refl; key = refl; block = refl; count = refl; closed = refl }
same_told Completing m b (Refused r) = same_refused m b r
same_told _ m b _ = the_same m

-- No reply changes what the output is.
same_kept : (m : Stream) → Keeps wanted moved (λ m' s repeated. IsSameOutput m m')
same_kept m = record {
  lost = λ m' s b h. h;
  hidden = λ m' s r b w h. h;
  took = λ m' s r b w h. same_then m m' (moved m' (Got (answer s r) b)) h (same_told (stage m') m' b (answer s r));
  gave_up = λ m' s r b w h. record { mode = h.mode; bucket = h.bucket; key = h.key; block = h.block; count = h.count; closed = h.closed };
}

module _ (actor : Actor) (event : ℕ) (t t' : Retrying Stream) (s s' : Scene) (old new : List Entry) (before now : ℕ)
    (foretold : ℕ → Option Fate) (first : ℕ) where
  abbrev Ran : Result (Unit {0}) DriveStop → Type 0
  Ran result = Drove wanted moved IsReady standing actor event t t' s s' old new before now foretold first result

  -- if the drive went on to its end, what was written is held
  holds_over : (d : Ran (Ok tt)) → (bytes : List ℕ) → Holds t.machine s t.repeated bytes → Holds t'.machine s' t'.repeated bytes
  holds_over d bytes h =
      let k = kept_run (holds_kept bytes) t.retries (retried t) s d.part d.is_run.follows d.is_run.honest h in
      let u : Retried Stream = run (step t.retries moved) (retried t) d.part in
      subst (λ (v : Retried Stream). Holds v.operation s' v.repeated bytes) (sym d.ended.there)
      (subst (λ v. Holds u.operation v u.repeated bytes) (sym d.is_run.scene) k)

  same_over : Ran (Ok tt) → IsSameOutput t.machine t'.machine
  same_over d = subst (λ (v : Retried Stream). IsSameOutput t.machine v.operation) (sym d.ended.there)
      (kept_run (same_kept t.machine) t.retries (retried t) s d.part d.is_run.follows d.is_run.honest (the_same t.machine))

  pub same_if : (result : Result (Unit {0}) DriveStop) → Ran result → IfOk result (λ _. IsSameOutput t.machine t'.machine)
  same_if (Ok tt) d = same_over d
  same_if (Err e) d = tt

  pub holds_if : (result : Result (Unit {0}) DriveStop) → Ran result
      → IfOk result (λ _. (bytes : List ℕ) → Holds t.machine s t.repeated bytes → Holds t'.machine s' t'.repeated bytes)
  holds_if (Ok tt) d = holds_over d
  holds_if (Err e) d = tt

  -- a closed stream without a fault has then stored what was written
  pub stored_if : (result : Result (Unit {0}) DriveStop) → Ran result
      → IfOk result (λ _. t.machine.closed ≡ true → standing t.machine ≡ Fine → (bytes : List ℕ) → Holds t.machine s t.repeated bytes
      → IsStored t'.machine s' bytes)
  stored_if (Ok tt) d = λ c f bytes h.
      let k = holds_over d bytes h in
      let e = stored t'.machine s' t'.repeated bytes k ((same_over d).closed ∙ c) d.ended.over (d.ended.stands ∙ f) in
      record { done = e.0; content = k.content; there = k.there; written = e.1 }
  stored_if (Err e) d = tt
