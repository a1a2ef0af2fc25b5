-- The file of a disk in memory after one call more.
use Rattle.folder_log.specs.Calls.{IsImage, Recorded, after, at_rest, state_in, state_of, wrote}
use Rattle.folder_log.specs.inner.Calls.{last_of}
use Rattle.folder_log.specs.Disk.{File, Follows, IsTorn, IsWithin, file_after}
use Rattle.folder_log.specs.inner.Images.{after_last, within_true, write_follows}
use Rattle.folder_log.specs.declared.state.DiskCall.{DiskCall}
use Rattle.folder_log.specs.declared.state.DiskCall.TheVariants.{Write}
use Rattle.folder_log.specs.declared.state.Span.{Span}
use Rattle.folder_log.specs.declared.state.State.{State}
use Rattle.std.proofs.Common.{Bool, Err, List, Ok, Option, Result, Some, ap, arith, cond, length, subst, sym, ℕ, [], ◌++◌, ◌∙◌, ◌∷◌, ◌≡◌}
use Rattle.std.specs.Prelude.{OnErr, OnOk}

pub set_now : (first : File) (calls new : List DiskCall) (call : DiskCall) (set : Option State) (next : State) → new ≡ calls ++ call ∷ []
    → set ≡ Some next → next ≡ after (state_of first calls) call → last_of set first ≡ state_of first new
set_now first calls new call set next more is now =
    ap (λ (o : Option State). last_of o first) is ∙ now ∙ sym (ap (state_of first) more ∙ after_last (at_rest first) calls call)

-- The call was kept, or was not.
pub set_either : {T E : Type 0} (r : Result T E) (first : File) (calls new : List DiskCall) (call : DiskCall) (old set : Option State)
    (next : State) → OnOk r (new ≡ calls ++ call ∷ []) → OnOk r (set ≡ Some next) → OnErr r (new ≡ calls) → OnErr r (set ≡ old)
    → last_of old first ≡ state_of first calls → next ≡ after (state_of first calls) call → last_of set first ≡ state_of first new
set_either (Ok x) first calls new call old set next more is same kept before now = set_now first calls new call set next more is now
set_either (Err e) first calls new call old set next more is same kept before now = ap (λ (o : Option State). last_of o first) kept ∙ before
    ∙ sym (ap (state_of first) same)

-- The state after one call more.
pub state_is : (new : Recorded) (first : File) (calls : List DiskCall) (call : DiskCall) → new.first ≡ first
    → new.calls ≡ calls ++ call ∷ [] → state_in new ≡ after (state_of first calls) call
state_is new first calls call same more = (λ i. state_of (same i) (more i)) ∙ after_last (at_rest first) calls call

pub wrote_alike : (s : State) (synced now : File) (ranges : List Span) (place : ℕ) (bytes : List ℕ) → synced ≡ s.synced → now ≡ s.now
    → ranges ≡ s.ranges → wrote (record { synced = synced; now = now; ranges = ranges }) place bytes ≡ wrote s place bytes
wrote_alike s synced now ranges place bytes a b c = λ i. wrote (record { synced = a i; now = b i; ranges = c i }) place bytes

-- The state after a write.
pub write_now : (s next : State) (place : ℕ) (bytes copy : List ℕ) → next ≡ wrote s place bytes → copy ≡ bytes → IsWithin place (Some s.now)
    → next ≡ after s (Write place copy)
write_now s next place bytes copy h g e = grind arith

pub wrote_is : (s t : State) (place : ℕ) (bytes : List ℕ) → t ≡ after s (Write place bytes) → IsWithin place (Some s.now)
    → t.now ≡ file_after place bytes s.now
wrote_is s t place bytes is within = ap (λ (u : State). u.now) is ∙ ap (λ (b : Bool). (cond b (wrote s place bytes) s).now)
    (within_true place s.now within)

pub wrote_leaves : (s t : State) (place : ℕ) (bytes : List ℕ) → t ≡ after s (Write place bytes) → IsWithin place (Some s.now)
    → Follows (IsTorn place (length bytes)) (IsImage s) (IsImage t)
wrote_leaves s t place bytes is within c image = write_follows s place bytes (within_true place s.now within) c
    (subst (λ (u : State). IsImage u c) is image)
