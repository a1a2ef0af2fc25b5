-- The file that a crash leaves by choice is one that it may leave.
use Rattle.folder_log.specs.Calls.{IsImage, IsTornBy, Recorded, after, after_all, at_rest, filled, is_within, left_by, state_in, wrote}
use Rattle.folder_log.specs.Disk.{File, IsTorn, file_after, overwritten}
use Rattle.folder_log.specs.Images.{after_torn, shown, span, torn_last}
use Rattle.folder_log.specs.inner.Images.{torn_same}
use Rattle.folder_log.specs.declared.state.Choice.{Choice}
use Rattle.folder_log.specs.declared.state.Choice.TheVariants.{Kept, Lost, Torn}
use Rattle.folder_log.specs.declared.state.DiskCall.{DiskCall}
use Rattle.folder_log.specs.declared.state.DiskCall.TheVariants.{Swap, Sync, Write}
use Rattle.folder_log.specs.declared.state.Span.{Span}
use Rattle.folder_log.specs.declared.state.State.{State}
use Rattle.std.proofs.Common.{Err, List, None, Ok, Result, Some, ap, arith, cond, drop, false, get_or, length, length-append, length-drop}
use Rattle.std.proofs.Common.{length-take, refl, replicate, subst, sym, take, true, ℕ, [], ◌++◌, ◌+◌, ◌<◌, ◌∙◌, ◌∷◌, ◌≡◌}
use Rattle.std.proofs.lemmas.List.{at_drop_more, length-replicate}
use Rattle.std.specs.Prelude.{IfOk}

-- Both files exist and have the same length, or neither exists.
abbrev AreAlike : File → File → Type 0
AreAlike None None = Unit {0}
AreAlike None (Some b) = ⊥
AreAlike (Some a) None = ⊥
AreAlike (Some a) (Some b) = length a ≡ length b

alike : (file : File) → AreAlike file file
alike file = grind arith

alike_within : (at : ℕ) (a b : File) → AreAlike a b → is_within at b ≡ true → is_within at a ≡ true
alike_within at a b h g = grind arith

length-overwritten : (at : ℕ) (bytes old : List ℕ)
    → length (overwritten at bytes old) ≡ length (take at old) + length bytes + length (drop (at + length bytes) old)
length-overwritten at bytes old = omega (
  arith,
  length-append (take at old ++ bytes) (drop (at + length bytes) old),
  length-append
      (take at old) bytes,
)

alike_after : (at : ℕ) (x y : List ℕ) (a b : File) → AreAlike a b → length x ≡ length y → AreAlike (file_after at x a) (file_after at y b)
alike_after at x y None None like same = tt
alike_after at x y None (Some b) like same = absurd like
alike_after at x y (Some a) None like same = absurd like
alike_after at x y (Some a) (Some b) like same =
    omega (
      arith,
      like,
      same,
      length-overwritten at x a,
      length-overwritten at y b,
      length-take at a,
      length-take at b,
      length-drop
          (at + length x) a,
      length-drop (at + length y) b,
    )

filled_last : (byte : ℕ) (rs : List Span) (r : Span) (file : File)
    → filled byte (rs ++ r ∷ []) file ≡ file_after r.place (replicate r.length byte) (filled byte rs file)
filled_last byte [] r file = refl
filled_last byte (x ∷ rs) r file = filled_last byte rs r (file_after x.place (replicate x.length byte) file)

-- The file with its ranges filled is one that a crash may leave, and as long as the one that a read gives.
abbrev AreFilled : ℕ → State → Type 0
AreFilled byte s = IsImage s (filled byte s.ranges s.synced) × AreAlike (filled byte s.ranges s.synced) s.now

fill_wrote : (byte : ℕ) (s : State) (place : ℕ) (bytes : List ℕ) → is_within place s.now ≡ true → AreFilled byte s
    → AreFilled byte (wrote s place bytes)
fill_wrote byte s place bytes within h =
    let file : File = filled byte s.ranges s.synced in
    let more : List ℕ = replicate (length bytes) byte in
    let len : length more ≡ length bytes = length-replicate (length bytes) byte in
    let is : filled byte (s.ranges ++ span place bytes ∷ []) s.synced ≡ file_after place more file = filled_last byte s.ranges
    (span place bytes) s.synced in
    let torn : IsTorn place (length bytes) file (file_after place more file) = subst (λ n. IsTorn place n file (file_after place more file))
    len (after_torn place more file (alike_within place file s.now h.1 within)) in (
      subst (IsImage (wrote s place bytes)) (sym is) (torn_last s.ranges (span place bytes) s.synced file (file_after place more file) h.0
          torn),
      subst (λ (f : File). AreAlike f (file_after place bytes s.now)) (sym is) (alike_after place more bytes file s.now h.1 len),
    )

fill_after : (byte : ℕ) (s : State) (c : DiskCall) → AreFilled byte s → AreFilled byte (after s c)
fill_after byte s (Swap bytes) h = (refl, refl)
fill_after byte s Sync h = (refl, alike s.now)
fill_after byte s (Write place bytes) h =
    (elim (is_within place s.now) as (λ b. is_within place s.now ≡ b → AreFilled byte (cond b (wrote s place bytes) s))
    [ true ↦ λ e. fill_wrote byte s place bytes e h | false ↦ λ e. h ]) refl

fill_all : (byte : ℕ) (s : State) (cs : List DiskCall) → AreFilled byte s → AreFilled byte (after_all s cs)
fill_all byte s [] h = h
fill_all byte s (c ∷ cs) h = fill_all byte (after s c) cs (fill_after byte s c h)

lost : (rs : List Span) (file : File) → IsTornBy rs file file
lost [] file = refl
lost (r ∷ rs) file = (file, torn_same r.place r.length file, lost rs file)

pub left_image : (d : Recorded) (choice : Choice) → IsImage (state_in d) (left_by choice (state_in d))
left_image d Lost = lost (state_in d).ranges (state_in d).synced
left_image d Kept = shown d
left_image d (Torn byte) = (fill_all byte (at_rest d.first) d.calls (refl, alike d.first)).0

-- The next range is filled.
pub fill_next : (byte : ℕ) (rs : List Span) (i : ℕ) (d : Span) (torn next : File) (bytes : List ℕ) → i < length rs
    → next ≡ file_after (get_or rs i d).place bytes torn → bytes ≡ replicate (get_or rs i d).length byte
    → filled byte (drop (i + 1) rs) next ≡ filled byte (drop i rs) torn
fill_next byte rs i d torn next bytes below is same =
    ap (filled byte (drop (i + 1) rs)) (is ∙ ap (λ (l : List ℕ). file_after (get_or rs i d).place l torn) same) ∙ sym
    (at_drop_more (λ (l : List Span). filled byte l torn) rs i d below)

-- The chosen file, if memory did not run out.
pub chosen_image : {E : Type 0} (r : Result File E) (d : Recorded) (choice : Choice) (file : File) → IfOk r (λ left. left ≡ file)
    → file ≡ left_by choice (state_in d) → IfOk r (λ left. IsImage (state_in d) left)
chosen_image (Ok left) d choice file is chosen = subst (IsImage (state_in d)) (sym (is ∙ chosen)) (left_image d choice)
chosen_image (Err e) d choice file is chosen = tt
