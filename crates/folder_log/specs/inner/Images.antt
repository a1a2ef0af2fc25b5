-- Definitions beside those of `Images` that no public contract cites.
use Rattle.folder_log.specs.Calls.{IsImage, IsTornBy, after, after_all, is_within, wrote}
use Rattle.folder_log.specs.Disk.{File, Follows, IsTorn, IsWithin}
use Rattle.folder_log.specs.Images.{span}
use Rattle.folder_log.specs.declared.state.DiskCall.{DiskCall}
use Rattle.folder_log.specs.declared.state.DiskCall.TheVariants.{Write}
use Rattle.folder_log.specs.declared.state.Span.{Span}
use Rattle.folder_log.specs.declared.state.State.{State}
use Rattle.std.proofs.Common.{arith, subst, sym}
use Rattle.std.proofs.lemmas.Bool.{le-leb}
use Rattle.std.specs.Prelude.{Bool, List, None, Some, cond, length, refl, true, ℕ, [], ◌++◌, ◌+◌, ◌∷◌, ◌≡◌}

pub after_last : (s : State) (cs : List DiskCall) (c : DiskCall) → after_all s (cs ++ c ∷ []) ≡ after (after_all s cs) c
after_last s [] c = refl
after_last s (x ∷ cs) c = after_last (after s x) cs c

torn_split : (rs : List Span) (r : Span) (a c : File) → IsTornBy (rs ++ r ∷ []) a c → (b : File) × IsTornBy rs a b
    × IsTorn r.place r.length b c
torn_split [] r a c h = (a, refl, subst (λ (f : File). IsTorn r.place r.length a f) (sym h.2) h.1)
torn_split (x ∷ rs) r a c h = let s = torn_split rs r h.0 c h.2 in (s.0, (h.0, h.1, s.1), s.2)

-- A torn write may leave the file as it is.
pub torn_same : (at n : ℕ) (c : File) → IsTorn at n c c
torn_same at n None = refl
torn_same at n (Some bytes) = record { before = refl; after = refl; no_shorter = omega arith; no_longer = omega arith }

-- After a write a crash may leave only what a torn write leaves of what it could leave before.
pub write_follows : (s : State) (place : ℕ) (bytes : List ℕ) → is_within place s.now ≡ true
    → Follows (IsTorn place (length bytes)) (IsImage s) (IsImage (after s (Write place bytes)))
write_follows s place bytes e c left =
    torn_split s.ranges (span place bytes) s.synced c (subst (λ (b : Bool). IsImage (cond b (wrote s place bytes) s) c) e left)

pub within_true : (at : ℕ) (file : File) → IsWithin at (Some file) → is_within at file ≡ true
within_true at None h = absurd h
within_true at (Some bytes) h = le-leb at (length bytes) h
