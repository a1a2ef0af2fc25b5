-- A piece and the close keep what a stream holds.
use Rattle.text_and_lists.proofs.Naturals.{at_most_so}
use Rattle.block_stream.proofs.Cuts.{first_part}
use Rattle.block_stream.proofs.FillingLaws.{Last, Whole, due, held_from, holds_of, settle}
use Rattle.block_stream.proofs.KeepingLaws.{unsettled}
use Rattle.block_stream.specs.Holds.{Fills, HasParts, HasRoom, Holds, HoldsIn}
use Rattle.block_stream.specs.Stream.{Stream, added, close, closed_by, ended, has_part, has_some, is_direct, is_settled, shut, wrote}
use Rattle.block_stream.specs.declared.mode.StreamEnd.{StreamEnd}
use Rattle.block_stream.specs.declared.mode.StreamEnd.TheVariants.{Done, Gone, NoMemory, StoreFault}
use Rattle.s3_types.specs.Store.{BucketContent, Scene}
use Rattle.std.proofs.Common.{ap, append_assoc, arith, inl, inr, length-append, refl, subst, sym, true≢false, ◌∙◌}
use Rattle.std.proofs.lemmas.List.{take-append-le}
use Rattle.std.specs.List.{concat}
use Rattle.std.specs.Prelude.{Bool, List, None, Option, Some, cond, false, length, not, true, ℕ, [], ◌&&◌, ◌*◌, ◌++◌, ◌+◌, ◌||◌, ◌∷◌, ◌≡◌}
use Rattle.std.specs.Prelude.{◌≤◌}

pub room_wrote : (m : Stream) (piece : List ℕ) → m.closed ≡ false → (m.count + length piece) ≤ m.block * 10000 → HasRoom m
    → HasRoom (wrote m piece)
room_wrote m piece o l r = record { some = r.some; few = few m.end refl; counted = counted }
  where
    few : (e : Option StreamEnd) → m.end ≡ e → m.block * length m.tags + length (added e m.pending piece) ≤ m.block * 10000
    few None q = let k : length (m.pending ++ piece) ≡ length m.pending + length piece = length-append m.pending piece in omega
        (arith, r.counted o q)
    few (Some e) q = r.few

    counted : m.closed ≡ false → m.end ≡ None → m.count + length piece ≡ m.block * length m.tags + length (added m.end m.pending piece)
    counted c q =
        let k : length (m.pending ++ piece) ≡ length m.pending + length piece = length-append m.pending piece in
        subst (λ v. m.count + length piece ≡ m.block * length m.tags + length (added v m.pending piece)) (sym q)
        (omega (arith, r.counted c q))

pub room_shut : (m : Stream) → HasRoom m → HasRoom (shut m)
room_shut m r = record { some = r.some; few = r.few; counted = λ o e. absurd (true≢false o) }

-- While a stream is open, only a whole block may be sent.
pub open_due : (m : Stream) → m.closed ≡ false → has_part m ≡ true → m.block ≤ length m.pending
open_due m o h = elim (due m h) [ Whole l ↦ l | Last l c k ↦ absurd (true≢false (sym c ∙ o)) ]

pub is_due : (m : Stream) → m.block ≤ length m.pending → has_part m ≡ true
is_due m l = ap (λ b. b || (m.closed && (has_some m.pending || not (has_some m.tags)))) (at_most_so m.block (length m.pending) l)

pub longer : (n : ℕ) (xs ys : List ℕ) → n ≤ length xs → n ≤ length (xs ++ ys)
longer n xs ys l = let k : length (xs ++ ys) ≡ length xs + length ys = length-append xs ys in omega arith

module _ (m : Stream) (s : Scene) (repeated : Bool) (bytes : List ℕ) (unclosed : m.closed ≡ false) (h : Holds m s repeated bytes) where
  -- the same if no fault came
  abbrev longer_by : List ℕ → Stream
  longer_by piece = record {
    mode = m.mode;
    bucket = m.bucket;
    key = m.key;
    block = m.block;
    pending = m.pending ++ piece;
    upload =
        m.upload;
    tags = m.tags;
    count = m.count + length piece;
    closed = m.closed;
    end = m.end;
  }

  fills_wrote : (c : BucketContent) (id : ℕ) (piece : List ℕ) → Fills m c id repeated bytes
      → Fills (longer_by piece) c id repeated (bytes ++ piece)
  fills_wrote c id piece f = record {
    sent = f.sent;
    parts = elim f.parts [
      | inl p ↦ inl p
      | inr p ↦
          let l = open_due m unclosed p.1 in
          inr (
            p.0,
            is_due (longer_by piece) (longer m.block m.pending piece l),
            subst (λ x. HasParts c id m.key (f.sent ++ x ∷ []))
                (sym (take-append-le m.block m.pending piece l)) p.2,
          )
    ];
    joined = ap (λ l. l ++ piece) f.joined ∙ append_assoc (concat f.sent) m.pending piece;
    tags = f.tags;
    cut = elim f.cut [
      | inl l ↦ inl l
      | inr k ↦ absurd (true≢false (sym k.0 ∙ unclosed))
    ];
  }

  open_unsettled : (piece : List ℕ) → is_settled (longer_by piece) ≡ false
  open_unsettled piece = ap (λ b. b && (not (is_direct m.mode) && not (has_part (longer_by piece)))) unclosed

  wrote_in : (c : BucketContent) (piece : List ℕ) (e : Option StreamEnd) (u : Option ℕ) → m.end ≡ e → m.upload ≡ u
      → HoldsIn e u m c repeated bytes → HoldsIn (wrote m piece).end (wrote m piece).upload (wrote m piece) c repeated (bytes ++ piece)
  wrote_in c piece e u h g f = grind (arith, held_from, fills_wrote, open_unsettled)

  -- a piece that is written is held too
  pub holds_wrote : (piece : List ℕ) → (m.count + length piece) ≤ m.block * 10000 → Holds (wrote m piece) s repeated (bytes ++ piece)
  holds_wrote piece l =
      holds_of (wrote m piece) s repeated (bytes ++ piece) h.content (record { there = h.there; least = h.least })
      (room_wrote m piece unclosed l h.room)
      (wrote_in h.content piece m.end m.upload refl refl h.held)

  fills_shut : (c : BucketContent) (id : ℕ) → Fills m c id repeated bytes → Fills (shut m) c id repeated bytes
  fills_shut c id h = grind arith

  close_in : (e : Option StreamEnd) (u : Option ℕ) → m.end ≡ e → m.upload ≡ u → HoldsIn e u m h.content repeated bytes
      → Holds (closed_by e m) s repeated bytes
  close_in None None p q i =
      let z : is_settled (shut m) ≡ false = unsettled (shut m) (first_part (shut m) refl i.1) in
      subst (λ b. Holds (cond b (ended (shut m) Done) (shut m)) s repeated bytes) (sym z)
      (holds_of (shut m) s repeated bytes h.content (record { there = h.there; least = h.least }) (room_shut m h.room)
      (held_from (shut m) h.content repeated bytes None None p q i))
  close_in None (Some id) p q (inl f) = settle (shut m) s h.content id repeated bytes p q (record { there = h.there; least = h.least })
      (room_shut m h.room) (fills_shut h.content id f.0)
  close_in None (Some id) p q (inr x) = absurd (true≢false (sym x.closed ∙ unclosed))
  close_in (Some Done) u p q i = absurd (true≢false (sym i.0 ∙ unclosed))
  close_in (Some Gone) u p q i = absurd i
  close_in (Some StoreFault) u p q i = holds_of (shut m) s repeated bytes h.content (record { there = h.there; least = h.least })
      (room_shut m h.room) (held_from (shut m) h.content repeated bytes (Some StoreFault) u p q tt)
  close_in (Some NoMemory) u p q i = holds_of (shut m) s repeated bytes h.content (record { there = h.there; least = h.least })
      (room_shut m h.room) (held_from (shut m) h.content repeated bytes (Some NoMemory) u p q tt)

  -- the close keeps what is held
  pub holds_close : Holds (close m) s repeated bytes
  holds_close = close_in m.end m.upload refl refl h.held
