-- What a write and the close keep.
use Rattle.block_stream.proofs.Grown.{holds_close, holds_wrote, is_due, longer, open_due}
use Rattle.block_stream.proofs.KeepingLaws.{asks_alive, unsettled}
use Rattle.block_stream.specs.Holds.{Holds}
use Rattle.block_stream.specs.Kept.{seen}
use Rattle.block_stream.specs.Stream.{Stream, added, asks, asks_with, close, closed_by, ended, fresh, has_part, id_of, is_direct, is_small}
use Rattle.block_stream.specs.Stream.{shut, stage_of, wanted, wrote}
use Rattle.block_stream.specs.declared.mode.StreamEnd.TheVariants.{Done}
use Rattle.block_stream.specs.declared.mode.StreamMode.{StreamMode}
use Rattle.block_stream.specs.declared.stage.StreamStage.{StreamStage}
use Rattle.block_stream.specs.declared.stage.StreamStage.TheVariants.{Beginning, Sending}
use Rattle.s3_types.specs.Store.{BucketContent, Scene}
use Rattle.s3_types.specs.Tags.{Spelled}
use Rattle.s3_types.specs.declared.request.Request.{Request}
use Rattle.std.proofs.Common.{ap, arith, refl, subst, sym, ◌∙◌}
use Rattle.std.proofs.lemmas.Bool.{and_right}
use Rattle.std.proofs.lemmas.List.{take-append-le}
use Rattle.std.specs.Prelude.{Bool, IsSome, List, None, Option, Some, cond, false, is_some, length, nat_lt, take, true, ℕ, [], ◌&&◌, ◌*◌}
use Rattle.std.specs.Prelude.{◌++◌, ◌+◌, ◌≡◌, ◌≤◌}
use Rattle.std.specs.FinMap as fin

-- ---- what is held

no_parts : (n : ℕ) → n * 0 + 0 ≡ 0
no_parts n = grind arith

-- A stream that was just made holds no bytes.
fresh_holds : (mode : StreamMode) (bucket key : List ℕ) (n : ℕ) (s : Scene) (c : BucketContent) → 1 ≤ n
    → fin.get s.content.buckets bucket ≡ Some c → s.content.minimum ≤ n → Holds (fresh mode bucket key n) s false []
fresh_holds mode bucket key n s c some there least =
    let few : n * 0 + 0 ≤ n * 10000 = omega (arith, no_parts n) in
    record {
      content = c;
      there = there;
      least = least;
      room = record { some = some; few = few; counted = λ o e. sym (no_parts n) };
      held = (refl, refl);
    }

pub start_holds : (mode : StreamMode) (bucket key : List ℕ) (n : ℕ) (q : List (List ℕ)) (r : List ℕ) (tags : List Spelled) → q ≡ [] → r ≡ []
    → tags ≡ [] → (s : Scene) (c : BucketContent) → 1 ≤ n → fin.get s.content.buckets bucket ≡ Some c → s.content.minimum ≤ n
    → Holds (seen mode bucket key n q r None tags 0 false None) s false []
start_holds mode bucket key n q r tags hq hr ht s c some there least =
    rw (hq, hr, ht) (fresh_holds mode bucket key n s c some there least)

pub holds_written : (m m' : Stream) (piece : List ℕ) → m.closed ≡ false → m' ≡ wrote m piece → m.count + length piece ≤ m.block * 10000
    → (s : Scene) (repeated : Bool) (bytes : List ℕ) → Holds m s repeated bytes → Holds m' s repeated (bytes ++ piece)
holds_written m m' piece o e l s b bytes h = subst (λ v. Holds v s b (bytes ++ piece)) (sym e) (holds_wrote m s b bytes o h piece l)

pub holds_closed : (m m' : Stream) → m.closed ≡ false → m' ≡ close m → (s : Scene) (repeated : Bool) (bytes : List ℕ)
    → Holds m s repeated bytes → Holds m' s repeated bytes
holds_closed m m' o e s b bytes h = subst (λ v. Holds v s b bytes) (sym e) (holds_close m s b bytes o h)

-- ---- the request

-- An open stream with a request has a part to send.
part_due : (m : Stream) → m.closed ≡ false → (r : Request) → wanted m ≡ Some r → has_part m ≡ true
part_due m h r g = grind arith

-- After the end the close changes nothing else.
pub shut_ended : (m : Stream) → is_some m.end ≡ true → shut m ≡ close m
shut_ended m h = (elim m.end as (λ e. is_some e ≡ true → shut m ≡ closed_by e m) [ Some e ↦ λ h. refl | None ↦ λ h. absurd (cc) ]) h

-- the stage of a stream with a part to send
abbrev sends : Option ℕ → StreamStage
sends None = Beginning
sends (Some id) = Sending

due_stage : (u : Option ℕ) (m : Stream) → is_small m ≡ false → has_part m ≡ true → stage_of None u m ≡ sends u
due_stage u m h g = grind arith

due_wanted : (m : Stream) → m.end ≡ None → is_small m ≡ false → has_part m ≡ true → wanted m ≡ asks (sends m.upload) m
due_wanted m e s p = ap (λ v. asks (stage_of v m.upload m) m) e ∙ ap (λ g. asks g m) (due_stage m.upload m s p)

open_not_small : (m : Stream) → m.closed ≡ false → is_small m ≡ false
open_not_small m o = ap (λ b. is_direct m.mode && (b && nat_lt (length m.pending) m.block)) o ∙ and_right (is_direct m.mode) false refl

large_not_small : (m : Stream) → m.block ≤ length m.pending → is_small m ≡ false
large_not_small m h = grind arith

-- With more bytes pending, or after the close, the request is the same.
wrote_asked : (m : Stream) (piece : List ℕ) → m.closed ≡ false → (r : Request) → wanted m ≡ Some r → wanted (wrote m piece) ≡ wanted m
wrote_asked m piece o r w =
    let e = asks_alive m r w in
    let d = part_due m o r w in
    let l = open_due m o d in
    let new : Stream = record {
      mode = m.mode;
      bucket = m.bucket;
      key = m.key;
      block = m.block;
      pending = m.pending ++ piece;
      upload =
          m.upload;
      tags = m.tags;
      count = m.count + length piece;
      closed = m.closed;
      end = m.end;
    } in
    let is : wrote m piece ≡ new = ap (λ v. record {
      mode = m.mode;
      bucket = m.bucket;
      key = m.key;
      block = m.block;
      pending = added v
          m.pending piece;
      upload = m.upload;
      tags = m.tags;
      count = m.count + length piece;
      closed = m.closed;
      end = m.end;
    }) e in
    ap wanted is
    ∙ due_wanted new e (open_not_small new o) (is_due new (longer m.block m.pending piece l))
    ∙ sym (by m.upload (take-append-le m.block m.pending piece l))
    ∙ sym (due_wanted m e (open_not_small m o) d)
  where
    by : (u : Option ℕ) → take m.block (m.pending ++ piece) ≡ take m.block m.pending
        → asks (sends u) m ≡ asks (sends u) (record {
          mode = m.mode;
          bucket = m.bucket;
          key = m.key;
          block = m.block;
          pending = m.pending ++
              piece;
          upload = m.upload;
          tags = m.tags;
          count = m.count + length piece;
          closed = m.closed;
          end = m.end;
        })
    by None h = refl
    by (Some id) h = ap (λ x. asks_with Sending m.bucket m.key (id_of m) m.tags x) (sym h)

close_asked : (m : Stream) → m.closed ≡ false → (r : Request) → wanted m ≡ Some r → wanted (close m) ≡ wanted m
close_asked m o r w =
    let e = asks_alive m r w in
    let d = part_due m o r w in
    let l = open_due m o d in
    let p : has_part (shut m) ≡ true = is_due (shut m) l in
    let is : close m ≡ shut m = ap (λ v. closed_by v m) e ∙ ap (λ b. cond b (ended (shut m) Done) (shut m)) (unsettled (shut m) p) in
    ap wanted is ∙ due_wanted (shut m) e (large_not_small (shut m) l) p ∙ sym (by m.upload) ∙ sym (due_wanted m e (open_not_small m o) d)
  where
    by : (u : Option ℕ) → asks (sends u) m ≡ asks (sends u) (shut m)
    by None = refl
    by (Some id) = refl

of_some : (m m' : Stream) (v : Option Request) → wanted m ≡ v → ((r : Request) → wanted m ≡ Some r → wanted m' ≡ wanted m) → IsSome v
    → wanted m' ≡ wanted m
of_some m m' v h g e = grind arith

pub asked_written : (m m' : Stream) (piece : List ℕ) → m.closed ≡ false → m' ≡ wrote m piece → IsSome (wanted m) → wanted m' ≡ wanted m
asked_written m m' piece o e h = ap wanted e ∙ of_some m (wrote m piece) (wanted m) refl (wrote_asked m piece o) h

pub asked_closed : (m m' : Stream) → m.closed ≡ false → m' ≡ close m → IsSome (wanted m) → wanted m' ≡ wanted m
asked_closed m m' o e h = ap wanted e ∙ of_some m (close m) (wanted m) refl (close_asked m o) h
