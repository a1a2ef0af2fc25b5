-- Laws of an upload that is being filled: its parts, its room, and what holds after all was sent. Contracts cite none of them.
use Rattle.text_and_lists.proofs.Bools.{not_so}
use Rattle.text_and_lists.proofs.Lists.{one_longer}
use Rattle.text_and_lists.proofs.Tree.{insert_same}
use Rattle.text_and_lists.specs.Order.{text_eq, text_equiv, text_total}
use Rattle.block_stream.proofs.PartLaws.{get_same, last_stands, numbered_more}
use Rattle.block_stream.specs.Holds.{AreBlocks, AreLong, Fills, HasParts, HasRoom, Holds, HoldsIn, IsUpload, IsUploadOf, IsWritten}
use Rattle.block_stream.specs.Holds.{numbered}
use Rattle.block_stream.specs.Stream.{Stream, begin_or_wait, begun, chunk, complete_or_wait, ended, has_part, has_some, id_of, is_direct}
use Rattle.block_stream.specs.Stream.{is_settled, is_small, parted, settled, stage, stage_of}
use Rattle.block_stream.specs.declared.mode.StreamEnd.{StreamEnd}
use Rattle.block_stream.specs.declared.mode.StreamEnd.TheVariants.{Done}
use Rattle.block_stream.specs.declared.mode.StreamMode.{StreamMode}
use Rattle.block_stream.specs.declared.stage.StreamStage.{StreamStage}
use Rattle.block_stream.specs.declared.stage.StreamStage.TheVariants.{Beginning, Completing, Putting, Sending}
use Rattle.s3_types.specs.Answer.{answer, answer_at, answer_in, apply, apply_at, apply_in, bucket_of, part_put}
use Rattle.s3_types.specs.Multipart.{is_part_number, live, with_key, with_part}
use Rattle.s3_types.specs.Store.{BucketContent, Content, Scene, Upload}
use Rattle.s3_types.specs.Tags.{Spelled, plain_tag}
use Rattle.s3_types.specs.declared.request.Request.{Request}
use Rattle.s3_types.specs.declared.request.Request.TheVariants.{UploadPart}
use Rattle.std.proofs.Common.{ap, arith, inl, inr, length-drop, refl, subst, sym, true≢false, ◌∙◌}
use Rattle.std.proofs.lemmas.Bool.{and_parts}
use Rattle.std.proofs.lemmas.Bool.Decides.{nat_tests}
use Rattle.std.proofs.lemmas.List.{append-nil, drop_all, length-map}
use Rattle.std.proofs.lemmas.Map.Lookups.{exact_unsigned}
use Rattle.std.proofs.lemmas.Option.{none-some}
use Rattle.std.specs.Cmp.{nat_cmp_total}
use Rattle.std.specs.List.{concat}
use Rattle.std.specs.Prelude.{Bool, List, None, Option, Some, cond, drop, false, length, map, not, true, ℕ, [], ◌&&◌, ◌*◌, ◌++◌, ◌+◌, ◌-◌}
use Rattle.std.specs.Prelude.{◌<◌, ◌∷◌, ◌≡◌, ◌≤◌, ◌⊎◌}
use Rattle.std.specs.FinMap as fin

-- ---- what a stage shows

abbrev pub AtStage : StreamStage → Stream → Type 0
AtStage Putting m = (m.end ≡ None) × (m.upload ≡ None) × (is_small m ≡ true)
AtStage Beginning m = (m.end ≡ None) × (m.upload ≡ None) × (has_part m ≡ true)
AtStage Sending m = (m.end ≡ None) × (m.upload ≡ Some (id_of m)) × (has_part m ≡ true)
AtStage Completing m = (m.end ≡ None) × (m.upload ≡ Some (id_of m)) × (has_part m ≡ false) × (m.closed ≡ true)
AtStage _ m = Unit {0}

at_first : (m : Stream) → m.end ≡ None → m.upload ≡ None → (a b : Bool) → is_small m ≡ a → has_part m ≡ b
    → AtStage (cond a Putting (begin_or_wait b)) m
at_first m h g a b e f = grind arith

at_later : (m : Stream) → m.end ≡ None → m.upload ≡ Some (id_of m) → (a b : Bool) → has_part m ≡ a → m.closed ≡ b
    → AtStage (cond a Sending (complete_or_wait b)) m
at_later m h g a b e f = grind arith

at_by : (e : Option StreamEnd) (u : Option ℕ) (m : Stream) → m.end ≡ e → m.upload ≡ u → AtStage (stage_of e u m) m
at_by e u m h g = grind (arith, at_first, at_later)

pub at_stage : (m : Stream) → AtStage (stage m) m
at_stage m = at_by m.end m.upload m refl refl

-- ---- the bucket that is written to

-- What a request leaves of a bucket that exists.
bucket_after : (c : Content) (b : BucketContent) (r : Request) (o : Option BucketContent) → o ≡ Some b
    → fin.get (apply_at o c r).buckets (bucket_of r) ≡ Some (apply_in b c.next c.minimum r)
bucket_after c b r o h = ap (λ o. fin.get (apply_at o c r).buckets (bucket_of r)) h ∙ get_same text_total c.buckets (bucket_of r)
    (apply_in b c.next c.minimum r)

minimum_after : (c : Content) (r : Request) (o : Option BucketContent) → (apply_at o c r).minimum ≡ c.minimum
minimum_after c r o = grind arith

-- A request to the store that names the stream's bucket.
pub record IsStoreRequest (r : Request) (bucket : List ℕ) (s : Scene) : Type 0 where
  pub names : bucket_of r ≡ bucket
  pub applied : (apply s r).content ≡ apply_at (fin.get s.content.buckets (bucket_of r)) s.content r
  pub answered : answer s r ≡ answer_at (fin.get s.content.buckets (bucket_of r)) s.content.next s.content.minimum r

-- The scene has the stream's bucket, and a least part that fits.
pub record IsPlace (bucket : List ℕ) (block : ℕ) (s : Scene) (c : BucketContent) : Type 0 where
  pub there : fin.get s.content.buckets bucket ≡ Some c
  pub least : s.content.minimum ≤ block

-- A request leaves the bucket there, and is answered from it.
pub sent_to : (bucket : List ℕ) (block : ℕ) (s : Scene) (r : Request) (c : BucketContent) → IsStoreRequest r bucket s
    → IsPlace bucket block s c
    → IsPlace bucket block (apply s r) (apply_in c s.content.next s.content.minimum r)
    × (answer s r ≡ answer_in c s.content.next s.content.minimum r)
sent_to bucket block s r c h g = grind (arith, bucket_after, minimum_after)

-- ---- arithmetic of the room

few_parts : (k n p : ℕ) → 1 ≤ k → k * n + p ≤ k * 10000 → 0 < p → n < 10000
few_parts k n p h l q = grind arith

room_block : (k n p : ℕ) → k * n + p ≤ k * 10000 → k ≤ p → k * (n + 1) + (p - k) ≤ k * 10000
room_block k n p h g = grind arith

same_count : (k n p : ℕ) → k ≤ p → k * n + p ≡ k * (n + 1) + (p - k)
same_count k n p h = grind arith

room_last : (k n : ℕ) → n < 10000 → k * (n + 1) + 0 ≤ k * 10000
room_last k n h = grind arith

pub is_number : (n : ℕ) → n < 10000 → is_part_number (n + 1) ≡ true
is_number n h = grind (arith, nat_tests)

-- ---- a part to send

-- The next part is a whole block, or the last one of a closed stream.
pub data Due (m : Stream) : Type 0 where
  Whole : m.block ≤ length m.pending → Due m
  Last : length m.pending < m.block → m.closed ≡ true → (0 < length m.pending) ⊎ (m.tags ≡ []) → Due m

pub due : (m : Stream) → has_part m ≡ true → Due m
due m h = grind arith

pub due_number : (m : Stream) → HasRoom m → Due m → length m.tags < 10000
due_number m h g = grind arith

-- What holds of an output that is put at once.
pub small_parts : (m : Stream) → is_small m ≡ true → (is_direct m.mode ≡ true) × (m.closed ≡ true) × (length m.pending < m.block)
small_parts m h = grind arith

longer_tags : (m : Stream) (t : Spelled) → length (parted m t).tags ≡ length m.tags + 1
longer_tags m t = one_longer m.tags t

pub room_after : (m : Stream) (t : Spelled) → HasRoom m → Due m → HasRoom (parted m t)
room_after m t r (Whole l) = record {
  some = r.some;
  few = subst (λ n. m.block * n + length (drop m.block m.pending) ≤ m.block * 10000) (sym (longer_tags m t))
      (subst (λ n. m.block * (length m.tags + 1) + n ≤ m.block * 10000) (sym (length-drop m.block m.pending))
      (room_block m.block (length m.tags) (length m.pending) r.few l));
  counted = λ o e. r.counted o e ∙ same_count m.block (length m.tags) (length m.pending) l
      ∙ ap (λ n. m.block * (length m.tags + 1) + n) (sym (length-drop m.block m.pending))
      ∙ ap (λ n. m.block * n + length (drop m.block m.pending)) (sym (longer_tags m t));
}
room_after m t r (Last l c k) =
    let small : length m.pending ≤ m.block = omega arith in
    record {
      some = r.some;
      few = subst (λ n. m.block * n + length (drop m.block m.pending) ≤ m.block * 10000) (sym (longer_tags m t))
          (subst (λ (p : List ℕ). m.block * (length m.tags + 1) + length p ≤ m.block * 10000) (sym (drop_all m.block m.pending small))
          (room_last m.block (length m.tags) (due_number m r (Last l c k))));
      counted = λ o e. absurd (true≢false (sym c ∙ o));
    }

pub room_ended : (m : Stream) (e : StreamEnd) → HasRoom m → HasRoom (ended m e)
room_ended m e r = record { some = r.some; few = r.few; counted = λ o n. absurd (none-some e (sym n)) }

pub room_begun : (m : Stream) (id : ℕ) → HasRoom m → HasRoom (begun m id)
room_begun m id r = record { some = r.some; few = r.few; counted = r.counted }

-- ---- parts in the upload

pub live_is : {c : BucketContent} {id : ℕ} {key : List ℕ} {bs : List (List ℕ)} (h : HasParts c id key bs)
    → live c.uploads key id ≡ Some h.upload
live_is {key = key} h = ap (with_key key) h.there ∙ ap (λ k. cond (text_eq k key) (Some h.upload) None) h.its_key ∙ ap
    (λ b. cond b (Some h.upload) None) (text_equiv.refl key)

parts_sent : (c : BucketContent) (id next minimum n : ℕ) (bucket key x : List ℕ) (bs cs : List (List ℕ)) (h : HasParts c id key bs)
    → is_part_number n ≡ true
    → fin.insert (numbered bs) n x ≡ numbered cs
    → HasParts (apply_in c next minimum (UploadPart bucket key id n x)) id key cs
parts_sent c id next minimum n bucket key x bs cs h k e =
    subst (λ v. HasParts v id key cs)
    (sym (ap (λ o. record { objects = c.objects; uploads = part_put c.uploads id o n x }) (live_is h)
    ∙ ap (λ b. record { objects = c.objects; uploads = cond b (fin.insert c.uploads id (with_part h.upload n x)) c.uploads }) k))
    (record {
      upload = with_part h.upload n x;
      there = get_same nat_cmp_total c.uploads id (with_part h.upload n x);
      its_key = h.its_key;
      parts = ap (λ m. fin.insert m n x) h.parts ∙ e;
    })

one_more : (bs : List (List ℕ)) (n : ℕ) (x : List ℕ) → n ≡ length bs → fin.insert (numbered bs) (n + 1) x ≡ numbered (bs ++ x ∷ [])
one_more bs n x e = ap (λ k. fin.insert (numbered bs) (k + 1) x) e ∙ sym (numbered_more 1 fin.empty bs x)

the_same : (bs : List (List ℕ)) (n : ℕ) (x : List ℕ) → n ≡ length bs
    → fin.insert (numbered (bs ++ x ∷ [])) (n + 1) x ≡ numbered (bs ++ x ∷ [])
the_same bs n x e = ap (λ k. fin.insert (numbered (bs ++ x ∷ [])) (k + 1) x) e ∙ insert_same nat_cmp_total exact_unsigned
    (numbered (bs ++ x ∷ [])) (length bs + 1) x (last_stands bs x)

-- The part is there after it was sent, even if it was sent again.
pub sent_now : (m : Stream) (c : BucketContent) (id next minimum : ℕ) (repeated : Bool) (bytes : List ℕ) (f : Fills m c id repeated bytes)
    → length m.tags < 10000
    → HasParts (apply_in c next minimum (UploadPart m.bucket m.key id (length m.tags + 1) (chunk m))) id m.key (f.sent ++ chunk m ∷ [])
sent_now m c id next minimum repeated bytes f few =
    let n : length m.tags ≡ length f.sent = ap length f.tags ∙ length-map f.sent plain_tag in
    let put = λ (bs : List (List ℕ)) (h : HasParts c id m.key bs). parts_sent c id next minimum (length m.tags + 1) m.bucket m.key (chunk m)
    bs (f.sent ++ chunk m ∷ []) h
    (is_number (length m.tags) few) in
    elim f.parts [
      | inl h ↦ put f.sent h (one_more f.sent (length m.tags) (chunk m) n)
      | inr k ↦ put (f.sent ++ chunk m ∷ []) k.2 (the_same f.sent (length m.tags) (chunk m) n)
    ]

pub live_now : (m : Stream) (c : BucketContent) (id : ℕ) (repeated : Bool) (bytes : List ℕ) (f : Fills m c id repeated bytes) → (u : Upload)
    × (live c.uploads m.key id ≡ Some u)
live_now m c id repeated bytes f = elim f.parts [ inl h ↦ (h.upload, live_is h) | inr k ↦ (k.2.upload, live_is k.2) ]

-- ---- all was sent

pub nothing_due : (m : Stream) → 1 ≤ m.block → m.pending ≡ [] → has_some m.tags ≡ true → has_part m ≡ false
nothing_due m h g e = grind arith

pub all_sent : (m : Stream) → has_part m ≡ false → m.closed ≡ true → (m.pending ≡ []) × (has_some m.tags ≡ true)
all_sent m h g = grind arith

has_mapped : (bs : List (List ℕ)) → has_some (map plain_tag bs) ≡ true → 0 < length bs
has_mapped [] h = absurd (cc)
has_mapped (b ∷ bs) h = omega arith

-- If no block is short, the last one is not empty.
are_blocks : (n : ℕ) (bs : List (List ℕ)) → 1 ≤ n → 0 < length bs → AreLong n bs → (k : AreBlocks n bs) × (0 < length k.last)
are_blocks n [] l p h = absurd (omega (arith, p))
are_blocks n (b ∷ []) l p h =
    let s : 0 < length b = omega (arith, h.0, l) in
    let k : length b ≤ n = omega (arith, h.0) in
    (record { front = []; last = b; are = refl; long = tt; short = k; some = inl s }, s)
are_blocks n (b ∷ c ∷ bs) l p h =
    let k = are_blocks n (c ∷ bs) l (omega arith) h.1 in (
      record {
        front = b ∷ k.0.front;
        last = k.0.last;
        are = ap (λ l. b ∷ l) k.0.are;
        long = (h.0, k.0.long);
        short = k.0.short;
        some = inl
            k.1;
      },
      k.1,
    )

-- What a filled upload has after all was sent.
pub full : (m : Stream) (c : BucketContent) (id : ℕ) (repeated : Bool) (bytes : List ℕ) → HasRoom m → has_part m ≡ false → m.closed ≡ true
    → Fills m c id repeated bytes → IsUpload m c id bytes
full m c id repeated bytes r n o f =
    let a = all_sent m n o in
    let some : 0 < length f.sent = has_mapped f.sent (ap has_some (sym f.tags) ∙ a.1) in
    record {
      sent = f.sent;
      parts = elim f.parts [
        | inl h ↦ h
        | inr k ↦ absurd (true≢false (sym k.1 ∙ n))
      ];
      joined = f.joined ∙ ap (λ p. concat f.sent ++ p) a.0 ∙ append-nil (concat f.sent);
      blocks = elim f.cut [
        | inl h ↦ (are_blocks m.block f.sent r.some some h).0
        | inr k ↦ k.3
      ];
      tags = f.tags;
    }

-- ---- a delayed output that is done

delayed_written : (mode : StreamMode) (m : Stream) (c : BucketContent) (bytes : List ℕ) → is_direct mode ≡ false
    → IsUploadOf m.upload m c bytes → IsWritten mode m c bytes
delayed_written mode m c bytes h g = grind arith

pub direct_written : (mode : StreamMode) (m : Stream) (c : BucketContent) (bytes : List ℕ) → is_direct mode ≡ true
    → fin.get c.objects m.key ≡ Some (record { bytes = bytes; header = None }) → IsWritten mode m c bytes
direct_written mode m c bytes h g = grind arith

-- What holds of a stream that goes on, and of one that is done, holds of it after `settled`.
pub settled_by : (P : Stream → Type 0) (m : Stream) → P (ended m Done) → P m → P (settled m)
settled_by P m e h = elim (is_settled m) as (λ z. P (cond z (ended m Done) m)) [ true ↦ e | false ↦ h ]

-- What is held, given the end and the upload of the stream.
pub held_at : (m : Stream) (c : BucketContent) (repeated : Bool) (bytes : List ℕ) (e : Option StreamEnd) (u : Option ℕ) → m.end ≡ e
    → m.upload ≡ u → HoldsIn m.end m.upload m c repeated bytes → HoldsIn e u m c repeated bytes
held_at m c repeated bytes e u p q h = subst (λ v. HoldsIn e v m c repeated bytes) q
    (subst (λ v. HoldsIn v m.upload m c repeated bytes) p h)

pub held_from : (m : Stream) (c : BucketContent) (repeated : Bool) (bytes : List ℕ) (e : Option StreamEnd) (u : Option ℕ) → m.end ≡ e
    → m.upload ≡ u → HoldsIn e u m c repeated bytes → HoldsIn m.end m.upload m c repeated bytes
held_from m c repeated bytes e u p q h = subst (λ v. HoldsIn v m.upload m c repeated bytes) (sym p)
    (subst (λ v. HoldsIn e v m c repeated bytes) (sym q) h)

pub holds_of : (m : Stream) (s : Scene) (repeated : Bool) (bytes : List ℕ) (c : BucketContent) → IsPlace m.bucket m.block s c → HasRoom m
    → HoldsIn m.end m.upload m c repeated bytes → Holds m s repeated bytes
holds_of m s repeated bytes c p r h = record { content = c; there = p.there; least = p.least; room = r; held = h }

pub place_of : {m : Stream} {s : Scene} {repeated : Bool} {bytes : List ℕ} (h : Holds m s repeated bytes)
    → IsPlace m.bucket m.block s h.content
place_of h = record { there = h.there; least = h.least }

pub settle : (m : Stream) (s : Scene) (c : BucketContent) (id : ℕ) (repeated : Bool) (bytes : List ℕ) → m.end ≡ None → m.upload ≡ Some id
    → IsPlace m.bucket m.block s c → HasRoom m → Fills m c id repeated bytes → Holds (settled m) s repeated bytes
settle m s c id repeated bytes e u p r f =
    elim (is_settled m) as (λ z. is_settled m ≡ z → Holds (cond z (ended m Done) m) s repeated bytes) [
      | true ↦ λ z.
          let o = and_parts m.closed (not (is_direct m.mode) && not (has_part m)) z in
          let d = and_parts (not (is_direct m.mode)) (not (has_part m)) o.1 in
          let k = full m c id repeated bytes r (not_so (has_part m) d.1) o.0 f in
          holds_of (ended m Done) s repeated bytes c (record { there = p.there; least = p.least }) (room_ended m Done r) (
            o.0,
            delayed_written m.mode (ended m Done) c bytes (not_so (is_direct m.mode) d.0)
                (subst (λ v. IsUploadOf v (ended m Done) c bytes) (sym u) (record
                { sent = k.sent; parts = k.parts; joined = k.joined; blocks = k.blocks; tags = k.tags })),
          )
      | false ↦ λ z. holds_of m s repeated bytes c p r (held_from m c repeated bytes None (Some id) e u (inl (f, z)))
    ] refl
