-- Laws of a stream that is driven alone: it holds what was written, whatever the store loses. Contracts cite none of them.
use Rattle.text_and_lists.proofs.Lists.{one_longer}
use Rattle.text_and_lists.specs.Order.{text_total}
use Rattle.block_stream.proofs.FillingLaws.{AtStage, Due, IsPlace, IsStoreRequest, Last, Whole, at_stage, direct_written, due, due_number}
use Rattle.block_stream.proofs.FillingLaws.{full, held_at, held_from, holds_of, is_number, live_is, live_now, nothing_due, place_of}
use Rattle.block_stream.proofs.FillingLaws.{room_after, room_begun, room_ended, sent_now, sent_to, settle, settled_by, small_parts}
use Rattle.block_stream.proofs.PartLaws.{completes, get_same}
use Rattle.block_stream.specs.Holds.{AreBlocks, AreLong, Fills, HasParts, HasRoom, Holds, HoldsIn, IsHidden}
use Rattle.block_stream.specs.Stream.{Stream, answers, asks, begun, chunk, ended, has_part, has_some, id_of, is_begun, is_direct}
use Rattle.block_stream.specs.Stream.{is_settled, is_small, left, left_by, one_if, parted, stage, stage_of, told, wanted}
use Rattle.block_stream.specs.declared.mode.StreamEnd.{StreamEnd}
use Rattle.block_stream.specs.declared.mode.StreamEnd.TheVariants.{Done, Gone, StoreFault}
use Rattle.block_stream.specs.declared.stage.StreamStage.{StreamStage}
use Rattle.block_stream.specs.declared.stage.StreamStage.TheVariants.{Beginning, Completing, Over, Putting, Sending, Waiting}
use Rattle.s3_types.specs.Answer.{answer, answer_in, apply, apply_in, complete_answer, completed, part_answer}
use Rattle.s3_types.specs.Blocks.{named_from}
use Rattle.s3_types.specs.Multipart.{joined, live, with_key}
use Rattle.s3_types.specs.Store.{BucketContent, Scene, Upload}
use Rattle.s3_types.specs.Tags.{Spelled, joined_tag, plain_tag}
use Rattle.s3_types.specs.declared.reply.Refusal.TheVariants.{NoSuchUpload}
use Rattle.s3_types.specs.declared.reply.Reply.{Reply}
use Rattle.s3_types.specs.declared.reply.Reply.TheVariants.{Completed, Part, Refused}
use Rattle.s3_types.specs.declared.request.NamedPart.{NamedPart}
use Rattle.s3_types.specs.declared.request.Request.{Request}
use Rattle.s3_types.specs.declared.request.Request.TheVariants.{CompleteUpload, CreateUpload, PutObject, UploadPart}
use Rattle.std.proofs.Common.{ap, append_assoc, arith, inl, inr, length-drop, refl, subst, sym, true≢false, ◌∙◌}
use Rattle.std.proofs.lemmas.List.{append-nil, drop_all, length-take-le, map-append, take-append-drop, take_all}
use Rattle.std.proofs.lemmas.List.Folds.{concat-append}
use Rattle.std.specs.Cmp.{eq_by_cmp_equiv, nat_cmp_total}
use Rattle.std.specs.FinMap.{get-remove}
use Rattle.std.specs.List.{concat}
use Rattle.std.specs.Prelude.{Bool, Err, List, None, Ok, Option, Some, cond, drop, false, length, map, not, true, ℕ, [], ◌&&◌, ◌++◌, ◌+◌}
use Rattle.std.specs.Prelude.{◌-◌, ◌<◌, ◌∷◌, ◌≡◌, ◌≤◌, ◌⊎◌}
use Rattle.std.specs.FinMap as fin

-- ---- what is known at each stage

-- If a part is to be sent, all sent parts are whole blocks.
all_long : (m : Stream) (c : BucketContent) (id : ℕ) (repeated : Bool) (bytes : List ℕ) → HasRoom m → has_part m ≡ true
    → (f : Fills m c id repeated bytes) → AreLong m.block f.sent
all_long m c id repeated bytes r d f =
    elim f.cut [
      | inl h ↦ h
      | inr k ↦ absurd (true≢false (sym d ∙ nothing_due m r.some k.1 (ap has_some f.tags ∙ has_mapped f.sent k.2)))
    ]
  where
    has_mapped : (bs : List (List ℕ)) → 0 < length bs → has_some (map plain_tag bs) ≡ true
    has_mapped [] h = let no : ⊥ = omega arith in absurd no
    has_mapped (b ∷ bs) h = refl

filling : (m : Stream) (c : BucketContent) (id : ℕ) (repeated : Bool) (bytes : List ℕ) → has_part m ≡ true
    → HoldsIn None (Some id) m c repeated bytes → Fills m c id repeated bytes × (is_settled m ≡ false)
filling m c id repeated bytes h g = grind arith

-- ---- the next part

pub long_more : (n : ℕ) (bs : List (List ℕ)) (x : List ℕ) → AreLong n bs → length x ≡ n → AreLong n (bs ++ x ∷ [])
long_more n [] x h e = (e, tt)
long_more n (b ∷ bs) x h e = (h.0, long_more n bs x h.1 e)

none_mapped : (bs : List (List ℕ)) → map plain_tag bs ≡ [] → bs ≡ []
none_mapped [] h = refl
none_mapped (b ∷ bs) h = absurd (cc)

cut_more : (m : Stream) (sent : List (List ℕ)) (t : Spelled) → AreLong m.block sent → m.tags ≡ map plain_tag sent → Due m
    → AreLong m.block (sent ++ chunk m ∷ []) ⊎ (((parted m t).closed ≡ true) × ((parted m t).pending ≡ [])
    × (0 < length (sent ++ chunk m ∷ [])) × AreBlocks m.block (sent ++ chunk m ∷ []))
cut_more m sent t l e (Whole h) = inl (long_more m.block sent (chunk m) l (length-take-le m.block m.pending h))
cut_more m sent t l e (Last h o k) =
    let small : length m.pending ≤ m.block = omega arith in
    let all : chunk m ≡ m.pending = take_all m.block m.pending small in
    let longer : 0 < length (sent ++ chunk m ∷ []) = omega (arith, one_longer sent (chunk m)) in
    inr (
      o,
      drop_all m.block m.pending small,
      longer,
      record {
        front = sent;
        last = chunk m;
        are = refl;
        long = l;
        short = subst (λ (p : List ℕ). length p ≤ m.block) (sym all) small;
        some = elim k [
          | inl p ↦ inl (subst (λ (q : List ℕ). 0 < length q) (sym all) p)
          | inr n ↦ inr (none_mapped sent (sym e ∙ n))
        ];
      },
    )

fills_more : (m : Stream) (c c' : BucketContent) (id : ℕ) (repeated : Bool) (bytes : List ℕ) (r : HasRoom m) (d : has_part m ≡ true)
    (f : Fills m c id repeated bytes)
    → HasParts c' id m.key (f.sent ++ chunk m ∷ []) → Fills (parted m (plain_tag (chunk m))) c' id false bytes
fills_more m c c' id repeated bytes r d f h = record {
  sent = f.sent ++ chunk m ∷ [];
  parts = inl h;
  joined = f.joined
      ∙ ap (λ p. concat f.sent ++ p) (sym (take-append-drop m.block m.pending))
      ∙ sym (append_assoc (concat f.sent) (chunk m) (drop m.block m.pending))
      ∙ ap (λ l. l ++ drop m.block m.pending) (ap (λ l. concat f.sent ++ l) (sym (append-nil (chunk m))) ∙ sym
      (concat-append f.sent (chunk m ∷ [])));
  tags = ap (λ l. l ++ plain_tag (chunk m) ∷ []) f.tags ∙ sym (map-append plain_tag f.sent (chunk m ∷ []));
  cut = cut_more m f.sent (plain_tag (chunk m)) (all_long m c id repeated bytes r d f) f.tags (due m d);
}

-- The same with its parts in another bucket content.
refilled : (m : Stream) (c d : BucketContent) (id : ℕ) (repeated : Bool) (bytes : List ℕ) (f : Fills m c id repeated bytes) (again : Bool)
    → HasParts d id m.key f.sent ⊎ ((again ≡ true) × (has_part m ≡ true) × HasParts d id m.key (f.sent ++ chunk m ∷ []))
    → Fills m d id again bytes
refilled m c d id repeated bytes f again p = record { sent = f.sent; parts = p; joined = f.joined; tags = f.tags; cut = f.cut }

-- ---- the completion

-- The tags that are named find their parts, and these joined are what was written.
joins : (m : Stream) (c : BucketContent) (id : ℕ) (repeated : Bool) (bytes : List ℕ) (minimum : ℕ) → minimum ≤ m.block → HasRoom m
    → has_part m ≡ false → m.closed ≡ true → Fills m c id repeated bytes
    → joined (live c.uploads m.key id) (named_from 1 m.tags) minimum ≡ Ok bytes
joins m c id repeated bytes minimum least r n o f =
    let k = full m c id repeated bytes r n o f in
    ap (λ u. joined u (named_from 1 m.tags) minimum) (live_is k.parts)
    ∙ ap (λ ts. joined (Some k.parts.upload) (named_from 1 ts) minimum) k.tags
    ∙ completes k.parts.upload k.sent m.block minimum k.parts.parts k.blocks least
    ∙ ap Ok (sym k.joined)

must_be_direct : (m : Stream) → is_settled m ≡ false → has_part m ≡ false → m.closed ≡ true → is_direct m.mode ≡ true
must_be_direct m z n o = (elim (is_direct m.mode) as (λ d. (m.closed && (not d && not (has_part m))) ≡ false → d ≡ true)
    [ true ↦ λ h. refl | false ↦ λ h. cc ]) z

gone_now : (c : BucketContent) (id : ℕ) (key : List ℕ) → live (fin.remove c.uploads id) key id ≡ None
gone_now c id key = ap (with_key key) (get-remove nat_cmp_total c.uploads id id ∙ ap (λ b. cond b None (fin.get c.uploads id))
    ((eq_by_cmp_equiv nat_cmp_total).refl id))

-- The reply to a completion: its tag, or, if it took effect before, that the upload does not exist.
pub data Ends (m : Stream) (repeated : Bool) (a : Reply) : Type 0 where
  Fresh : (t : Spelled) → a ≡ Completed t → Ends m repeated a
  Before : a ≡ Refused NoSuchUpload → repeated ≡ true → Ends m repeated a

-- What a bucket is after a completion, and the reply to it.
complete_now : (m : Stream) (c : BucketContent) (next minimum : ℕ) (repeated : Bool) (bytes : List ℕ) → minimum ≤ m.block → HasRoom m
    → has_part m ≡ false → m.closed ≡ true
    → (Fills m c (id_of m) repeated bytes × (is_settled m ≡ false)) ⊎ IsHidden m c (id_of m) repeated bytes
    → IsHidden m (apply_in c next minimum (CompleteUpload m.bucket m.key (id_of m) (named_from 1 m.tags))) (id_of m) true bytes
    × Ends m repeated (answer_in c next minimum (CompleteUpload m.bucket m.key (id_of m) (named_from 1 m.tags)))
complete_now m c next minimum repeated bytes least r n o (inl h) =
    let j = joins m c (id_of m) repeated bytes minimum least r n o h.0 in (
      subst (λ (v : BucketContent). IsHidden m v (id_of m) true bytes) (sym (ap (completed c m.key (id_of m)) j))
          (record {
            again = refl;
            closed = o;
            direct = must_be_direct m h.1 n o;
            no_part = n;
            gone = gone_now c (id_of m) m.key;
            there = get_same text_total c.objects m.key (record { bytes = bytes; header = None });
          }),
      Fresh (joined_tag (map (λ (p : NamedPart). p.tag) (named_from 1 m.tags))) (ap (complete_answer (named_from 1 m.tags)) j),
    )
complete_now m c next minimum repeated bytes least r n o (inr h) =
    let j : joined (live c.uploads m.key (id_of m)) (named_from 1 m.tags) minimum ≡ Err NoSuchUpload = ap
    (λ u. joined u (named_from 1 m.tags) minimum) h.gone in (
      subst (λ (v : BucketContent). IsHidden m v (id_of m) true bytes) (sym (ap (completed c m.key (id_of m)) j))
          (record { again = refl; closed = o; direct = h.direct; no_part = n; gone = h.gone; there = h.there }),
      Before (ap (complete_answer (named_from 1 m.tags)) j) h.again,
    )

-- ---- an effect whose reply is lost, and a reply that is taken

small_whole : (m : Stream) → is_small m ≡ true → chunk m ≡ m.pending
small_whole m h = grind (arith, small_parts, take_all)

-- If a part is to be sent, the stream is not settled.
pub unsettled : (m : Stream) → has_part m ≡ true → is_settled m ≡ false
unsettled m h = grind arith

-- ---- the number of requests that are left falls

-- While the stream goes on, something is left.
pub some_left : (m : Stream) → m.end ≡ None → 0 < left m
some_left m e = subst (λ v. 0 < left_by v m) (sym e) (omega arith)

pub left_begun : (m : Stream) (id : ℕ) → m.end ≡ None → m.upload ≡ None → left (begun m id) < left m
left_begun m id h g = grind arith

snoc_has : {X : Type 0} (xs : List X) (x : X) → has_some (xs ++ x ∷ []) ≡ true
snoc_has [] x = refl
snoc_has (y ∷ xs) x = refl

pub left_parted : (m : Stream) (t : Spelled) → 1 ≤ m.block → Due m → left_by None (parted m t) < left_by None m
left_parted m t some d = subst (λ b. 1 + (length (drop m.block m.pending) + (one_if (not (is_begun m.upload)) + one_if (not b))) < left_by
    None m) (sym (snoc_has m.tags t)) (by d)
  where
    by : Due m → 1 + (length (drop m.block m.pending) + (one_if (not (is_begun m.upload)) + 0)) < left_by None m
    by (Whole l) = let k : length (drop m.block m.pending) ≡ length m.pending - m.block = length-drop m.block m.pending in omega
        (arith, some)
    by (Last l c k) =
        let e : length (drop m.block m.pending) ≡ 0 = ap length (drop_all m.block m.pending (omega arith)) in
        elim k [
          | inl p ↦ omega arith
          | inr n ↦ let f : one_if (not (has_some m.tags)) ≡ 1 = ap (λ (ts : List Spelled). one_if (not (has_some ts))) n in omega arith
        ]

-- ---- at each stage

module _ (m : Stream) (s : Scene) (repeated : Bool) (bytes : List ℕ) (h : Holds m s repeated bytes) where
  -- the bucket after a request of the stream
  abbrev after : Request → BucketContent
  after r = apply_in h.content s.content.next s.content.minimum r

  -- if the request takes effect and its reply is lost, what was held is kept; its reply fits, and after it less is left
  record IsSent (g : StreamStage) (r : Request) : Type 0 where
    hidden : Holds m (apply s r) true bytes
    took : Holds (told g m repeated (answer s r)) (apply s r) false bytes
    fit : answers g (answer s r) ≡ true
    falls : left (told g m repeated (answer s r)) < left m

  abbrev Sent : StreamStage → Option Request → Type 0
  Sent g None = Unit {0}
  Sent g (Some r) = IsSent g r

  sent : (g : StreamStage) (r : Request) (a : Reply) → IsStoreRequest r m.bucket s
      → answer_in h.content s.content.next s.content.minimum r ≡ a
      → HoldsIn m.end m.upload m (after r) true bytes
      → (IsPlace m.bucket m.block (apply s r) (after r) → Holds (told g m repeated a) (apply s r) false bytes) → answers g a ≡ true
      → left (told g m repeated a) < left m
      → IsSent g r
  sent g r a k e i t f l =
      let p = sent_to m.bucket m.block s r h.content k (place_of h) in
      let c = sym (p.1 ∙ e) in
      record {
        hidden = holds_of m (apply s r) true bytes (after r) p.0 h.room i;
        took = subst (λ v. Holds (told g m repeated v) (apply s r) false bytes) c (t p.0);
        fit = ap (answers g) (sym c) ∙ f;
        falls = subst (λ v. left (told g m repeated v) < left m) c l;
      }

  -- it ended with all stored
  done_now : (s' : Scene) (c : BucketContent) → m.closed ≡ true → is_direct m.mode ≡ true
      → fin.get c.objects m.key ≡ Some (record { bytes = bytes; header = None })
      → IsPlace m.bucket m.block s' c → Holds (ended m Done) s' false bytes
  done_now s' c o d g p = holds_of (ended m Done) s' false bytes c p (room_ended m Done h.room)
      (o, direct_written m.mode (ended m Done) c bytes d g)

  each : (g : StreamStage) → AtStage g m → Sent g (asks g m)
  each Waiting k = tt
  each Over k = tt
  each Putting k =
      let r = PutObject m.bucket m.key (chunk m) None in
      let i = held_at m h.content repeated bytes None None k.0 k.1 h.held in
      let d = small_parts m k.2 in
      let whole : chunk m ≡ bytes = small_whole m k.2 ∙ sym i.0 in
      sent Putting r _ (record { names = refl; applied = refl; answered = refl }) refl
      (held_from m (after r) true bytes None None k.0 k.1 i)
      (done_now (apply s r) (after r) d.1 d.0 (get_same text_total h.content.objects m.key (record { bytes = chunk m; header = None })
      ∙ ap (λ v. Some (record { bytes = v; header = None })) whole))
      refl (some_left m k.0)
  each Beginning k =
      let r = CreateUpload m.bucket m.key in
      let i = held_at m h.content repeated bytes None None k.0 k.1 h.held in
      let id = s.content.next in
      let u : Upload = record { key = m.key; parts = fin.empty } in
      sent Beginning r _ (record { names = refl; applied = refl; answered = refl }) refl
      (held_from m (after r) true bytes None None k.0 k.1 i)
      (λ p. holds_of (begun m id) (apply s r) false bytes (after r) p (room_begun m id h.room)
      (held_from (begun m id) (after r) false bytes None (Some id) k.0 refl
      (inl (
        record {
          sent = [];
          parts = inl (record {
            upload = u;
            there = get_same nat_cmp_total h.content.uploads id u;
            its_key = refl;
            parts =
                refl;
          });
          joined = i.0;
          tags = i.1;
          cut = inl tt;
        },
        unsettled m k.2,
      ))))
      refl (left_begun m id k.0 k.1)
  each Sending k =
      let id = id_of m in
      let r = UploadPart m.bucket m.key id (length m.tags + 1) (chunk m) in
      let t = plain_tag (chunk m) in
      let f = filling m h.content id repeated bytes k.2 (held_at m h.content repeated bytes None (Some id) k.0 k.1 h.held) in
      let d = due m k.2 in
      let few = due_number m h.room d in
      let q = sent_now m h.content id s.content.next s.content.minimum repeated bytes f.0 few in
      sent Sending r (Part t) (record { names = refl; applied = refl; answered = refl })
      (ap (λ o. part_answer o (length m.tags + 1) (chunk m)) (live_now m h.content id repeated bytes f.0).1 ∙ ap
      (λ b. cond b (Part t) (Refused Rattle.s3_types.specs.declared.reply.Refusal.TheVariants.BadPartNumber))
      (is_number (length m.tags) few))
      (held_from m (after r) true bytes None (Some id) k.0 k.1 (inl
      (refilled m h.content (after r) id repeated bytes f.0 true (inr (refl, k.2, q)), f.1)))
      (λ p. settle (parted m t) (apply s r) (after r) id false bytes k.0 k.1 p (room_after m t h.room d)
      (fills_more m h.content (after r) id repeated bytes h.room k.2 f.0 q))
      refl (settled_by (λ v. left v < left m) (parted m t) (some_left m k.0) (subst (λ v. left_by v (parted m t) < left_by v m) (sym k.0)
      (left_parted m t h.room.some d)))
  each Completing k =
      let id = id_of m in
      let r = CompleteUpload m.bucket m.key id (named_from 1 m.tags) in
      let x = complete_now m h.content s.content.next s.content.minimum repeated bytes h.least h.room k.2 k.3
      (held_at m h.content repeated bytes None (Some id) k.0 k.1 h.held) in
      let i = held_from m (after r) true bytes None (Some id) k.0 k.1 (inr x.0) in
      let done = done_now (apply s r) (after r) k.3 x.0.direct x.0.there in
      elim x.1 [
        | Fresh t e ↦ sent Completing r (Completed t) (record { names = refl; applied = refl; answered = refl }) e i done refl
            (some_left m k.0)
        | Before e again ↦ sent Completing r (Refused NoSuchUpload) (record { names = refl; applied = refl; answered = refl }) e i
            (λ p. subst (λ b. Holds (ended m (cond b Done Gone)) (apply s r) false bytes) (sym again) (done p)) refl (some_left m k.0)
      ]

  all : (r : Request) → wanted m ≡ Some r → IsSent (stage m) r
  all r w = subst (Sent (stage m)) w (each (stage m) (at_stage m))

  pub hidden : (r : Request) → wanted m ≡ Some r → Holds m (apply s r) true bytes
  hidden r w = (all r w).hidden

  pub took : (r : Request) → wanted m ≡ Some r → Holds (told (stage m) m repeated (answer s r)) (apply s r) false bytes
  took r w = (all r w).took

pub fit : (m : Stream) (s : Scene) (repeated : Bool) (bytes : List ℕ) → Holds m s repeated bytes → (r : Request) → wanted m ≡ Some r
    → answers (stage m) (answer s r) ≡ true
fit m s repeated bytes h r w = (all m s repeated bytes h r w).fit

pub falls : (m : Stream) (s : Scene) (repeated : Bool) (bytes : List ℕ) → Holds m s repeated bytes → (r : Request) → wanted m ≡ Some r
    → left (told (stage m) m repeated (answer s r)) < left m
falls m s repeated bytes h r w = (all m s repeated bytes h r w).falls

-- After a lost request the next one is a repeated one.
pub lost : (m : Stream) (s : Scene) (repeated : Bool) (bytes : List ℕ) → Holds m s repeated bytes → Holds m s true bytes
lost m s repeated bytes h = holds_of m s true bytes h.content (place_of h) h.room (again m.end m.upload h.held)
  where
    again : (e : Option StreamEnd) (u : Option ℕ) → HoldsIn e u m h.content repeated bytes → HoldsIn e u m h.content true bytes
    again None None i = i
    again None (Some id) (inl f) = inl (
      refilled m h.content h.content id repeated bytes f.0 true
          (elim f.0.parts [ inl p ↦ inl p | inr p ↦ inr (refl, p.1, p.2) ]),
      f.1,
    )
    again None (Some id) (inr x) = inr (record {
      again = refl;
      closed = x.closed;
      direct = x.direct;
      no_part = x.no_part;
      gone = x.gone;
      there = x.there;
    })
    again (Some Done) u i = i
    again (Some e) u i = i

-- After a request that exhausted its retries nothing more is promised.
pub gave_up : (m : Stream) (s : Scene) (repeated : Bool) (bytes : List ℕ) → Holds m s repeated bytes
    → Holds (ended m StoreFault) s false bytes
gave_up m s repeated bytes h = holds_of (ended m StoreFault) s false bytes h.content (record { there = h.there; least = h.least })
    (room_ended m StoreFault h.room) tt

-- A stream with a request has not ended.
pub asks_alive : (m : Stream) (r : Request) → wanted m ≡ Some r → m.end ≡ None
asks_alive m r w = (elim m.end as (λ e. m.end ≡ e → asks (stage_of e m.upload m) m ≡ Some r → m.end ≡ None)
    [ None ↦ λ p w. p | Some e ↦ λ p w. absurd (cc) ]) refl w
