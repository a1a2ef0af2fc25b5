-- A file that is written is a closed stream. Its bytes are held, whatever the store loses, and nothing else changes. Contracts cite none of
-- these laws.
use Rattle.text_and_lists.proofs.Members.{nat_gone, nat_left, nat_other, same_or_not, some_is}
use Rattle.text_and_lists.proofs.Tree.{insert_same}
use Rattle.text_and_lists.specs.Order.{text_total}
use Rattle.block_stream.proofs.FillingLaws.{due, held_at, room_after, room_begun}
use Rattle.block_stream.specs.Holds.{HasRoom, Holds}
use Rattle.block_stream.specs.Stream.{Stream, answers, begin_or_wait, ended, has_part, stage, told, wanted}
use Rattle.block_stream.specs.declared.mode.StreamEnd.TheVariants.{Done as Ended}
use Rattle.block_stream.specs.declared.stage.StreamStage.{StreamStage}
use Rattle.block_stream.specs.declared.stage.StreamStage.TheVariants.{Beginning, Completing, Over, Putting, Sending, Waiting}
use Rattle.bucket_ops.proofs.AskLaws.{get_put, put_put}
use Rattle.bucket_ops.specs.Looks.{look_of}
use Rattle.bucket_ops.specs.declared.look.Look.TheVariants.{NoBucket}
use Rattle.fs_files.proofs.Writing.{Done, Heard, On, Refusing, asks, asks_at, begun, first_stage, heard, heard_at, id_in, is_due, is_short}
use Rattle.fs_files.proofs.Writing.{left, parted, refused, stage_in, unsent}
use Rattle.fs_files.specs.Placed.{IsBeside, IsFileOrNot, IsLater, NoneBut, NoneLeft, object_of, placed}
use Rattle.fs_files.specs.code.Create.{Writes}
use Rattle.fs_files.specs.code.Writing.{Writing, stream_of}
use Rattle.s3_types.specs.Answer.{answer, answer_at, apply, apply_at, apply_in, bucket_of, complete_answer, completed, draws, part_put}
use Rattle.s3_types.specs.Blocks.{named_from}
use Rattle.s3_types.specs.Multipart.{joined, live}
use Rattle.s3_types.specs.Store.{BucketContent, Buckets, Objects, Scene, Upload, Uploads}
use Rattle.s3_types.specs.Tags.{Spelled}
use Rattle.s3_types.specs.declared.reply.Refusal.{Refusal}
use Rattle.s3_types.specs.declared.reply.Refusal.TheVariants.{NoSuchUpload}
use Rattle.s3_types.specs.declared.reply.Reply.{Reply}
use Rattle.s3_types.specs.declared.reply.Reply.TheVariants.{Completed, Part, Refused, Stored, Upload as Drawn}
use Rattle.s3_types.specs.declared.request.Request.{Request}
use Rattle.s3_types.specs.declared.request.Request.TheVariants.{CompleteUpload, CreateUpload, PutObject, UploadPart}
use Rattle.std.proofs.Common.{ap, arith, inl, inr, refl, subst, sym, ◌∙◌}
use Rattle.std.proofs.lemmas.Bool.Decides.{nat_tests}
use Rattle.std.proofs.lemmas.List.{take_all}
use Rattle.std.proofs.lemmas.Map.Lookups.{exact_bytes}
use Rattle.std.specs.Prelude.{Bool, Err, List, None, Ok, Option, Result, Some, cond, false, length, nat_le, nat_lt, take, true, ℕ, [], ◌+◌}
use Rattle.std.specs.Prelude.{◌<◌, ◌≡◌, ◌≤◌, ◌⊎◌}
use Rattle.store_frame.specs.Held.{upload_at, upload_in}
use Rattle.std.specs.FinMap as fin
use Rattle.block_stream.specs.Stream as streams
use Rattle.block_stream.proofs.KeepingLaws as keeping

-- ---- what a stage shows

abbrev pub Known : Writing → StreamStage → Type 0
Known w Putting = (w.upload ≡ None) × (is_short w ≡ true)
Known w Beginning = (w.upload ≡ None) × (is_short w ≡ false)
Known w Sending = (w.upload ≡ Some (id_in w)) × (is_due w ≡ true)
Known w Completing = (w.upload ≡ Some (id_in w)) × (is_due w ≡ false)
Known w _ = ⊥

pub known : (w : Writing) → Known w (stage_in w)
known w = grind arith

-- ---- the stages are the stream's

not_less : (a b : ℕ) → nat_lt a b ≡ false → nat_le b a ≡ true
not_less a b h = grind (arith, nat_tests)

is_less : (a b : ℕ) → nat_lt a b ≡ true → a ≤ b
is_less a b h = grind (arith, nat_tests)

module _ (b : List ℕ) (w : Writing) (some : 1 ≤ w.block) where
  abbrev M : Stream
  M = stream_of b w

  pub part_due : has_part M ≡ is_due w
  part_due = grind arith

  begin_stage : cond (is_short w) Putting (begin_or_wait (has_part M)) ≡ first_stage (is_short w)
  begin_stage = grind arith

  pub stage_is : stage M ≡ stage_in w
  stage_is = grind (arith, begin_stage, part_due)

  asked : (g : StreamStage) → Known w g → streams.asks g M ≡ Some (asks_at g b w)
  asked g h = grind (arith, take_all, is_less)

  -- its request is the stream's
  pub wanted_is : wanted M ≡ Some (asks b w)
  wanted_is = ap (λ g. streams.asks g M) stage_is ∙ asked (stage_in w) (known w)

-- ---- one bucket's requests

pub placed_same : (z : Scene) (b : List ℕ) (c : BucketContent) → fin.get z.content.buckets b ≡ Some c → placed z b c z.content.next ≡ z
placed_same z b c h = ap (λ (m : Buckets). record {
  content = record { buckets = m; next = z.content.next; minimum = z.content.minimum };
  files = z.files;
}) (insert_same text_total exact_bytes z.content.buckets b c h)

pub placed_by : (z : Scene) (b : List ℕ) (d : BucketContent) (n : ℕ) (r : Request) → bucket_of r ≡ b
    → record { content = apply_at (fin.get (placed z b d n).content.buckets (bucket_of r)) (placed z b d n).content r; files = z.files } ≡
    placed z b (apply_in d n z.content.minimum r) (cond (draws r) (n + 1) n)
placed_by z b d n r h = grind (arith, get_put, put_put)

applied_at : (g : StreamStage) (w : Writing) (z : Scene) (b : List ℕ) (d : BucketContent) (n : ℕ)
    → apply (placed z b d n) (asks_at g b w) ≡ placed z b (apply_in d n z.content.minimum (asks_at g b w))
    (cond (draws (asks_at g b w)) (n + 1) n)
applied_at Putting w z b d n = placed_by z b d n (PutObject b w.key w.pending None) refl
applied_at Beginning w z b d n = placed_by z b d n (CreateUpload b w.key) refl
applied_at Sending w z b d n = placed_by z b d n (UploadPart b w.key (id_in w) (length w.tags + 1) (take w.block w.pending)) refl
applied_at _ w z b d n = placed_by z b d n (CompleteUpload b w.key (id_in w) (named_from 1 w.tags)) refl

pub placed_there : (z : Scene) (b : List ℕ) (d c : BucketContent) (n : ℕ) (s : Scene) → s ≡ placed z b d n
    → fin.get s.content.buckets b ≡ Some c → c ≡ d
placed_there z b d c n s e h = some_is (sym h ∙ ap (λ (s : Scene). fin.get s.content.buckets b) e ∙ get_put z.content.buckets b d)

answered_there : (z : Scene) (b : List ℕ) (d : BucketContent) (n : ℕ) (s : Scene) → s ≡ placed z b d n → (r : Request)
    → answer (placed z b d n) r ≡ answer_at (fin.get (placed z b d n).content.buckets b) n z.content.minimum r
    → answer s r ≡ answer_at (Some d) n z.content.minimum r
answered_there z b d n s e r f = ap (λ s. answer s r) e ∙ f ∙ ap (λ o. answer_at o n z.content.minimum r) (get_put z.content.buckets b d)

-- ---- what is kept

-- Holds if the file is in the bucket.
abbrev pub Wrote : Scene → List ℕ → List ℕ → List ℕ → BucketContent → Scene → Type 0
Wrote z b key bytes c s = IsBeside z b c (λ m. m ≡ fin.insert c.objects key (object_of bytes)) s

pub begins : (z : Scene) (b bytes key : List ℕ) (block : ℕ) (c : BucketContent) → fin.get z.content.buckets b ≡ Some c
    → z.content.minimum ≤ block → HasRoom (stream_of b (unsent key block bytes)) → Writes z b bytes c (unsent key block bytes) z false
begins z b bytes key block c h least room = record {
  beside = record {
    content = c;
    next = z.content.next;
    scene = sym (placed_same z b c h);
    later = record
        { drawn = omega arith; uploads = λ id l. refl };
    objects = inl refl;
  };
  drawn = λ id e. absurd (cc);
  holds = record { content = c; there = h; least = least; room = room; held = (refl, refl) };
}

-- a bucket's uploads after a request of the stream

part_kept : (m : Uploads) (i j : ℕ) (o : Option Upload) (n : ℕ) (bytes : List ℕ) → (j ≡ i → ⊥)
    → fin.get (part_put m i o n bytes) j ≡ fin.get m j
part_kept m i j o n bytes h = grind (arith, nat_other)

ended_kept : (d : BucketContent) (key : List ℕ) (i j : ℕ) (r : Result (List ℕ) Refusal) → (j ≡ i → ⊥)
    → fin.get (completed d key i r).uploads j ≡ fin.get d.uploads j
ended_kept d key i j (Ok bytes) h = nat_left d.uploads i j h
ended_kept d key i j (Err r) h = refl

apart : (i j n : ℕ) → n ≤ i → j < n → j ≡ i → ⊥
apart i j n h l e = omega (arith, h, l, e)

module _ (z : Scene) (b bytes : List ℕ) (c : BucketContent) (w : Writing) (drawn : (id : ℕ) → w.upload ≡ Some id → z.content.next ≤ id)
    (d : BucketContent) (n : ℕ) (later : IsLater z c d n) where
  later_after : (g : StreamStage) → Known w g → IsLater z c (apply_in d n z.content.minimum (asks_at g b w))
      (cond (draws (asks_at g b w)) (n + 1) n)
  later_after g h = grind (arith, nat_other, apart, part_kept, ended_kept)

-- ---- a request of the stream

abbrev next_of : ℕ → Request → ℕ
next_of n r = cond (draws r) (n + 1) n

twice : (z m : Objects) (key bytes : List ℕ) → IsFileOrNot z key bytes m
    → fin.insert m key (object_of bytes) ≡ fin.insert z key (object_of bytes)
twice z m key bytes (inl e) = ap (λ (m : Objects). fin.insert m key (object_of bytes)) e
twice z m key bytes (inr e) = ap (λ (m : Objects). fin.insert m key (object_of bytes)) e ∙ put_put z key (object_of bytes) (object_of bytes)

-- If the file is there with these bytes, the objects are those with it added.
whole_is : (z m : Objects) (key bytes : List ℕ) → IsFileOrNot z key bytes m → fin.get m key ≡ Some (object_of bytes)
    → m ≡ fin.insert z key (object_of bytes)
whole_is z m key bytes (inl e) g = e ∙ sym (insert_same text_total exact_bytes z key (object_of bytes)
    (ap (λ (m : Objects). fin.get m key) (sym e) ∙ g))
whole_is z m key bytes (inr e) g = e

drawn_same : (i j : ℕ) → Drawn i ≡ Drawn j → i ≡ j
drawn_same i j e = cc

-- What holds after each result of a reply.
abbrev pub HeardSo : Scene → List ℕ → List ℕ → List ℕ → BucketContent → Heard → Scene → Type 0
HeardSo z b key bytes c Done s = Wrote z b key bytes c s
HeardSo z b key bytes c (On v) s = Writes z b bytes c v s false
HeardSo z b key bytes c Refusing s = ⊥

-- The bucket exists.
not_gone : (g : StreamStage) (a : Reply) → answers g a ≡ true → look_of a ≡ NoBucket → ⊥
not_gone g a h e = grind arith

module _ (z : Scene) (b bytes : List ℕ) (c : BucketContent) (w : Writing) (s : Scene) (repeated : Bool)
    (h : Writes z b bytes c w s repeated) where
  abbrev S : Stream
  S = stream_of b w

  abbrev d : BucketContent
  d = h.beside.content

  abbrev n : ℕ
  n = h.beside.next

  abbrev r : Request
  r = asks b w

  some_block : 1 ≤ w.block
  some_block = h.holds.room.some

  is_wanted : wanted S ≡ Some r
  is_wanted = wanted_is b w some_block

  scene_after : (g : StreamStage) → apply s (asks_at g b w) ≡ placed z b (apply_in d n z.content.minimum (asks_at g b w))
      (next_of n (asks_at g b w))
  scene_after g = ap (λ s. apply s (asks_at g b w)) h.beside.scene ∙ applied_at g w z b d n

  -- what the stream holds after the reply
  took : Holds (told (stage_in w) S repeated (answer s r)) (apply s r) false bytes
  took = subst (λ g. Holds (told g S repeated (answer s r)) (apply s r) false bytes) (stage_is b w some_block)
      (keeping.took S s repeated bytes h.holds r is_wanted)

  fits : answers (stage_in w) (answer s r) ≡ true
  fits = subst (λ g. answers g (answer s r) ≡ true) (stage_is b w some_block) (keeping.fit S s repeated bytes h.holds r is_wanted)

  -- ---- the objects

  stands : (s' : Scene) → Holds (ended S Ended) s' false bytes → (e : BucketContent) × (fin.get s'.content.buckets b ≡ Some e)
      × (fin.get e.objects w.key ≡ Some (object_of bytes))
  stands s' k = (k.content, k.there, k.held.1)

  completes : (a : Reply) (s' : Scene) → answers Completing a ≡ true → Holds (told Completing S repeated a) s' false bytes
      → (e : BucketContent) × (fin.get s'.content.buckets b ≡ Some e) × (fin.get e.objects w.key ≡ Some (object_of bytes))
  completes (Completed t) s' f k = stands s' k
  completes (Refused NoSuchUpload) s' f k = again repeated k
    where
      again : (c : Bool) → Holds (streams.refused S c NoSuchUpload) s' false bytes → (e : BucketContent)
          × (fin.get s'.content.buckets b ≡ Some e) × (fin.get e.objects w.key ≡ Some (object_of bytes))
      again true k = stands s' k
      again false k = absurd k.held
  completes _ s' f k = absurd (cc)

  joined_is : (m : Result (List ℕ) Refusal) → fin.get (completed d w.key (id_in w) m).objects w.key ≡ Some (object_of bytes)
      → IsFileOrNot c.objects w.key bytes (completed d w.key (id_in w) m).objects
  joined_is (Ok x) g = inr (ap (λ o. fin.insert d.objects w.key o) (some_is (sym (get_put d.objects w.key (object_of x)) ∙ g)) ∙ twice
      c.objects d.objects w.key bytes h.beside.objects)
  joined_is (Err x) g = h.beside.objects

  put_is : w.upload ≡ None → bytes ≡ w.pending
  put_is e = (held_at S h.holds.content repeated bytes None None refl e h.holds.held).0

  objects_at : (g : StreamStage) → Known w g → answers g (answer s (asks_at g b w)) ≡ true
      → Holds (told g S repeated (answer s (asks_at g b w))) (apply s (asks_at g b w)) false bytes
      → IsFileOrNot c.objects w.key bytes (apply_in d n z.content.minimum (asks_at g b w)).objects
  objects_at Putting k f t = inr (ap (λ x. fin.insert d.objects w.key (object_of x)) (sym (put_is k.0)) ∙ twice c.objects d.objects w.key
      bytes h.beside.objects)
  objects_at Completing k f t =
      let r = asks_at Completing b w in
      let e = completes (answer s r) (apply s r) f t in
      let g = placed_there z b (apply_in d n z.content.minimum r) e.0 (next_of n r) (apply s r) (scene_after Completing) e.1 in
      joined_is (joined (live d.uploads w.key (id_in w)) (named_from 1 w.tags) z.content.minimum)
      (ap (λ (e : BucketContent). fin.get e.objects w.key) (sym g) ∙ e.2)
  objects_at Waiting k f t = absurd k
  objects_at Over k f t = absurd k
  objects_at _ k f t = h.beside.objects

  beside_after : IsBeside z b c (IsFileOrNot c.objects w.key bytes) (apply s r)
  beside_after = record {
    content = apply_in d n z.content.minimum r;
    next = next_of n r;
    scene = scene_after (stage_in w);
    later = later_after z b bytes c w h.drawn d n h.beside.later (stage_in w) (known w);
    objects = objects_at (stage_in w) (known w) fits took;
  }

  -- the request took effect and its reply was lost
  pub hidden : Writes z b bytes c w (apply s r) true
  hidden = record { beside = beside_after; drawn = h.drawn; holds = keeping.hidden S s repeated bytes h.holds r is_wanted }

  -- the send was lost before it took effect
  pub lost : Writes z b bytes c w s true
  lost = record { beside = h.beside; drawn = h.drawn; holds = keeping.lost S s repeated bytes h.holds }

  -- ---- after its reply

  abbrev So : Heard → Scene → Type 0
  So = HeardSo z b w.key bytes c

  wrote : (e : BucketContent) → fin.get (apply s r).content.buckets b ≡ Some e → fin.get e.objects w.key ≡ Some (object_of bytes)
      → Wrote z b w.key bytes c (apply s r)
  wrote e f g =
      let k = placed_there z b beside_after.content e beside_after.next (apply s r) beside_after.scene f in
      record {
        content = beside_after.content;
        next = beside_after.next;
        scene = beside_after.scene;
        later = beside_after.later;
        objects = whole_is c.objects beside_after.content.objects w.key bytes beside_after.objects
            (ap (λ (e : BucketContent). fin.get e.objects w.key) (sym k) ∙ g);
      }

  heard_so : (g : StreamStage) (a : Reply) → answers g a ≡ true → Holds (told g S repeated a) (apply s r) false bytes
      → ((id : ℕ) → g ≡ Beginning → a ≡ Drawn id → z.content.next ≤ id) → So (heard_at g w a repeated) (apply s r)
  heard_so Putting (Stored t) f k i = let v = stands (apply s r) k in wrote v.0 v.1 v.2
  heard_so Beginning (Drawn id) f k i = record {
    beside = beside_after;
    drawn = λ j x. subst (λ j. z.content.next ≤ j) (some_is x)
        (i id refl refl);
    holds = k;
  }
  heard_so Sending (Part t) f k i = record { beside = beside_after; drawn = h.drawn; holds = k }
  heard_so Sending (Refused NoSuchUpload) f k i = absurd k.held
  heard_so Completing (Completed t) f k i = let v = stands (apply s r) k in wrote v.0 v.1 v.2
  heard_so Completing (Refused NoSuchUpload) f k i = again repeated k
    where
      again : (c : Bool) → Holds (streams.refused S c NoSuchUpload) (apply s r) false bytes → So (refused c NoSuchUpload) (apply s r)
      again true k = let v = stands (apply s r) k in wrote v.0 v.1 v.2
      again false k = absurd k.held
  heard_so _ _ f k i = absurd (cc)

  -- the id that is used is a later one
  later_id : (id : ℕ) → stage_in w ≡ Beginning → answer s r ≡ Drawn id → z.content.next ≤ id
  later_id id e f =
      let a = answered_there z b d n s h.beside.scene (CreateUpload b w.key) refl in
      subst (λ j. z.content.next ≤ j) (drawn_same n id (sym a ∙ ap (λ g. answer s (asks_at g b w)) (sym e) ∙ f)) h.beside.later.drawn

  pub no_missing : look_of (answer s r) ≡ NoBucket → ⊥
  no_missing e = not_gone (stage_in w) (answer s r) fits e

  pub goes_on : HeardSo z b w.key bytes c (heard w (answer s r) repeated) (apply s r)
  goes_on = heard_so (stage_in w) (answer s r) fits took (λ id e f. later_id id e f)

-- ---- if each send was answered, only its own upload is live

abbrev pub OwnHeard : Scene → List ℕ → Heard → Scene → Type 0
OwnHeard z b Done s = NoneLeft z b s
OwnHeard z b (On v) s = NoneBut v.upload z b s
OwnHeard z b Refusing s = Unit {0}

no_own : (u : Option ℕ) (id : ℕ) → u ≡ None → u ≡ Some id → ⊥
no_own u id e f = cc

module _ (z : Scene) (b bytes : List ℕ) (c : BucketContent) (w : Writing) (s : Scene) (h : Writes z b bytes c w s false)
    (own : NoneBut w.upload z b s) where
  abbrev dd : BucketContent
  dd = h.beside.content

  abbrev nn : ℕ
  nn = h.beside.next

  there : (id : ℕ) → upload_at s.content b id ≡ fin.get dd.uploads id
  there id = ap (λ (s : Scene). upload_at s.content b id) h.beside.scene ∙ ap (λ o. upload_in o id) (get_put z.content.buckets b dd)

  since : (g : StreamStage) (id : ℕ) → upload_at (apply s (asks_at g b w)).content b id ≡ fin.get
      (apply_in dd nn z.content.minimum (asks_at g b w)).uploads id
  since g id = grind (arith, applied_at, get_put)

  -- an id that is not its own
  other : (id : ℕ) → z.content.next ≤ id → upload_at z.content b id ≡ None → (w.upload ≡ Some id → ⊥) → fin.get dd.uploads id ≡ None
  other id l e ne = sym (there id) ∙ own id l e ne

  ended_gone : (id : ℕ) (t : Spelled) (m : Result (List ℕ) Refusal) → id ≡ id_in w → complete_answer (named_from 1 w.tags) m ≡ Completed t
      → fin.get (completed dd w.key (id_in w) m).uploads id ≡ None
  ended_gone id t (Ok x) f e = nat_gone dd.uploads (id_in w) id f
  ended_gone id t (Err r) f e = absurd (cc)

  own_at : (g : StreamStage) → Known w g → (a : Reply) → answer s (asks_at g b w) ≡ a
      → OwnHeard z b (heard_at g w a false) (apply s (asks_at g b w))
  own_at Putting k (Stored t) e = λ id l f. since Putting id ∙ other id l f (no_own w.upload id k.0)
  own_at Beginning k (Drawn i) e = λ id l f ne.
      let q = drawn_same i nn (sym e ∙ answered_there z b dd nn s h.beside.scene (CreateUpload b w.key) refl) in
      since Beginning id
      ∙ nat_other dd.uploads nn id (record { key = w.key; parts = fin.empty }) (λ g. ne (ap Some (q ∙ sym g)))
      ∙ other id l f (no_own w.upload id k.0)
  own_at Sending k (Part t) e = λ id l f ne.
      since Sending id
      ∙ part_kept dd.uploads (id_in w) id (live dd.uploads w.key (id_in w)) (length w.tags + 1) (take w.block w.pending)
      (λ g. ne (k.0 ∙ ap Some (sym g)))
      ∙ other id l f ne
  own_at Completing k (Completed t) e = λ id l f. since Completing id ∙ by id l f (same_or_not id (id_in w))
    where
      by : (id : ℕ) → z.content.next ≤ id → upload_at z.content b id ≡ None → (id ≡ id_in w) ⊎ (id ≡ id_in w → ⊥)
          → fin.get (completed dd w.key (id_in w) (joined (live dd.uploads w.key (id_in w)) (named_from 1 w.tags)
          z.content.minimum)).uploads id ≡ None
      by id l f (inl g) =
          ended_gone id t (joined (live dd.uploads w.key (id_in w)) (named_from 1 w.tags) z.content.minimum) g
          (sym (answered_there z b dd nn s h.beside.scene (CompleteUpload b w.key (id_in w) (named_from 1 w.tags)) refl) ∙ e)
      by id l f (inr g) =
          ended_kept dd w.key (id_in w) id (joined (live dd.uploads w.key (id_in w)) (named_from 1 w.tags) z.content.minimum) g
          ∙ other id l f (λ e. g (some_is (sym e ∙ k.0)))
  own_at Waiting k a e = absurd k
  own_at Over k a e = absurd k
  own_at _ k _ e = tt

  pub own_goes : OwnHeard z b (heard w (answer s (asks b w)) false) (apply s (asks b w))
  own_goes = own_at (stage_in w) (known w) (answer s (asks b w)) refl

-- ---- the number of requests that are left falls, whatever the reply is

-- Holds if a writing that goes on has less left and still room, for the same output.
abbrev pub GoesOn : List ℕ → Writing → Heard → Type 0
GoesOn b w (On v) = (left v < left w) × HasRoom (stream_of b v) × (v.key ≡ w.key) × (v.block ≡ w.block)
GoesOn b w _ = Unit {0}

begun_left : (w : Writing) (id : ℕ) → w.upload ≡ None → left (begun w id) < left w
begun_left w id e = let h : 1 + left (begun w id) < 1 + left w = keeping.left_begun (stream_of [] w) id refl e in omega (arith, h)

parted_left : (w : Writing) (t : Spelled) → 1 ≤ w.block → is_due w ≡ true → left (parted w t) < left w
parted_left w t some d =
    let h : 1 + left (parted w t) < 1 + left w = keeping.left_parted (stream_of [] w) t some (due (stream_of [] w) (part_due [] w some ∙ d))
    in
    omega (arith, h)

-- A part that is to be sent leaves room.
pub parted_room : (b : List ℕ) (w : Writing) (t : Spelled) → HasRoom (stream_of b w) → is_due w ≡ true → HasRoom (stream_of b (parted w t))
parted_room b w t room d = room_after (stream_of b w) t room (due (stream_of b w) (part_due b w room.some ∙ d))

pub goes_further : (b : List ℕ) (w : Writing) → HasRoom (stream_of b w) → (r : Reply) (repeated : Bool) → GoesOn b w (heard w r repeated)
goes_further b w room r repeated = by (stage_in w) (known w) repeated r
  where
    by : (g : StreamStage) → Known w g → (repeated : Bool) (r : Reply) → GoesOn b w (heard_at g w r repeated)
    by Putting k repeated (Stored t) = tt
    by Beginning k repeated (Drawn id) = (begun_left w id k.0, room_begun (stream_of b w) id room, refl, refl)
    by Sending k repeated (Part t) = (parted_left w t room.some k.1, parted_room b w t room k.1, refl, refl)
    by Completing k true (Refused NoSuchUpload) = tt
    by Completing k false (Refused r) = tt
    by Waiting k repeated r = absurd k
    by Over k repeated r = absurd k
    by _ k _ _ = tt
