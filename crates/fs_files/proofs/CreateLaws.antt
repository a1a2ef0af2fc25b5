-- The making of a file, stage by stage.
use Rattle.block_stream.specs.Holds.{HasRoom}
use Rattle.block_stream.specs.Stream.{Stream, answers, told}
use Rattle.block_stream.specs.declared.stage.StreamStage.{StreamStage}
use Rattle.block_stream.specs.declared.stage.StreamStage.TheVariants.{Beginning, Completing, Over, Putting, Sending, Waiting}
use Rattle.bucket_ops.proofs.AskLaws.{all_gone, answered, applied_none, are_gone, get_put}
use Rattle.bucket_ops.specs.Asks.{Ask, Head, objects_at, objects_of, reply_in, request_of}
use Rattle.bucket_ops.specs.Looks.{look_of}
use Rattle.bucket_ops.specs.declared.look.Look.{Look}
use Rattle.bucket_ops.specs.declared.look.Look.TheVariants.{NoBucket, There}
use Rattle.dir_markers.specs.Markers.{created, keys_above, marker_of}
use Rattle.fs_files.proofs.Creating.{created_above, few_created, makes_file}
use Rattle.fs_files.proofs.Sending.{GoesOnSo, applied, is_write, sending_begins, sends_on}
use Rattle.fs_files.proofs.Writing.{Done, Heard, On, Refusing, heard, heard_at, is_due, is_short, stage_in, unsent}
use Rattle.fs_files.proofs.WritingLaws.{GoesOn, HeardSo, Known, OwnHeard, Wrote, goes_further, known, placed_by, placed_same, stage_is}
use Rattle.fs_files.proofs.WritingLaws.{wanted_is}
use Rattle.fs_files.specs.Creation.{Creation, IsCreation}
use Rattle.fs_files.specs.Placed.{InFile, IsBeside, IsFileOrNot, NoneBut, NoneLeft, placed}
use Rattle.fs_files.specs.Requests.{Cleans, IsWriteOf}
use Rattle.fs_files.specs.code.Create.{AlwaysFile, CreateAnswer, CreateStep, GivesFile, HoldsAt, HoldsIn, IsDue, IsMade, IsOpen, IsSending}
use Rattle.fs_files.specs.code.Create.{IsUndone, SomeDue, Writes, always, always_in, asked_or, asks, bucket_at, calm, climb, drop_from}
use Rattle.fs_files.specs.code.Create.{file_in, gives, goes, heard as heard_in, here as here_at, holds, least, leaves, led, left, left_at}
use Rattle.fs_files.specs.code.Create.{moved, on, on_below, on_climb, on_here, replace, request, sends, starts, stepped, upload_of}
use Rattle.fs_files.specs.code.Create.{write_at, write_left}
use Rattle.fs_files.specs.code.Writing.{Writing, stream_of}
use Rattle.fs_files.specs.declared.create.CreateFile.{CreateFile}
use Rattle.fs_files.specs.declared.create.CreateStage.{CreateStage}
use Rattle.fs_files.specs.declared.create.CreateStage.TheVariants.{Below, DropMarkers, Here, Up, Write}
use Rattle.fs_ops.proofs.Climbing.{IsClimbed, IsShorter, all_on, climbed_falls, climbing_falls, seen_on}
use Rattle.fs_ops.proofs.Looks.{at_key, below_key, head_tells}
use Rattle.fs_ops.proofs.StepLaws.{not_missing}
use Rattle.fs_ops.specs.Places.{NoFileAt, below_asks, look_asks}
use Rattle.fs_ops.specs.code.Climbs.{climbed, climbing}
use Rattle.fs_ops.specs.code.Steps.{unless}
use Rattle.fs_ops.specs.declared.climb.Climbed.{Climbed}
use Rattle.fs_tree.proofs.Above.{key_no_marker}
use Rattle.fs_tree.specs.Answers.{Creates}
use Rattle.fs_tree.specs.Tree.{HasFile, IsAbsent}
use Rattle.fs_tree.specs.declared.answers.FsRefusal.{FsRefusal}
use Rattle.fs_tree.specs.declared.answers.FsRefusal.TheVariants.{AlreadyExists, IsDirectory, NoSuchBucket, NotFound}
use Rattle.operations.specs.Courses.{IsCalm, IsCourse, MaySend}
use Rattle.operations.specs.Plans.{Falls, Goes}
use Rattle.operations.specs.declared.plan.Step.{Step}
use Rattle.operations.specs.declared.plan.Step.TheVariants.{End, Next}
use Rattle.path_keys.specs.Paths.{is_key}
use Rattle.s3_types.specs.Answer.{answer, apply, apply_in, head, without}
use Rattle.s3_types.specs.Requests.{only_reads}
use Rattle.s3_types.specs.Store.{BucketContent, Objects, Scene}
use Rattle.s3_types.specs.declared.reply.Refusal.TheVariants.{NoSuchUpload}
use Rattle.s3_types.specs.declared.reply.Reply.{Reply}
use Rattle.s3_types.specs.declared.reply.Reply.TheVariants.{Completed, Part, Refused, Stored, Upload as Drawn}
use Rattle.s3_types.specs.declared.request.Request.{Request}
use Rattle.s3_types.specs.declared.request.Request.TheVariants.{DeleteObjects}
use Rattle.std.proofs.Common.{ap, arith, inl, inr, refl, subst, sym, ◌∙◌}
use Rattle.std.proofs.lemmas.Bool.{true≢false}
use Rattle.std.specs.Prelude.{Bool, Err, List, None, Ok, Option, Some, cond, false, length, nat_lt, true, ℕ, [], ◌*◌, ◌+◌, ◌<◌, ◌∷◌, ◌≡◌}
use Rattle.std.specs.Prelude.{◌≤◌, ◌⊎◌}
use Rattle.store_frame.proofs.Reading.{reads_nothing}
use Rattle.store_frame.specs.Held.{upload_at, upload_in}
use Rattle.std.specs.FinMap as fin
use Rattle.fs_tree.specs.Tree as tree
use Rattle.fs_files.proofs.Writing as writing
use Rattle.fs_files.proofs.WritingLaws as files

-- If there is no bucket it ends, and otherwise it goes on.
unless_so : {X : Type 0} (l : Look) (absent y : X) (P : X → Type 0) → (l ≡ NoBucket → P absent) → P y → P (unless l absent y)
unless_so l absent y P h g = grind arith

no_parts : (k n : ℕ) → n ≤ k * 10000 → k * 0 + n ≤ k * 10000
no_parts k n h = let e : k * 0 ≡ 0 = Rattle.std.proofs.Math.Nat.mul-zero k in omega (arith, e, h)

reads_look : (b k : List ℕ) → only_reads (request_of b (look_asks k)) ≡ true
reads_look b k = grind arith

-- The step after a result of writing the file's bytes.
abbrev step_of : Creation → Heard → CreateStep
step_of o Done = drop_from (created o.policy o.path)
step_of o (On w) = Next (Write (stream_of o.path.bucket w))
step_of o Refusing = End (Err NotFound)

-- The stream goes so, whatever the reply is.
module _ (o : Creation) (w : Writing) (some : 1 ≤ w.block) where
  abbrev at_stage : StreamStage → Reply → Bool → CreateStep
  at_stage g r repeated = cond (answers g r) (moved o (told g (stream_of o.path.bucket w) repeated r)) (End (Err NotFound))

  stepped_at : (g : StreamStage) → Known w g → (r : Reply) (repeated : Bool) → at_stage g r repeated ≡ step_of o (heard_at g w r repeated)
  stepped_at Putting k (Stored t) repeated = refl
  stepped_at Beginning k (Drawn id) repeated = refl
  stepped_at Sending k (Part t) repeated = refl
  stepped_at Sending k (Refused NoSuchUpload) repeated = refl
  stepped_at Completing k (Completed t) repeated = refl
  stepped_at Completing k (Refused NoSuchUpload) true = refl
  stepped_at Completing k (Refused NoSuchUpload) false = refl
  stepped_at Completing k (Refused r) repeated = grind arith
  stepped_at Waiting k r repeated = absurd k
  stepped_at Over k r repeated = absurd k
  stepped_at g k r repeated = refl

  heard_is : (r : Reply) (repeated : Bool) → heard_in o (stream_of o.path.bucket w) r repeated ≡ step_of o (heard w r repeated)
  heard_is r repeated = ap (λ g. at_stage g r repeated) (stage_is o.path.bucket w some) ∙ stepped_at (stage_in w) (known w) r repeated

  request_is : asks o (Write (stream_of o.path.bucket w)) ≡ writing.asks o.path.bucket w
  request_is = ap (asked_or o) (wanted_is o.path.bucket w some)

-- Holds if of the uploads that were begun since, only the one of the stage may be live.
abbrev OwnStep : Creation → Scene → CreateStep → Scene → Type 0
OwnStep o z (Next x) s = NoneBut (upload_of x) z o.path.bucket s
OwnStep o z (End a) s = NoneLeft z o.path.bucket s

own_z : (o : Creation) (z : Scene) (y : CreateStep) → OwnStep o z y z
own_z o z y = grind arith

module _ (o : Creation) (z : Scene) (ok : IsCreation o) where
  abbrev B : List ℕ
  B = o.path.bucket

  -- what holds after a step, if the bucket exists or not
  abbrev OnAt : Option BucketContent → CreateStep → Scene → Type 0
  OnAt v (Next x) s = HoldsAt v o z x s false
  OnAt v (End a) s = least o z → InFile v (λ m n. Creates o.path o.bytes o.overwrite o.policy m a n) (a ≡ Err NoSuchBucket) z B s
      × IsUndone a z s

  -- what holds of a stage: its reply leads on, a lost send keeps it, and the request is one that it may send
  record IsLed (v : Option BucketContent) (x : CreateStage) (s : Scene) (repeated : Bool) : Type 0 where
    steps : OnAt v (goes o x (answer s (asks o x)) repeated) (apply s (asks o x))
    hides : HoldsAt v o z x (apply s (asks o x)) true
    loses : HoldsAt v o z x s true
    moments : least o z → InFile v (always_in o) (Unit {0}) z B s
    asked : (only_reads (asks o x) ≡ true) ⊎ (SomeDue o v × IsWriteOf o z.content.next (asks o x))

  -- ---- no bucket

  none_goes : fin.get z.content.buckets B ≡ None → (s : Scene) → s ≡ z
      → OnAt None (goes o Here (answer s (asks o Here)) false) (apply s (asks o Here))
      × ((repeated : Bool) → goes o Here (answer s (asks o Here)) repeated ≡ End (Err NoSuchBucket))
  none_goes h s g = grind arith

  -- ---- a bucket that held c

  module _ (c : BucketContent) (there : fin.get z.content.buckets B ≡ Some c) where
    abbrev At : CreateStep → Scene → Type 0
    At y s = OnAt (Some c) y s

    abbrev Z : Objects
    Z = c.objects

    here_is : objects_at z B ≡ Some Z
    here_is = ap objects_of there

    -- nothing changed
    still : (holds : Objects → Type 0) → holds Z → IsBeside z B c holds z
    still holds h = record {
      content = c;
      next = z.content.next;
      scene = sym (placed_same z B c there);
      later = record
          { drawn = omega arith; uploads = λ id l. refl };
      objects = h;
    }

    map_beside : (P Q : Objects → Type 0) (s : Scene) → ((m : Objects) → P m → Q m) → IsBeside z B c P s → IsBeside z B c Q s
    map_beside P Q s f h = record {
      content = h.content;
      next = h.next;
      scene = h.scene;
      later = h.later;
      objects = f h.content.objects
          h.objects;
    }

    refuses : (r : FsRefusal) → Creates o.path o.bytes o.overwrite o.policy Z (Err r) Z → At (End (Err r)) z
    refuses r h = λ l. (still (λ n. Creates o.path o.bytes o.overwrite o.policy Z (Err r) n) h, refl)

    -- ---- look-ups

    room_of : (k : List ℕ) → HasRoom (stream_of B (unsent k o.block o.bytes))
    room_of k = record { some = ok.block; few = no_parts o.block (length o.bytes) ok.room; counted = λ f e. absurd (true≢false f) }

    write_goes : (k : List ℕ) → o.path.key ≡ k → IsDue o Z → At (write_at k o) z
    write_goes [] e d = absurd (no_root (subst (λ k. (HasFile Z k × (o.overwrite ≡ true)) ⊎ IsAbsent Z k) e d.allowed))
      where
        no_root : (HasFile Z [] × (o.overwrite ≡ true)) ⊎ IsAbsent Z [] → ⊥
        no_root (inl h) = h.0.1
        no_root (inr h) = h
    write_goes (x ∷ p) e d = record {
      so_far = unsent (x ∷ p) o.block o.bytes;
      is = refl;
      due = d;
      room = room_of (x ∷ p);
      key = sym e;
      block = refl;
      writes = λ l. files.begins z B o.bytes (x ∷ p) o.block c there l (room_of (x ∷ p));
      sending = sending_begins o z (x ∷ p);
    }

    on_goes : (d : Climbed) → IsOpen o Z → IsClimbed Z (keys_above o.path.key) d → At (on_climb o d) z
    on_goes d h g = grind (arith, refuses, write_goes)

    climb_goes : IsOpen o Z → At (climb o) z
    climb_goes h = on_goes (climbing (keys_above o.path.key)) h (all_on Z (keys_above o.path.key))

    replace_goes : (w : Bool) → o.overwrite ≡ w → HasFile Z o.path.key → At (replace w o) z
    replace_goes true e h = climb_goes (inl (h, e))
    replace_goes false e h = refuses AlreadyExists (h, e, refl)

    look_goes : (k : List ℕ) → o.path.key ≡ k → At (on_here k o (look_of (reply_in Z (look_asks k)))) z
    look_goes [] e = refuses IsDirectory (subst (tree.IsDirectory Z) (sym e) (tt, tt), refl)
    look_goes (x ∷ p) e = at_key (λ l. At (here_at o l) z) Z (x ∷ p) (λ s. replace_goes o.overwrite refl (subst (HasFile Z) (sym e) s))
        (λ n. (refl, subst (NoFileAt Z) (sym e) n))

    page_goes : (k : List ℕ) → o.path.key ≡ k → NoFileAt Z k → At (on_below o (look_of (reply_in Z (below_asks k 1)))) z
    page_goes [] e h = absurd h
    page_goes (x ∷ p) e h =
        below_key (λ l. At (on_below o l) z) x (marker_of p) Z (λ s. refuses IsDirectory (subst (tree.IsDirectory Z) (sym e) (h, s), refl))
        (λ n. climb_goes (inr (subst (IsAbsent Z) (sym e) (h, n))))

    -- the requests that read the bucket in the scene z
    read_goes : (x : CreateStage) (a : Ask) → asks o x ≡ request_of B a → only_reads (request_of B a) ≡ true → (repeated : Bool)
        → At (on o x (reply_in Z a) repeated) z → (s : Scene) → s ≡ z → At (goes o x (answer s (asks o x)) repeated) (apply s (asks o x))
    read_goes x a h g repeated e s f = grind (arith, answered, here_is, reads_nothing, not_missing)

    -- ---- the markers

    abbrev Ks : List (List ℕ)
    Ks = created o.policy o.path

    -- the path is not that of a marker
    plain : (k : List ℕ) → o.path.key ≡ k → IsOpen o Z → tree.is_marker o.path.key ≡ false
    plain [] e h = ap tree.is_marker e
    plain (x ∷ p) e h = ap tree.is_marker e ∙ key_no_marker x p (ap is_key (sym e) ∙ ok.key)

    makes : (m : Objects) → IsDue o Z → m ≡ without (file_in o Z) Ks → Creates o.path o.bytes o.overwrite o.policy Z (Ok tt) m
    makes m d e =
        let t = makes_file o.path.key o.bytes Ks Z (plain o.path.key refl d.allowed) (created_above o.policy o.path) in
        (d.allowed, d.free, subst (Rattle.fs_tree.specs.Changes.MakesFile o.path.key o.bytes Z) (sym e) t, e)

    cons_nil : {X : Type 0} {x : X} {xs : List X} → x ∷ xs ≡ [] → ⊥
    cons_nil e = cc

    wrote_goes : (ks : List (List ℕ)) → Ks ≡ ks → IsDue o Z → (s : Scene) → (least o z → Wrote z B o.path.key o.bytes c s)
        → At (drop_from ks) s
    wrote_goes [] e d s f = λ l. (
      map_beside (λ m. m ≡ file_in o Z) (λ m. Creates o.path o.bytes o.overwrite o.policy Z (Ok tt) m) s
          (λ m g. makes m d (g ∙ ap (without (file_in o Z)) (sym e))) (f l),
      tt,
    )
    wrote_goes (k ∷ ks) e d s f =
        (d, λ g. absurd (cons_nil (sym e ∙ g)), λ l. map_beside (λ m. m ≡ file_in o Z) (IsMade o Z) s (λ m g. inl g) (f l))

    -- ---- the bytes

    module _ (w : Writing) (s : Scene) (repeated : Bool) (d : IsDue o Z) (room : HasRoom (stream_of B w))
        (key : w.key ≡ o.path.key) (block : w.block ≡ o.block)
        (writes : least o z → Writes z B o.bytes c w s repeated) (sending : IsSending o z w s) where
      abbrev r : Request
      r = writing.asks B w

      heard_goes : (h : Heard) → GoesOn B w h → GoesOnSo o z ok w s sending key block h (apply s r)
          → (least o z → HeardSo z B w.key o.bytes c h (apply s r)) → At (step_of o h) (apply s r)
      heard_goes Done k x f = wrote_goes Ks refl d (apply s r) (λ l. subst (λ k. Wrote z B k o.bytes c (apply s r)) key (f l))
      heard_goes (On v) k x f =
          record { so_far = v; is = refl; due = d; room = k.1; key = k.2 ∙ key; block = k.3 ∙ block; writes = f; sending = x }
      heard_goes Refusing k x f = λ l. absurd (f l)

      stream_goes : At (goes o (Write (stream_of B w)) (answer s r) repeated) (apply s r)
      stream_goes =
          unless_so (look_of (answer s r)) (End (Err NoSuchBucket)) (heard_in o (stream_of B w) (answer s r) repeated)
          (λ y. At y (apply s r))
          (λ e l. absurd (files.no_missing z B o.bytes c w s repeated (writes l) e))
          (subst (λ y. At y (apply s r)) (sym (heard_is o w room.some (answer s r) repeated))
          (heard_goes (heard w (answer s r) repeated) (goes_further B w room (answer s r) repeated)
          (sends_on o z ok w s sending key block repeated) (λ l. files.goes_on z B o.bytes c w s repeated (writes l))))

    -- ---- the markers' deletion

    abbrev drops : Request
    drops = DeleteObjects B Ks

    gone_twice : (m : Objects) → without (without m Ks) Ks ≡ without m Ks
    gone_twice m = all_gone (without m Ks) Ks (are_gone m Ks)

    made_gone : (m : Objects) → IsMade o Z m → without m Ks ≡ without (file_in o Z) Ks
    made_gone m (inl e) = ap (λ m. without m Ks) e
    made_gone m (inr e) = ap (λ m. without m Ks) e ∙ gone_twice (file_in o Z)

    few : nat_lt 1000 (length Ks) ≡ false
    few = few_created o.policy o.path ok.key

    dropped : (s : Scene) → IsBeside z B c (IsMade o Z) s → IsBeside z B c (λ m. m ≡ without (file_in o Z) Ks) (apply s drops)
    dropped s h = record {
      content = apply_in h.content h.next z.content.minimum drops;
      next = h.next;
      scene = ap (λ s. apply s drops) h.scene ∙ placed_by z B h.content h.next drops refl;
      later = record { drawn = h.later.drawn; uploads = h.later.uploads };
      objects = ap (λ b. cond b h.content.objects (without h.content.objects Ks)) few ∙ made_gone h.content.objects h.objects;
    }

    drop_look : (s : Scene) → IsBeside z B c (IsMade o Z) s → look_of (answer s drops) ≡ NoBucket → ⊥
    drop_look s h g = grind (arith, get_put, few)

    drop_goes : (s : Scene) (repeated : Bool) → IsDue o Z → (least o z → IsBeside z B c (IsMade o Z) s)
        → At (goes o DropMarkers (answer s drops) repeated) (apply s drops)
    drop_goes s repeated d f =
        unless_so (look_of (answer s drops)) (End (Err NoSuchBucket)) (End (Ok tt)) (λ y. At y (apply s drops))
        (λ e l. absurd (drop_look s (f l) e))
        (λ l. (
          map_beside (λ m. m ≡ without (file_in o Z) Ks) (λ m. Creates o.path o.bytes o.overwrite o.policy Z (Ok tt) m) (apply s drops)
              (λ m e. makes m d e) (dropped s (f l)),
          tt,
        ))

    -- ---- each stage

    -- a look leaves the scene unchanged
    same_look : (a : Ask) → only_reads (request_of B a) ≡ true → (s : Scene) → s ≡ z → apply s (request_of B a) ≡ z
    same_look a reads s e = reads_nothing s (request_of B a) reads ∙ e

    looks : (x : CreateStage) (a : Ask) → asks o x ≡ request_of B a → only_reads (request_of B a) ≡ true → (repeated : Bool)
        → ((s : Scene) → s ≡ z → HoldsIn o z c x s true) → At (on o x (reply_in Z a) repeated) z → (s : Scene) → s ≡ z
        → IsLed (Some c) x s repeated
    looks x a e reads repeated f h s g = record {
      steps = read_goes x a e reads repeated h s g;
      hides = f (apply s (asks o x)) (ap (apply s) e ∙ same_look a reads s g);
      loses = f s g;
      moments = λ l. subst (IsBeside z B c (always_in o Z)) (sym g) (still (always_in o Z) (inl refl));
      asked = inl (ap only_reads e ∙ reads);
    }

    written_so : (w : Writing) (m : Objects) → IsDue o Z → w.key ≡ o.path.key → IsFileOrNot Z w.key o.bytes m → always_in o Z m
    written_so w m h g e = grind arith

    -- a stream that has come this far
    writing_so : (w : Writing) (s : Scene) (repeated : Bool) → IsDue o Z → HasRoom (stream_of B w) → w.key ≡ o.path.key
        → w.block ≡ o.block → (least o z → Writes z B o.bytes c w s repeated) → IsSending o z w s
        → HoldsIn o z c (Write (stream_of B w)) s repeated
    writing_so w s repeated d room key block writes sending =
        record { so_far = w; is = refl; due = d; room = room; key = key; block = block; writes = writes; sending = sending }

    writes_led : (w : Writing) (s : Scene) (repeated : Bool) → IsDue o Z → HasRoom (stream_of B w) → w.key ≡ o.path.key
        → w.block ≡ o.block → (least o z → Writes z B o.bytes c w s repeated) → IsSending o z w s
        → IsLed (Some c) (Write (stream_of B w)) s repeated
    writes_led w s repeated d room key block writes sending =
        let S = stream_of B w in
        let e = sym (request_is o w room.some) in
        record {
          steps = subst (λ r. At (goes o (Write S) (answer s r) repeated) (apply s r)) e
              (stream_goes w s repeated d room key block writes sending);
          hides = subst (λ r. HoldsIn o z c (Write S) (apply s r) true) e
              (writing_so w (apply s (writing.asks B w)) true d room key block
              (λ l. files.hidden z B o.bytes c w s repeated (writes l)) (applied o z ok w s sending key block));
          loses = writing_so w s true d room key block (λ l. files.lost z B o.bytes c w s repeated (writes l)) sending;
          moments = λ l. map_beside (IsFileOrNot Z w.key o.bytes) (always_in o Z) s (λ m e. written_so w m d key e) (writes l).beside;
          asked = inr (d, subst (IsWriteOf o z.content.next) e (is_write o z ok w s sending key block));
        }

    leads : (x : CreateStage) (s : Scene) (repeated : Bool) → HoldsIn o z c x s repeated → IsLed (Some c) x s repeated
    leads Here s repeated h = looks Here (look_asks o.path.key) refl (reads_look B o.path.key) repeated (λ s g. g)
        (look_goes o.path.key refl) s h
    leads Below s repeated h = looks Below (below_asks o.path.key 1) refl refl repeated (λ s g. (g, h.1)) (page_goes o.path.key refl h.1) s
        h.0
    leads (Up d) s repeated h =
        let l = look_of (head (fin.get Z d.first)) in
        looks (Up d) (Head d.first) refl refl repeated (λ s g. (g, h.1, h.2))
        (on_goes (climbed d l) h.1 (seen_on Z (keys_above o.path.key) d l h.2 (head_tells Z d.first))) s h.0
    leads (Write m) s repeated h =
        subst (λ m. IsLed (Some c) (Write m) s repeated) (sym h.is)
        (writes_led h.so_far s repeated h.due h.room h.key h.block h.writes h.sending)
    leads DropMarkers s repeated h = record {
      steps = drop_goes s repeated h.0 h.2;
      hides =
          (h.0, h.1, λ l. map_beside (λ m. m ≡ without (file_in o Z) Ks) (IsMade o Z) (apply s drops) (λ m e. inr e) (dropped s (h.2 l)));
      loses = h;
      moments = λ l. map_beside (IsMade o Z) (always_in o Z) s (λ m e. inr (h.0, e)) (h.2 l);
      asked = inr (h.0, Cleans h.1 refl);
    }

    -- ---- if each send was answered

    here_own : (y : CreateStep) (s : Scene) → s ≡ z → OwnStep o z y s
    here_own y s e = subst (OwnStep o z y) (sym e) (own_z o z y)

    written_own : (w : Writing) (v : Heard) (s : Scene) → HeardSo z B w.key o.bytes c v s → OwnHeard z B v s → OwnStep o z (step_of o v) s
    written_own w v s h g = grind arith

    stream_own : (w : Writing) (s : Scene) → HasRoom (stream_of B w) → Writes z B o.bytes c w s false → NoneBut w.upload z B s
        → OwnStep o z (goes o (Write (stream_of B w)) (answer s (asks o (Write (stream_of B w)))) false)
        (apply s (asks o (Write (stream_of B w))))
    stream_own w s room h g =
        let a = answer s (writing.asks B w) in
        subst (λ r. OwnStep o z (goes o (Write (stream_of B w)) (answer s r) false) (apply s r)) (sym (request_is o w room.some))
        (unless_so (look_of a) (End (Err NoSuchBucket)) (heard_in o (stream_of B w) a false)
        (λ y. OwnStep o z y (apply s (writing.asks B w)))
        (λ e. absurd (files.no_missing z B o.bytes c w s false h e))
        (subst (λ y. OwnStep o z y (apply s (writing.asks B w))) (sym (heard_is o w room.some a false))
        (written_own w (heard w a false) (apply s (writing.asks B w))
        (files.goes_on z B o.bytes c w s false h) (files.own_goes z B o.bytes c w s h g))))

    drop_own : (s : Scene) → IsBeside z B c (IsMade o Z) s → NoneBut None z B s
        → OwnStep o z (goes o DropMarkers (answer s drops) false) (apply s drops)
    unfolding dropped
    drop_own s h g =
        unless_so (look_of (answer s drops)) (End (Err NoSuchBucket)) (End (Ok tt)) (λ y. OwnStep o z y (apply s drops))
        (λ e. absurd (drop_look s h e))
        (λ id l e. upload_there (apply s drops) (dropped s h).content (dropped s h).next id (dropped s h).scene ∙ sym
        (upload_there s h.content h.next id h.scene) ∙ g id l e (λ f. absurd (cc)))
      where
        upload_there : (s : Scene) (d : BucketContent) (n id : ℕ) → s ≡ placed z B d n → upload_at s.content B id ≡ fin.get d.uploads id
        upload_there s d n id e = ap (λ (s : Scene). upload_at s.content B id) e ∙ ap (λ v. upload_in v id) (get_put z.content.buckets B d)

    owns : (x : CreateStage) (s : Scene) → HoldsIn o z c x s false → least o z → NoneBut (upload_of x) z B s
        → OwnStep o z (goes o x (answer s (asks o x)) false) (apply s (asks o x))
    owns Here s h l g = here_own (goes o Here (answer s (asks o Here)) false) (apply s (asks o Here))
        (same_look (look_asks o.path.key) (reads_look B o.path.key) s h)
    owns Below s h l g = here_own (goes o Below (answer s (asks o Below)) false) (apply s (asks o Below))
        (same_look (below_asks o.path.key 1) refl s h.0)
    owns (Up d) s h l g = here_own (goes o (Up d) (answer s (asks o (Up d))) false) (apply s (asks o (Up d)))
        (same_look (Head d.first) refl s h.0)
    owns (Write m) s h l g =
        subst
        (λ (m : Stream). NoneBut m.upload z B s
        → OwnStep o z (goes o (Write m) (answer s (asks o (Write m))) false) (apply s (asks o (Write m)))) (sym h.is)
        (stream_own h.so_far s h.room (h.writes l)) g
    owns DropMarkers s h l g = drop_own s (h.2 l) g

  -- ---- whether the bucket exists or not

  none_hides : fin.get z.content.buckets B ≡ None → (s : Scene) → s ≡ z → apply s (asks o Here) ≡ z
  none_hides e s h = ap (λ s. apply s (asks o Here)) h ∙ applied_none z B (look_asks o.path.key) (ap objects_of e)

  all_led : (v : Option BucketContent) → fin.get z.content.buckets B ≡ v → (x : CreateStage) (s : Scene) (repeated : Bool)
      → HoldsAt v o z x s repeated → IsLed v x s repeated
  all_led None e x s repeated h =
      let k = none_goes e s h.0 in
      subst (λ x. IsLed None x s repeated) (sym h.1)
      (record {
        steps = subst (λ y. OnAt None y (apply s (asks o Here))) (k.1 false ∙ sym (k.1 repeated)) k.0;
        hides = (none_hides e s h.0, refl);
        loses = (h.0, refl);
        moments = λ l. (h.0, tt);
        asked = inl (reads_look B o.path.key);
      })
  all_led (Some c) e x s repeated h = leads c e x s repeated h

  all_own : (v : Option BucketContent) → fin.get z.content.buckets B ≡ v → (x : CreateStage) (s : Scene) → HoldsAt v o z x s false
      → least o z → NoneBut (upload_of x) z B s → OwnStep o z (goes o x (answer s (asks o x)) false) (apply s (asks o x))
  all_own v h x s g e f = grind (arith, none_hides, own_z, owns)

  began : (v : Option BucketContent) → HoldsAt v o z Here z false
  began v = grind arith

  goes_so : (y : CreateStep) (s : Scene) → OnAt (bucket_at z B) y s → (n : CreateFile) → n.file ≡ o
      → Goes (λ p s. holds n z p s false) (gives n z) (stepped o y) s
  goes_so y s h n g = grind arith

answered_in : (o : Creation) (z : Objects) (a : CreateAnswer) (m : Objects) → Creates o.path o.bytes o.overwrite o.policy z a m
    → always_in o z m
answered_in o z a m h = grind arith

-- What is given at the end also holds as it does at every point.
ends_always : (o : Creation) (z : Scene) (a : CreateAnswer) (s : Scene) → GivesFile o z a s → AlwaysFile o z s
ends_always o z a s h l = by (bucket_at z o.path.bucket) refl (h l).0
  where
    by : (v : Option BucketContent) → bucket_at z o.path.bucket ≡ v
        → InFile v (λ m n. Creates o.path o.bytes o.overwrite o.policy m a n) (a ≡ Err NoSuchBucket) z o.path.bucket s
        → InFile v (always_in o) (Unit {0}) z o.path.bucket s
    by None e g = (g.0, tt)
    by (Some c) e g = record {
      content = g.content;
      next = g.next;
      scene = g.scene;
      later = g.later;
      objects = answered_in o c.objects a
          g.content.objects g.objects;
    }

-- ---- the number of requests that are left falls

abbrev FallsTo : Creation → CreateStep → ℕ → Type 0
FallsTo o (Next x) n = left_at o x < n
FallsTo o (End a) n = Unit {0}

fall_climb : (o : Creation) (c : Climbed) (m n : ℕ) → IsShorter c m → m + write_left o ≤ n → FallsTo o (on_climb o c) n
fall_climb o c m n h g = grind arith

fall_all : (o : Creation) (n : ℕ) → length (keys_above o.path.key) + write_left o ≤ n → FallsTo o (climb o) n
fall_all o n h = fall_climb o (climbing (keys_above o.path.key)) (length (keys_above o.path.key)) n (climbing_falls (keys_above o.path.key))
    h

fall_here : (o : Creation) (l : Look) → FallsTo o (here_at o l) (left_at o Here)
fall_here o l = grind arith

fall_heard : (o : Creation) (w : Writing) (h : Heard) → GoesOn o.path.bucket w h
    → FallsTo o (step_of o h) (left_at o (Write (stream_of o.path.bucket w)))
fall_heard o w h g = grind arith

-- Holds if the stream of the stage has room.
abbrev HasBlock : Creation → CreateStage → Type 0
HasBlock o (Write m) = (w : Writing) × (m ≡ stream_of o.path.bucket w) × HasRoom (stream_of o.path.bucket w)
HasBlock o _ = Unit {0}

falls_on : (o : Creation) (x : CreateStage) (r : Reply) (repeated : Bool) → HasBlock o x → FallsTo o (on o x r repeated) (left_at o x)
falls_on o Here r repeated h = elim o.path.key as (λ k. FallsTo o (on_here k o (look_of r)) (left_at o Here))
    [ [] ↦ tt | x ∷ p ↦ fall_here o (look_of r) ]
falls_on o Below r repeated h = elim (look_of r) as (λ l. FallsTo o (on_below o l) (left_at o Below))
    [ There ↦ tt | _ ↦ fall_all o (left_at o Below) (omega arith) ]
falls_on o (Up c) r repeated h = fall_climb o (climbed c (look_of r)) (length c.rest) (left_at o (Up c)) (climbed_falls c (look_of r))
    (omega arith)
falls_on o (Write m) r repeated h =
    subst (λ (m : Stream). FallsTo o (heard_in o m r repeated) (left_at o (Write m))) (sym h.1)
    (subst (λ y. FallsTo o y (left_at o (Write (stream_of o.path.bucket h.0)))) (sym (heard_is o h.0 h.2.some r repeated))
    (fall_heard o h.0 (heard h.0 r repeated) (goes_further o.path.bucket h.0 h.2 r repeated)))
falls_on o DropMarkers r repeated h = tt

falls_to : (o : Creation) (x : CreateStage) (r : Reply) (repeated : Bool) → HasBlock o x → FallsTo o (goes o x r repeated) (left_at o x)
falls_to o x r repeated h = unless_so (look_of r) (End (Err NoSuchBucket)) (on o x r repeated) (λ y. FallsTo o y (left_at o x)) (λ e. tt)
    (falls_on o x r repeated h)

stepped_falls : (o : Creation) (y : CreateStep) (s : Scene) (n : ℕ) → FallsTo o y n → Falls left (stepped o y) s n
stepped_falls o y s n h = grind arith

has_block : (v : Option BucketContent) (o : Creation) (z : Scene) (x : CreateStage) (s : Scene) (repeated : Bool)
    → HoldsAt v o z x s repeated → HasBlock o x
has_block (Some c) o z (Write m) s repeated h = (h.so_far, h.is, h.room)
has_block v o z x s repeated h = grind arith

-- ---- the laws

abbrev Next_so : CreateFile → Scene → CreateFile → Scene → Bool → Type 0
Next_so o z p s repeated = Goes (λ p s. holds o z p s false) (gives o z) (led p (answer s (request p)) repeated) (apply s (request p))

course_goes : (o : CreateFile) (z : Scene) (p : CreateFile) (s : Scene) (repeated : Bool) → holds o z p s repeated
    → Next_so o z p s repeated
course_goes o z p s repeated h =
    subst (λ n. Goes (λ p s. holds o z p s false) (gives o z) (stepped n (goes n p.stage (answer s (asks n p.stage)) repeated))
    (apply s (asks n p.stage))) (sym h.0)
    (goes_so o.file z h.1 (goes o.file p.stage (answer s (asks o.file p.stage)) repeated) (apply s (asks o.file p.stage))
    (all_led o.file z h.1 (bucket_at z o.file.path.bucket) refl p.stage s repeated h.2).steps o refl)

course_hidden : (o : CreateFile) (z : Scene) (p : CreateFile) (s : Scene) (repeated : Bool) → holds o z p s repeated
    → holds o z p (apply s (request p)) true
course_hidden o z p s repeated h = (
  h.0,
  h.1,
  subst (λ n. HoldsAt (bucket_at z o.file.path.bucket) o.file z p.stage (apply s (asks n p.stage)) true) (sym h.0)
      (all_led o.file z h.1 (bucket_at z o.file.path.bucket) refl p.stage s repeated h.2).hides,
)

course_falls : (o : CreateFile) (z : Scene) (p : CreateFile) (s : Scene) (repeated : Bool) → holds o z p s repeated
    → Falls left (led p (answer s (request p)) repeated) (apply s (request p)) (left p s)
course_falls o z p s repeated h = grind (arith, stepped_falls, falls_to, has_block)

begins_so : (p : CreateFile) (s : Scene) → starts p → holds p s p s false
begins_so p s h = (
  refl,
  h.0,
  subst (λ x. HoldsAt (bucket_at s p.file.path.bucket) p.file s x s false) (sym h.1)
      (began p.file s h.0 (bucket_at s p.file.path.bucket)),
)

pub create_laws : IsCourse starts request led holds gives always left
create_laws = record {
  begin = λ p s h. begins_so p s h;
  lost = λ o z p s repeated h. (h.0, h.1, (all_led o.file z h.1 (bucket_at z o.file.path.bucket) refl p.stage s repeated h.2).loses);
  hidden = λ o z p s repeated h. course_hidden o z p s repeated h;
  goes_on = λ o z p s repeated h. course_goes o z p s repeated h;
  falls = λ o z p s repeated h. course_falls o z p s repeated h;
  no_rise = λ o z p s repeated h. omega arith;
  during = λ o z p s repeated h l. (all_led o.file z h.1 (bucket_at z o.file.path.bucket) refl p.stage s repeated h.2).moments l;
  at_end = λ o z a s h. ends_always o.file z a s h;
}

-- ---- if each send was answered

abbrev NextOwn : CreateFile → Scene → Step CreateFile CreateAnswer → Scene → Type 0
NextOwn o z (Next p) s = least o.file z → NoneBut (upload_of p.stage) z o.file.path.bucket s
NextOwn o z (End a) s = least o.file z → NoneLeft z o.file.path.bucket s

both_so : (o : CreateFile) (z : Scene) (y : Step CreateFile CreateAnswer) (s : Scene) → Goes (λ p s. holds o z p s false) (gives o z) y s
    → NextOwn o z y s → Goes (calm o z) (leaves o z) y s
both_so o z y s h g = grind arith

own_so : (o : CreateFile) (z : Scene) (f : Creation) (y : CreateStep) (s : Scene) → (least o.file z → OwnStep o.file z y s)
    → NextOwn o z (stepped f y) s
own_so o z f y s h = grind arith

calm_goes : (o : CreateFile) (z : Scene) (p : CreateFile) (s : Scene) → calm o z p s
    → Goes (calm o z) (leaves o z) (led p (answer s (request p)) false) (apply s (request p))
calm_goes o z p s h =
    both_so o z (led p (answer s (request p)) false) (apply s (request p)) (course_goes o z p s false h.0)
    (subst (λ n. NextOwn o z (stepped n (goes n p.stage (answer s (asks n p.stage)) false)) (apply s (asks n p.stage))) (sym h.0.0)
    (own_so o z o.file (goes o.file p.stage (answer s (asks o.file p.stage)) false) (apply s (asks o.file p.stage))
    (λ l. all_own o.file z h.0.1 (bucket_at z o.file.path.bucket) refl p.stage s h.0.2 l (h.1 l))))

pub create_calm : IsCalm starts request led calm leaves
create_calm = record {
  begin = λ p s h. (begins_so p s h, λ l id le e ne. e);
  goes_on = λ o z p s h. calm_goes o z p s h;
}

pub create_asked : MaySend request holds sends
create_asked o z p s repeated h =
    subst
    (λ n. (only_reads (asks n p.stage) ≡ true)
    ⊎ (SomeDue o.file (bucket_at z o.file.path.bucket) × IsWriteOf o.file z.content.next (asks n p.stage))) (sym h.0)
    (all_led o.file z h.1 (bucket_at z o.file.path.bucket) refl p.stage s repeated h.2).asked
