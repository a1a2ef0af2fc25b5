-- How the facts are kept when a scene changes: when it leaves the job alone, when things are deleted, when an object or a file is put at a
-- place, and when an upload changes.
use Rattle.text_and_lists.proofs.Members.{false_true, in_map, map_in, nat_false, nat_here, nat_other, nat_true, none_some, same_or_not}
use Rattle.text_and_lists.proofs.Members.{same_or_other, some_is, text_true}
use Rattle.text_and_lists.specs.Members.{IsIn}
use Rattle.job_invariant.proofs.Legal.{small_task}
use Rattle.job_invariant.proofs.Placed.{key_file, magic_set, not_both, one_place, own_place, path_below, record_magic, record_place}
use Rattle.job_invariant.proofs.Placed.{set_magic}
use Rattle.job_invariant.proofs.Placed.{set_object, set_same, set_stood}
use Rattle.job_invariant.proofs.Whose.{same_or_another, who_here, who_other}
use Rattle.job_invariant.specs.Facts.{AreCommits, Facts, Hold, Ids, IsHeld, IsOwnPlace, IsOwned, IsRecord, IsSet, IsTemporary, IsWritten}
use Rattle.job_invariant.specs.Facts.{Kept}
use Rattle.job_invariant.specs.Facts.{Owned, Records, Sets, Standing, Temporaries, knowing}
use Rattle.job_invariant.specs.Stores.{IsKnown, at_id, at_key, at_path, at_place, sets_at}
use Rattle.job_invariant.specs.inner.Stores.{Leaves, Puts, Turns, end_left, part_left}
use Rattle.job_invariant.specs.Told.{Told, entry, put_who, tell, tell_attempt, with_known}
use Rattle.job_model.specs.Attempts.{Who}
use Rattle.job_model.specs.Files.{File}
use Rattle.job_model.specs.JobScript.{Script}
use Rattle.job_model.specs.Known.{Drawn, Known}
use Rattle.job_model.specs.Legal.{IsLegal}
use Rattle.job_protocol.specs.Knowledge.{with_part as drawn_part}
use Rattle.job_protocol.specs.Outputs.{files}
use Rattle.job_protocol.specs.Records.{file_key, set_text}
use Rattle.job_protocol.specs.Seen.{Seen, Times, is_magic, is_publishing, is_staging, last_by, see}
use Rattle.job_protocol.specs.Uploading.{file_parts}
use Rattle.magic_paths.specs.Places.{Place, RecordPlace, SetPlace, StagedSetPlace, TemporaryPlace, key_at, path_at}
use Rattle.s3_types.specs.Answer.{apply, with_files}
use Rattle.s3_types.specs.Multipart.{is_part_number, with_part}
use Rattle.s3_types.specs.Store.{Files, Scene, Upload}
use Rattle.s3_types.specs.Tags.{Spelled, plain_tag}
use Rattle.s3_types.specs.declared.journal.Outcome.{Outcome}
use Rattle.s3_types.specs.declared.journal.Outcome.TheVariants.{RequestLost, Slow}
use Rattle.s3_types.specs.declared.object.Object.{Object}
use Rattle.s3_types.specs.declared.request.Request.{Request}
use Rattle.std.proofs.Common.{Bool, List, None, Option, Some, ap, arith, cond, false, inl, inr, length, length-append, map, nat_eq, refl}
use Rattle.std.proofs.Common.{slice_get, subst, suc, sym, take, true, zero, ℕ, [], ◌&&◌, ◌++◌, ◌<◌, ◌∙◌, ◌∷◌, ◌≡◌, ◌≤◌, ◌⊎◌}
use Rattle.std.proofs.Math.Bool.{and-false}
use Rattle.std.proofs.lemmas.List.{map-append}
use Rattle.std.specs.Option.{option_map}
use Rattle.std.specs.Ordering.{nat_cmp}
use Rattle.store_frame.specs.Held.{HasBucket}
use Rattle.std.specs.FinMap as fin

-- ---- what stays

-- If neither the store nor its live uploads change.
pub facts_so : {w : Script} {minimum : ℕ} (s : Scene) (files : Files) {last more : ℕ → Option ℕ} {m n : Told} → Facts w minimum s last m
    → let u = with_files s files in
    Ids (at_id w s.content) s.content.next n.drawn → Owned w minimum (at_id w s.content) n.ended n.undone n.drawn
    → (is_magic w.committer ≡ true → Records w minimum (at_place w s.content) n.drawn)
    → Sets w minimum (sets_at w u) more n.publish_sent n.drawn → (n.cleaned ≡ false → Standing w (sets_at w u) more)
    → (is_staging w.committer ≡ true → Temporaries w minimum (at_path w u) n.put_sent n.drawn) → Kept n.publish_sent n.undone
    → Facts w minimum u more n
facts_so s files h g e f p q r u = grind arith

-- Each id is still drawn once, if other uploads are live.
ids_so : {uploads more : ℕ → Option Upload} {next later : ℕ} {drawn : Who → List Drawn} → Ids uploads next drawn → later ≡ next
    → ((id : ℕ) (x : Upload) → more id ≡ Some x → id < next) → Ids more later drawn
ids_so {more = more} {drawn = drawn} i same fresh = subst (λ n. Ids more n drawn) (sym same)
    (record { fresh = fresh; below = i.below; apart = i.apart; once = i.once })

held_same : {w : Script} {minimum : ℕ} {more uploads : ℕ → Option Upload} {d : Drawn} {f : File} → more d.upload ≡ uploads d.upload
    → IsHeld w minimum uploads d f → IsHeld w minimum more d f
held_same same h = record { parts = h.parts; stands = same ∙ h.stands; blocks = h.blocks; back = h.back }

-- An upload is owned as it was, if it is held.
pub owned_by : {w : Script} {minimum : ℕ} {uploads more : ℕ → Option Upload} {ended over : ℕ → Bool} {undone back : Who → Bool} {a : Who}
    {d : Drawn} → (o : IsOwned w minimum uploads ended undone a d)
    → (over d.upload ≡ false → back a ≡ false → IsHeld w minimum more d o.file) → IsOwned w minimum more over back a d
owned_by o held = record { file = o.file; mine = o.mine; key = o.key; few = o.few; tags = o.tags; sizes = o.sizes; held = held }

owned_same : {w : Script} {minimum : ℕ} {uploads more : ℕ → Option Upload} (m : Told) {a : Who} {d : Drawn}
    → more d.upload ≡ uploads d.upload → IsOwned w minimum uploads m.ended m.undone a d → IsOwned w minimum more m.ended m.undone a d
owned_same m same o = owned_by o (λ e u. held_same same (o.held e u))

-- ---- the scene leaves the job alone

-- Except for the state of known uploads.
scene_keep : {w : Script} {minimum : ℕ} {s u : Scene} {last : ℕ → Option ℕ} {m : Told} {ended : ℕ → Bool} → IsLegal w
    → Leaves w m.drawn ended s u → Owned w minimum (at_id w u.content) m.ended m.undone m.drawn → Facts w minimum s last m
    → Facts w minimum u last m
scene_keep {w = w} {s = s} {u = u} {m = m} j l owned f =
    let later : s.content.next ≤ u.content.next = l.later in
    let set : (t : ℕ) → t < w.tasks → sets_at w u t ≡ sets_at w s t = λ t h. set_same w.committer w s u t (l.objects _ (set_magic j t h))
    (l.files _ (path_below w (StagedSetPlace t))) in
    record {
      there = l.there;
      least = l.least ∙ f.least;
      ids = record {
        fresh = l.fresh;
        below = λ a x i. let old : x.upload < s.content.next = f.ids.below a x i in omega arith;
        apart =
            f.ids.apart;
        once = f.ids.once;
      };
      owned = owned;
      below = λ g k x h e. f.below g k x h (sym (l.objects k h) ∙ e);
      records = λ g a h x i e. f.records g a h x i (sym (l.objects _ (record_magic j g a h i)) ∙ e);
      sets = λ t b h e. f.sets t b h (sym (set t h) ∙ e);
      standing = λ c t a h e. let b = f.standing c t a h e in (b.0, set t h ∙ b.1);
      temporaries = λ g a b d e. f.temporaries g a b d (sym (l.files _ (path_below w (TemporaryPlace a.task a.attempt))) ∙ e);
      kept = f.kept;
    }

pub leaves_keep : {w : Script} {minimum : ℕ} {s u : Scene} {last : ℕ → Option ℕ} {m : Told} → IsLegal w → Leaves w m.drawn m.ended s u
    → Facts w minimum s last m → Facts w minimum u last m
leaves_keep j l f = scene_keep j l (λ a x i. let o = f.owned a x i in owned_by o
    (λ e u. held_same (l.uploads x.upload (a, x, i, refl) e) (o.held e u))) f

-- ---- things are deleted

-- All that exists existed before, and no upload changes.
pub record Drops (w : Script) (s u : Scene) : Type 0 where
  pub there : HasBucket u.content w.dest.bucket
  pub least : u.content.minimum ≡ s.content.minimum
  pub next : u.content.next ≡ s.content.next
  pub objects : (k : List ℕ) (x : Object) → at_key w u.content k ≡ Some x → at_key w s.content k ≡ Some x
  pub uploads : (id : ℕ) → at_id w u.content id ≡ at_id w s.content id
  pub files : (p b : List ℕ) → fin.get u.files p ≡ Some b → fin.get s.files p ≡ Some b

-- The sets that exist stay, until the driver cleans up.
pub drops_keep : {w : Script} {minimum : ℕ} {s u : Scene} {last : ℕ → Option ℕ} {m : Told} → Drops w s u
    → (m.cleaned ≡ false → (t : ℕ) → t < w.tasks → sets_at w u t ≡ sets_at w s t) → Facts w minimum s last m → Facts w minimum u last m
drops_keep {w = w} {s = s} {u = u} {m = m} d free f =
    record {
      there = d.there;
      least = d.least ∙ f.least;
      ids = ids_so f.ids d.next (λ id x e. f.ids.fresh id x (sym (d.uploads id) ∙ e));
      owned = λ a x i. owned_same m (d.uploads x.upload) (f.owned a x i);
      below = λ g k x h e. f.below g k x h (d.objects k x e);
      records = λ g a h x i e. f.records g a h x i (d.objects _ x e);
      sets = λ t b h e. f.sets t b h (set_stood w.committer w s u t b (λ x g. d.objects _ x g) (λ x g. d.files _ x g) e);
      standing = λ c t a h e. let b = f.standing c t a h e in (b.0, free c t h ∙ b.1);
      temporaries = λ g a b r e. f.temporaries g a b r (d.files _ b e);
      kept = f.kept;
    }

-- ---- an object is put at a place of the job

pub put_keep : {w : Script} {minimum : ℕ} {s u : Scene} {last more : ℕ → Option ℕ} {m : Told} → IsLegal w → is_magic w.committer ≡ true
    → (p : Place) (x : Object) → IsOwnPlace w p → Puts w s u (key_at w.dest.key w.job p) x
    → ((a : Who) (f : File) → IsIn f (files w a) → RecordPlace a.task a.attempt f.0 ≡ p → IsRecord w minimum (m.drawn a) a f x)
    → ((t : ℕ) → t < w.tasks → SetPlace t ≡ p → IsSet w minimum more m.publish_sent m.drawn t x.bytes)
    → ((t : ℕ) → (SetPlace t ≡ p → ⊥) → more t ≡ last t)
    → Facts w minimum s last m → Facts w minimum u more m
put_keep {w = w} {minimum = minimum} {s = s} {u = u} {last = last} {more = more} {m = m} j magic p x own puts of_record of_set others f =
    record {
      there = puts.there;
      least = puts.least ∙ f.least;
      ids = ids_so f.ids puts.next (λ id y e. f.ids.fresh id y (sym (puts.uploads id) ∙ e));
      owned = λ a y i. owned_same m (puts.uploads y.upload) (f.owned a y i);
      below = λ g k y h e. elim (same_or_other k (key_at w.dest.key w.job p)) [
        | inl is ↦ (p, own, is)
        | inr ne ↦ f.below g k y h (sym (puts.others k ne) ∙ e)
      ];
      records = λ g a h y i e. elim (same_or_other (key_at w.dest.key w.job (RecordPlace a.task a.attempt h.0))
          (key_at w.dest.key w.job p)) [
            | inl is ↦
                let at : RecordPlace a.task a.attempt h.0 ≡ p = one_place j (RecordPlace a.task a.attempt h.0) p
                (record_place j magic a h i) (own_place j magic p own) is in
                let same : x ≡ y = some_is (sym puts.here ∙ ap (at_key w u.content) (sym is) ∙ e) in
                subst (λ z. IsRecord w minimum (m.drawn a) a h z) same (of_record a h i at)
            | inr ne ↦ f.records g a h y i (sym (puts.others _ ne) ∙ e)
          ];
      sets = λ t b h e. elim (same_or_other (key_at w.dest.key w.job (SetPlace t)) (key_at w.dest.key w.job p)) [
        | inl is ↦
            let at : SetPlace t ≡ p = one_place j (SetPlace t) p (small_task j t h) (own_place j magic p own) is in
            let o = set_object (at_place w u.content (SetPlace t)) b (sym (magic_set w.committer w u t magic) ∙ e) in
            let same : x ≡ o.0 = some_is (sym puts.here ∙ ap (at_key w u.content) (sym is) ∙ o.1) in
            subst (λ z. IsSet w minimum more m.publish_sent m.drawn t z) (ap (λ (y : Object). y.bytes) same ∙ o.2) (of_set t h at)
        | inr ne ↦
            let old = f.sets t b h (sym (set t ne) ∙ e) in
            record {
              by = old.by;
              task = old.task;
              number = old.number;
              latest = others t (λ q. ne (ap (key_at w.dest.key w.job) q)) ∙
                  old.latest;
              has_sent = old.has_sent;
              commits = old.commits;
              are = old.are;
              text = old.text;
            }
      ];
      standing = λ c t a h e. elim (same_or_other (key_at w.dest.key w.job (SetPlace t)) (key_at w.dest.key w.job p)) [
        | inl is ↦ (x.bytes, magic_set w.committer w u t magic ∙ ap (option_map (λ o. o.bytes)) (ap (at_key w u.content) is ∙ puts.here))
        | inr ne ↦
            let old = f.standing c t a h (sym (others t (λ q. ne (ap (key_at w.dest.key w.job) q))) ∙ e) in
            (old.0, set t ne ∙ old.1)
      ];
      temporaries = λ g. absurd (not_both w.committer magic g);
      kept = f.kept;
    }
  where
    set : (t : ℕ) → (key_at w.dest.key w.job (SetPlace t) ≡ key_at w.dest.key w.job p → ⊥) → sets_at w u t ≡ sets_at w s t
    set t ne = set_same w.committer w s u t (puts.others _ ne) (ap (λ (z : Files). fin.get z (path_at w.job (StagedSetPlace t))) puts.files)

-- ---- an upload of the job changes

-- All facts but those about uploads.
turn_keep : {w : Script} {minimum : ℕ} {s u : Scene} {last : ℕ → Option ℕ} {m : Told} {id : ℕ} {x : Option Upload} → IsLegal w
    → Turns w s u id x
    → ((y : Upload) → x ≡ Some y → id < s.content.next)
    → Owned w minimum (at_id w u.content) m.ended m.undone m.drawn
    → Facts w minimum s last m → Facts w minimum u last m
turn_keep {w = w} {s = s} {u = u} {id = id} j t stood owned f =
    let low : (v : ℕ) (y : Upload) → at_id w u.content v ≡ Some y → v < s.content.next = λ v y e. elim (same_or_not v id) [
      | inl is ↦ subst (λ n. n < s.content.next) (sym is) (stood y (sym t.here ∙ ap (at_id w u.content) (sym is) ∙ e))
      | inr ne ↦ f.ids.fresh v y (sym (t.others v ne) ∙ e)
    ] in
    let later : s.content.next ≤ u.content.next = let same = t.next in omega arith in
    scene_keep {ended = λ v. true} j (record {
      there = t.there;
      least = t.least;
      later = later;
      objects = λ k b. t.objects k;
      uploads = λ v k e. absurd cc;
      fresh = λ v y e. subst (λ n. v < n) (sym t.next) (low v y e);
      files = λ p b. ap (λ (z : Files). fin.get z p) t.files;
    }) owned f

-- What a part that is sent leaves of an upload that is held.
part_held : {w : Script} {minimum : ℕ} {uploads more : ℕ → Option Upload} {x : Drawn} {f : File} (i number : ℕ) (bytes : List ℕ)
    → number ≡ suc i → slice_get (file_parts w minimum f) i ≡ Some bytes
    → more x.upload ≡ part_left x.key number bytes (uploads x.upload) → IsHeld w minimum uploads x f → IsHeld w minimum more x f
part_held {w = w} {minimum = minimum} {more = more} {x = x} {f = f} i number bytes n block turned h =
    by (is_part_number number)
    (turned ∙ ap (part_left x.key number bytes) h.stands ∙ ap (λ b. cond (b && is_part_number number)
    (Some (with_part (record { key = x.key; parts = h.parts }) number bytes)) (Some (record { key = x.key; parts = h.parts })))
    (text_true x.key x.key refl))
  where
    by : (b : Bool) → more x.upload ≡ cond b (Some (with_part (record { key = x.key; parts = h.parts }) number bytes))
        (Some (record { key = x.key; parts = h.parts })) → IsHeld w minimum more x f
    by false e = record { parts = h.parts; stands = e; blocks = h.blocks; back = h.back }
    by true e = record {
      parts = fin.insert h.parts number bytes;
      stands = e;
      blocks = λ k b g. elim (same_or_not k number) [
        | inl is ↦ (i, is ∙ n, block ∙ sym (nat_here h.parts number k bytes is) ∙ g)
        | inr ne ↦ h.blocks k b (sym (nat_other h.parts number k bytes ne) ∙ g)
      ];
      back = λ k l. elim (same_or_not (suc k) number) [
        | inl is ↦ (bytes, nat_here h.parts number (suc k) bytes is)
        | inr ne ↦ let old = h.back k l in (old.0, nat_other h.parts number (suc k) bytes ne ∙ old.1)
      ];
    }

part_stood : (key : List ℕ) (number : ℕ) (bytes : List ℕ) (o : Option Upload) (y : Upload) → part_left key number bytes o ≡ Some y
    → (z : Upload) × (o ≡ Some z)
part_stood key number bytes None y e = absurd (none_some refl e)
part_stood key number bytes (Some z) y e = (z, refl)

-- A part of its file is sent for an upload that an attempt knows.
pub part_keep : {w : Script} {minimum : ℕ} {s u : Scene} {last : ℕ → Option ℕ} {m : Told} → IsLegal w
    → (a : Who) (x : Drawn) (f : File) (i number : ℕ) (bytes : List ℕ)
    → IsIn x (m.drawn a) → IsIn f (files w a) → x.key ≡ file_key w f → number ≡ suc i → slice_get (file_parts w minimum f) i ≡ Some bytes
    → Turns w s u x.upload (part_left x.key number bytes (at_id w s.content x.upload)) → Facts w minimum s last m → Facts w minimum u last m
part_keep {w = w} {minimum = minimum} {s = s} {u = u} {m = m} j a x g i number bytes known mine key n block t f =
    turn_keep j t (λ y e. let z = part_stood x.key number bytes (at_id w s.content x.upload) y e in f.ids.fresh x.upload z.0 z.1)
    (λ b y k.
    let o = f.owned b y k in
    owned_by o (λ e r. elim (same_or_not y.upload x.upload) [
      | inl is ↦
          let who = f.ids.apart b a y x k known is in
          let same : o.file ≡ g = key_file j a o.file g (subst (λ v. IsIn o.file (files w v)) who.0 o.mine) mine
          (sym o.key ∙ ap (λ (v : Drawn). v.key) who.1 ∙ key) in
          let old : IsHeld w minimum (at_id w s.content) x o.file = subst (λ v. IsHeld w minimum (at_id w s.content) v o.file) who.1
          (o.held e r) in
          let at : slice_get (file_parts w minimum o.file) i ≡ Some bytes = ap (λ v. slice_get (file_parts w minimum v) i) same ∙ block in
          subst (λ v. IsHeld w minimum (at_id w u.content) v o.file) (sym who.1) (part_held i number bytes n at t.here old)
      | inr ne ↦ held_same (t.others y.upload ne) (o.held e r)
    ])) f

-- An attempt that takes back what it did ends an upload of its own.
pub abort_keep : {w : Script} {minimum : ℕ} {s u : Scene} {last : ℕ → Option ℕ} {m : Told} → IsLegal w → (a : Who) (x : Drawn)
    → IsIn x (m.drawn a) → m.undone a ≡ true
    → Turns w s u x.upload (end_left x.key (at_id w s.content x.upload)) → Facts w minimum s last m → Facts w minimum u last m
abort_keep {w = w} {minimum = minimum} {s = s} {u = u} {m = m} j a x known over t f =
    turn_keep j t (λ y e. f.ids.below a x known)
    (λ b y k.
    let o = f.owned b y k in
    owned_by o (λ e r. elim (same_or_not y.upload x.upload) [
      | inl is ↦ let who = f.ids.apart b a y x k known is in absurd (false_true r (ap m.undone who.0 ∙ over))
      | inr ne ↦ held_same (t.others y.upload ne) (o.held e r)
    ])) f

-- ---- where the scene stays: what an attempt has sent, and what it learns

-- ---- what an attempt has sent

more_true : (f : Who → Bool) (a b : Who) → f b ≡ true → put_who f a true b ≡ true
more_true f a b e = elim (same_or_another b a) [ inl is ↦ who_here f a true b is | inr ne ↦ who_other f a true b ne ∙ e ]

-- It sends its publishing request, and has taken nothing back.
pub sends_publish : {w : Script} {minimum : ℕ} {s : Scene} {last : ℕ → Option ℕ} {m : Told} (a : Who) → m.undone a ≡ false
    → Facts w minimum s last m → Facts w minimum s last (record m { publish_sent = put_who m.publish_sent a true })
sends_publish {s = s} {m = m} a none f =
    facts_so s s.files f f.ids f.owned f.records
    (λ t b h e. let old = f.sets t b h e in record {
      by = old.by;
      task = old.task;
      number = old.number;
      latest = old.latest;
      has_sent =
          more_true m.publish_sent a old.by old.has_sent;
      commits = old.commits;
      are = old.are;
      text = old.text;
    })
    f.standing f.temporaries (λ b e. elim (same_or_another b a) [
      | inl is ↦ ap m.undone is ∙ none
      | inr ne ↦ f.kept b
          (sym (who_other m.publish_sent a true b ne) ∙ e)
    ])

-- It sends the put of its temporary file.
pub sends_put : {w : Script} {minimum : ℕ} {s : Scene} {last : ℕ → Option ℕ} {m : Told} (a : Who) → Facts w minimum s last m
    → Facts w minimum s last (record m { put_sent = put_who m.put_sent a true })
sends_put {s = s} {m = m} a f =
    facts_so s s.files f f.ids f.owned f.records f.sets f.standing
    (λ g b bytes d e. let old = f.temporaries g b bytes d e in record {
      has_put = more_true m.put_sent a b old.has_put;
      are = old.are;
      text = old.text;
    }) f.kept

-- It sends an abort or a deletion, before its publishing request.
pub sends_undo : {w : Script} {minimum : ℕ} {s : Scene} {last : ℕ → Option ℕ} {m : Told} (a : Who) → m.publish_sent a ≡ false
    → Facts w minimum s last m → Facts w minimum s last (record m { undone = put_who m.undone a true })
sends_undo {s = s} {m = m} a unsent f =
    facts_so s s.files f f.ids
    (λ b x i. let o = f.owned b x i in owned_by o (λ e r. elim (same_or_another b a)
    [ inl is ↦ absurd (false_true r (who_here m.undone a true b is)) | inr ne ↦ o.held e (sym (who_other m.undone a true b ne) ∙ r) ]))
    f.records f.sets f.standing f.temporaries
    (λ b e. elim (same_or_another b a) [
      | inl is ↦ absurd (false_true unsent (ap m.publish_sent (sym is) ∙ e))
      | inr ne ↦ who_other m.undone a true b ne ∙ f.kept b e
    ])

-- ---- what an attempt learns

-- A set depends only on what its own attempt knows.
set_known : {w : Script} {minimum : ℕ} {last : ℕ → Option ℕ} {sent : Who → Bool} {drawn more : Who → List Drawn} {t : ℕ} {bytes : List ℕ}
    → ((b : Who) → sent b ≡ true → drawn b ≡ more b) → IsSet w minimum last sent drawn t bytes → IsSet w minimum last sent more t bytes
set_known {w = w} {minimum = minimum} same s =
    let e = same s.by s.has_sent in
    record {
      by = s.by;
      task = s.task;
      number = s.number;
      latest = s.latest;
      has_sent = s.has_sent;
      commits = s.commits;
      are = subst (λ k. AreCommits w minimum k s.by s.commits) e s.are;
      text = s.text ∙ ap (λ k. set_text w s.by s.commits (knowing k)) e;
    }

temporary_known : {w : Script} {minimum : ℕ} {put : Bool} {ds more : List Drawn} {a : Who} {bytes : List ℕ} → (put ≡ true → ds ≡ more)
    → IsTemporary w minimum put ds a bytes → IsTemporary w minimum put more a bytes
temporary_known {w = w} {minimum = minimum} {a = a} same t =
    let e = same t.has_put in
    record {
      has_put = t.has_put;
      are = subst (λ k. AreCommits w minimum k a (files w a)) e t.are;
      text = t.text ∙ ap (λ k. set_text w a (files w a) (knowing k)) e;
    }

-- What other attempts know stays, and so does who has sent something that this one has not.
known_still : (drawn : Who → List Drawn) (flag : Who → Bool) (a : Who) (ds : List Drawn) → flag a ≡ false → (b : Who) → flag b ≡ true
    → drawn b ≡ put_who drawn a ds b
known_still drawn flag a ds none b e = elim (same_or_another b a) [
  | inl is ↦ absurd (false_true none (ap flag (sym is) ∙ e))
  | inr ne ↦ sym
      (who_other drawn a ds b ne)
]

-- What an attempt learns of its uploads changes nothing that is published or written.
learns_keep : {w : Script} {minimum : ℕ} {s : Scene} {last : ℕ → Option ℕ} {m : Told} (a : Who) (ds : List Drawn) → m.publish_sent a ≡ false
    → m.put_sent a ≡ false → let drawn = put_who m.drawn a ds in
    Ids (at_id w s.content) s.content.next drawn → Owned w minimum (at_id w s.content) m.ended m.undone drawn
    → ((b : Who) (f : File) → IsIn f (files w b) → (r : IsWritten w minimum (m.drawn b) f) → IsIn r.drawn (drawn b))
    → Facts w minimum s last m → Facts w minimum s last (record m { drawn = drawn })
learns_keep {s = s} {m = m} a ds unsent unput ids owned known f =
    facts_so s s.files f ids owned
    (λ q b h x i e. let r = f.records q b h x i e in record {
      written = record
          { drawn = r.written.drawn; known = known b h i r.written; key = r.written.key; complete = r.written.complete };
      bytes = r.bytes;
    })
    (λ t b h e. set_known (known_still m.drawn m.publish_sent a ds unsent) (f.sets t b h e)) f.standing
    (λ q b bytes d e. temporary_known (known_still m.drawn m.put_sent a ds unput b) (f.temporaries q b bytes d e)) f.kept

-- What holds of an attempt's new value if it held of its old one, and held of the others' values, holds of all.
put_all : {X : Type 0} (P : X → Type 0) (f : Who → X) (a : Who) (v : X) → (P (f a) → P v) → (b : Who) → P (f b) → P (put_who f a v b)
put_all P f a v h b x = elim (same_or_another b a) [
  | inl is ↦ subst P (sym (who_here f a v b is)) (h (subst (λ c. P (f c)) is x))
  | inr ne ↦
      subst P (sym (who_other f a v b ne)) x
]

-- A new upload, which nobody knows and which has no part.
abbrev pub new_drawn : List ℕ → ℕ → Drawn
new_drawn key id = record { key = key; upload = id; tags = []; sizes = [] }

pub learn_upload_keep : {w : Script} {minimum : ℕ} {s : Scene} {last : ℕ → Option ℕ} {m : Told} (a : Who) (f : File) (id : ℕ)
    → IsIn f (files w a) → m.publish_sent a ≡ false → m.put_sent a ≡ false → ((d : Drawn) → IsIn d (m.drawn a) → d.key ≡ file_key w f → ⊥)
    → id < s.content.next → (IsKnown m.drawn id → ⊥) → at_id w s.content id ≡ Some (record { key = file_key w f; parts = fin.empty })
    → Facts w minimum s last m → Facts w minimum s last (record m { drawn = put_who m.drawn a (new_drawn (file_key w f) id ∷ m.drawn a) })
learn_upload_keep {w = w} {minimum = minimum} {s = s} {m = m} a g id mine unsent unput fresh_key low unknown stands f =
    learns_keep a (new_drawn (file_key w g) id ∷ m.drawn a) unsent unput
    (record {
      fresh = f.ids.fresh;
      below = λ b d i. elim (told b d i) [
        | inl new ↦ subst (λ n. n < s.content.next) (sym (ap (λ (v : Drawn). v.upload) new.1)) low
        | inr old ↦ f.ids.below b d old
      ];
      apart = λ b v d e i k same. elim (told b d i) [
        | inl new ↦ elim (told v e k) [
          | inl also ↦ (new.0 ∙ sym also.0, new.1 ∙ sym also.1)
          | inr old ↦ absurd (unknown (v, e, old, sym same ∙ ap (λ (x : Drawn). x.upload) new.1))
        ]
        | inr was ↦ elim (told v e k) [
          | inl also ↦ absurd (unknown (b, d, was, same ∙ ap (λ (x : Drawn). x.upload) also.1))
          | inr old ↦ f.ids.apart b v d e was old same
        ]
      ];
      once = λ b d e i k same. elim (told b d i) [
        | inl new ↦ elim (told b e k) [
          | inl also ↦ new.1 ∙ sym also.1
          | inr old ↦ absurd (fresh_key e (subst (λ v. IsIn e (m.drawn v)) new.0 old) (sym same ∙ ap (λ (x : Drawn). x.key) new.1))
        ]
        | inr was ↦ elim (told b e k) [
          | inl also ↦ absurd (fresh_key d (subst (λ v. IsIn d (m.drawn v)) also.0 was) (same ∙ ap (λ (x : Drawn). x.key) also.1))
          | inr old ↦ f.ids.once b d e was old same
        ]
      ];
    })
    (λ b d i. elim (told b d i) [
      | inl new ↦
          let P : Drawn → Type 0 = λ v. IsOwned w minimum (at_id w s.content) m.ended m.undone b v in
          subst P (sym new.1) (record {
            file = g;
            mine = subst (λ v. IsIn g (files w v)) (sym new.0) mine;
            key = refl;
            few = omega arith;
            tags = refl;
            sizes = refl;
            held = λ e r. empty_held;
          })
      | inr old ↦ f.owned b d old
    ])
    (λ b h i r. put_all (IsIn r.drawn) m.drawn a (new_drawn (file_key w g) id ∷ m.drawn a) (λ k. inr k) b r.known) f
  where
    told : (b : Who) (d : Drawn) → IsIn d (put_who m.drawn a (new_drawn (file_key w g) id ∷ m.drawn a) b)
        → ((b ≡ a) × (d ≡ new_drawn (file_key w g) id)) ⊎ IsIn d (m.drawn b)
    told b d h = grind arith

    empty_held : IsHeld w minimum (at_id w s.content) (new_drawn (file_key w g) id) g
    empty_held = record {
      parts = fin.empty;
      stands = stands;
      blocks = λ n b e. absurd (none_some (fin.get-empty nat_cmp n) e);
      back = λ i l. absurd (omega arith);
    }

-- ---- a part that came back

abbrev pub one_more : Spelled → ℕ → Drawn → Drawn
one_more tag size d = record { key = d.key; upload = d.upload; tags = d.tags ++ tag ∷ []; sizes = d.sizes ++ size ∷ [] }

pub part_upload : (id : ℕ) (tag : Spelled) (size : ℕ) (d : Drawn) → ((drawn_part id tag size d).upload ≡ d.upload)
    × ((drawn_part id tag size d).key ≡ d.key)
part_upload id tag size d = elim (nat_eq d.upload id) as (λ b. let e = cond b (one_more tag size d) d in (e.upload ≡ d.upload) ×
    (e.key ≡ d.key)) [ true ↦ (refl, refl) | false ↦ (refl, refl) ]

pub part_other : (id : ℕ) (tag : Spelled) (size : ℕ) (d : Drawn) → (d.upload ≡ id → ⊥) → drawn_part id tag size d ≡ d
part_other id tag size d ne = ap (λ b. cond b (one_more tag size d) d) (nat_false d.upload id ne)

pub part_here : (id : ℕ) (tag : Spelled) (size : ℕ) (d : Drawn) → d.upload ≡ id → drawn_part id tag size d ≡ one_more tag size d
part_here id tag size d is = ap (λ b. cond b (one_more tag size d) d) (nat_true d.upload id is)

-- The first parts and the next one.
take_next : (n : ℕ) (xs : List (List ℕ)) (b : List ℕ) → slice_get xs n ≡ Some b → take (suc n) xs ≡ take n xs ++ b ∷ []
take_next n [] b e = absurd (none_some refl e)
take_next zero (x ∷ xs) b e = ap (λ y. y ∷ []) (some_is e)
take_next (suc n) (x ∷ xs) b e = ap (λ l. x ∷ l) (take_next n xs b e)

next_of : {Y : Type 0} (g : List ℕ → Y) (ys : List Y) (y : Y) (xs : List (List ℕ)) (b : List ℕ) (n : ℕ) → ys ≡ map g (take n xs)
    → slice_get xs n ≡ Some b → y ≡ g b → ys ++ y ∷ [] ≡ map g (take (suc n) xs)
next_of g ys y xs b n e at is = ap (λ l. l ++ y ∷ []) e ∙ ap (λ v. map g (take n xs) ++ v ∷ []) is ∙ sym
    (ap (map g) (take_next n xs b at) ∙ map-append g (take n xs) (b ∷ []))

pub longer : (tags : List Spelled) (tag : Spelled) → length (tags ++ tag ∷ []) ≡ suc (length tags)
longer tags tag = length-append tags (tag ∷ []) ∙ omega arith

pub learn_part_keep : {w : Script} {minimum : ℕ} {s : Scene} {last : ℕ → Option ℕ} {m : Told} → IsLegal w
    → (a : Who) (x : Drawn) (f : File) (bytes : List ℕ) (tag : Spelled)
    → IsIn x (m.drawn a) → IsIn f (files w a) → x.key ≡ file_key w f → m.publish_sent a ≡ false → m.put_sent a ≡ false
    → slice_get (file_parts w minimum f) (length x.tags) ≡ Some bytes → length x.tags < length (file_parts w minimum f)
    → tag ≡ plain_tag bytes
    → ((u : Upload) → at_id w s.content x.upload ≡ Some u → fin.get u.parts (suc (length x.tags)) ≡ Some bytes)
    → Facts w minimum s last m → Facts w minimum s last (record m
    { drawn = put_who m.drawn a (map (drawn_part x.upload tag (length bytes)) (m.drawn a)) })
learn_part_keep {w = w} {minimum = minimum} {s = s} {m = m} j a x g bytes tag known mine key unsent unput block few is_plain part f =
    learns_keep a (map (drawn_part x.upload tag (length bytes)) (m.drawn a)) unsent unput
    (record {
      fresh = f.ids.fresh;
      below = λ b d i. let o = origin b d i in subst (λ n. n < s.content.next) (sym (up b d o).0) (f.ids.below b o.0 o.1);
      apart = λ b v d e i k same.
          let o = origin b d i in
          let p = origin v e k in
          let both = f.ids.apart b v o.0 p.0 o.1 p.1 (sym (up b d o).0 ∙ same ∙ (up v e p).0) in
          (both.0, o.2 ∙ ap learnt both.1 ∙ sym p.2);
      once = λ b d e i k same.
          let o = origin b d i in
          let p = origin b e k in
          o.2 ∙ ap learnt (f.ids.once b o.0 p.0 o.1 p.1 (sym (up b d o).1 ∙ same ∙ (up b e p).1)) ∙ sym p.2;
    })
    (λ b d i.
    let o = origin b d i in
    let P : Drawn → Type 0 = λ v. IsOwned w minimum (at_id w s.content) m.ended m.undone b v in
    subst P (sym o.2) (owns b o.0 o.1))
    kept f
  where
    learnt : Drawn → Drawn
    learnt d = drawn_part x.upload tag (length bytes) d

    -- What another attempt knows gets no further part.
    other : (b : Who) → (b ≡ a → ⊥) → (d : Drawn) → IsIn d (m.drawn b) → drawn_part x.upload tag (length bytes) d ≡ d
    other b ne d i = part_other x.upload tag (length bytes) d (λ e. ne (f.ids.apart b a d x i known e).0)

    origin : (b : Who) (d : Drawn) → IsIn d (put_who m.drawn a (map (drawn_part x.upload tag (length bytes)) (m.drawn a)) b) → (o : Drawn)
        × IsIn o (m.drawn b) × (d ≡ drawn_part x.upload tag (length bytes) o)
    origin b d i = elim (same_or_another b a) [
      | inl is ↦
          let o = in_map (drawn_part x.upload tag (length bytes)) d (m.drawn a)
          (subst (λ (k : List Drawn). IsIn d k) (who_here m.drawn a (map (drawn_part x.upload tag (length bytes)) (m.drawn a)) b is) i)
          in
          (o.0, subst (λ v. IsIn o.0 (m.drawn v)) (sym is) o.1, o.2)
      | inr ne ↦
          let old = subst (λ (k : List Drawn). IsIn d k) (who_other m.drawn a (map (drawn_part x.upload tag (length bytes)) (m.drawn a)) b
          ne) i in
          (d, old, sym (other b ne d old))
    ]

    up : (b : Who) (d : Drawn) → (o : (o : Drawn) × IsIn o (m.drawn b) × (d ≡ drawn_part x.upload tag (length bytes) o))
        → (d.upload ≡ o.0.upload) × (d.key ≡ o.0.key)
    up b d o = let p = part_upload x.upload tag (length bytes) o.0 in (
      ap (λ (v : Drawn). v.upload) o.2 ∙ p.0,
      ap (λ (v : Drawn). v.key) o.2
          ∙ p.1,
    )

    -- The upload itself gets one more part.
    grows : IsOwned w minimum (at_id w s.content) m.ended m.undone a x
        → IsOwned w minimum (at_id w s.content) m.ended m.undone a (one_more tag (length bytes) x)
    grows o =
        let same : o.file ≡ g = key_file j a o.file g o.mine mine (sym o.key ∙ key) in
        let at : slice_get (file_parts w minimum o.file) (length x.tags) ≡ Some bytes = ap
        (λ v. slice_get (file_parts w minimum v) (length x.tags)) same ∙ block in
        let long : length x.tags < length (file_parts w minimum o.file) = subst (λ v. length x.tags < length (file_parts w minimum v))
        (sym same) few in
        let more : length (x.tags ++ tag ∷ []) ≡ suc (length x.tags) = longer x.tags tag in
        record {
          file = o.file;
          mine = o.mine;
          key = o.key;
          few = subst (λ n. n ≤ length (file_parts w minimum o.file)) (sym more) (omega arith);
          tags = next_of plain_tag x.tags tag (file_parts w minimum o.file) bytes (length x.tags) o.tags at is_plain ∙ ap
              (λ n. map plain_tag (take n (file_parts w minimum o.file))) (sym more);
          sizes = next_of length x.sizes (length bytes) (file_parts w minimum o.file) bytes (length x.tags) o.sizes at refl ∙ ap
              (λ n. map length (take n (file_parts w minimum o.file))) (sym more);
          held = λ e r. let h = o.held e r in record {
            parts = h.parts;
            stands = h.stands;
            blocks = h.blocks;
            back = λ n l. elim (same_or_not n (length x.tags)) [
              | inl last ↦ (bytes, ap (λ v. fin.get h.parts (suc v)) last ∙ part (record { key = x.key; parts = h.parts }) h.stands)
              | inr ne ↦ h.back n (let l2 : n < suc (length x.tags) = subst (λ v. n < v) more l in omega arith)
            ];
          };
        }

    owns : (b : Who) (d : Drawn) → IsIn d (m.drawn b)
        → IsOwned w minimum (at_id w s.content) m.ended m.undone b (drawn_part x.upload tag (length bytes) d)
    owns b d i =
        let P : Who → Drawn → Type 0 = λ c v. IsOwned w minimum (at_id w s.content) m.ended m.undone c v in
        elim (same_or_not d.upload x.upload) [
          | inr ne ↦ subst (P b) (sym (part_other x.upload tag (length bytes) d ne)) (f.owned b d i)
          | inl is ↦
              let both = f.ids.apart b a d x i known is in
              let grown = subst (P a) (sym (part_here x.upload tag (length bytes) x refl)) (grows (f.owned a x known)) in
              subst (λ c. P c (learnt d)) (sym both.0) (subst (λ v. P a (learnt v)) (sym both.1) grown)
        ]

    -- A file that is written gets no further part.
    whole : (b : Who) (h : File) → IsIn h (files w b) → (r : IsWritten w minimum (m.drawn b) h) → r.drawn.upload ≡ x.upload → ⊥
    whole b h i r is =
        let both = f.ids.apart b a r.drawn x r.known known is in
        let same : h ≡ g = key_file j a h g (subst (λ v. IsIn h (files w v)) both.0 i) mine
        (sym r.key ∙ ap (λ (v : Drawn). v.key) both.1 ∙ key) in
        let all : length x.tags ≡ length (file_parts w minimum g) = ap (λ (v : Drawn). length v.tags) (sym both.1) ∙ r.complete ∙ ap
        (λ v. length (file_parts w minimum v)) same in
        absurd (omega arith)

    kept : (b : Who) (h : File) → IsIn h (files w b) → (r : IsWritten w minimum (m.drawn b) h)
        → IsIn r.drawn (put_who m.drawn a (map (drawn_part x.upload tag (length bytes)) (m.drawn a)) b)
    kept b h i r = put_all (IsIn r.drawn) m.drawn a (map (drawn_part x.upload tag (length bytes)) (m.drawn a))
        (λ k. subst (λ v. IsIn v (map (drawn_part x.upload tag (length bytes)) (m.drawn a)))
        (part_other x.upload tag (length bytes) r.drawn (whole b h i r)) (map_in (drawn_part x.upload tag (length bytes)) r.drawn
        (m.drawn a) k)) b r.known

-- ---- an entry of an attempt

-- What a journal says then, from what it says of the attempt.
pub told_is : (m : Told) (a : Who) (k : Known) (u : Bool) {drawn : Who → List Drawn} {put publish undone : Who → Bool}
    → put_who m.drawn a k.drawn ≡ drawn → put_who m.put_sent a k.put_sent ≡ put → put_who m.publish_sent a k.publish_sent ≡ publish
    → put_who m.undone a u ≡ undone → with_known m a k u ≡ record {
      drawn = drawn;
      put_sent = put;
      publish_sent = publish;
      undone = undone;
      ended = m.ended;
      cleaned = m.cleaned;
      cleans_at = m.cleans_at;
    }
told_is m a k u d p s v = λ i. record {
  drawn = d i;
  put_sent = p i;
  publish_sent = s i;
  undone = v i;
  ended = m.ended;
  cleaned = m.cleaned;
  cleans_at = m.cleans_at;
}

-- The last publishers, if the attempt published nothing.
pub last_if : (task attempt : ℕ) (last : ℕ → Option ℕ) (b : Bool) → b ≡ false
    → (λ t. cond (nat_eq t task && b) (Some attempt) (last t)) ≡ last
last_if task attempt last b e = λ i t. (ap (λ v. cond (nat_eq t task && v) (Some attempt) (last t)) e ∙ ap
    (λ v. cond v (Some attempt) (last t)) (and-false (nat_eq t task))) i

-- It is enough to show it for what the journal says and for the effect of the request.
module _ (w : Script) (minimum : ℕ) (k : Times) (s : Seen) (m : Told) (a : Who) (n : ℕ) (r : Request) where
  pub attempt_by : (o : Outcome) (t : Told) → tell_attempt w m a r o ≡ t → Facts w minimum s.scene s.last t
      → Facts w minimum (apply s.scene r) (last_by w s.scene s.last a.task a.attempt r) t
      → Hold w minimum (see w k s (entry a n r o)) (tell w m (entry a n r o))
  attempt_by Slow t e idle acts = subst (Facts w minimum s.scene s.last) (sym e) idle
  attempt_by RequestLost t e idle acts = subst (Facts w minimum s.scene s.last) (sym e) idle
  attempt_by _ t e idle acts = subst (Facts w minimum (apply s.scene r) (last_by w s.scene s.last a.task a.attempt r)) (sym e) acts

  -- The request does not publish.
  pub attempt_plain : is_publishing w s.scene a.task r ≡ false → (o : Outcome) (t : Told) → tell_attempt w m a r o ≡ t
      → Facts w minimum s.scene s.last t → Facts w minimum (apply s.scene r) s.last t
      → Hold w minimum (see w k s (entry a n r o)) (tell w m (entry a n r o))
  attempt_plain none o t e idle acts = attempt_by o t e idle (subst (λ l. Facts w minimum (apply s.scene r) l t)
      (sym (last_if a.task a.attempt s.last _ none)) acts)
