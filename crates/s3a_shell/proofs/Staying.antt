-- What a command leaves: other buckets and uploads unchanged, no upload of its own, and all unchanged if it was refused.
use Rattle.text_and_lists.proofs.Members.{same_or_other, text_here, text_other}
use Rattle.bucket_ops.proofs.AskLaws.{with_same}
use Rattle.bucket_ops.specs.Asks.{objects_of, with_objects, with_objects_if}
use Rattle.bucket_ops.specs.Phases.{GivesIn, InScene}
use Rattle.dir_markers.specs.declared.marker.MarkerPolicy.{MarkerPolicy}
use Rattle.fs_files.specs.Placed.{InFile, placed}
use Rattle.fs_files.specs.code.Create.{IsUndone}
use Rattle.fs_tree.specs.Answers.{Creates}
use Rattle.fs_tree.specs.declared.answers.FsRefusal.{FsRefusal}
use Rattle.fs_tree.specs.declared.answers.FsRefusal.TheVariants.{NoSuchBucket}
use Rattle.path_keys.specs.Paths.{Path}
use Rattle.s3_service.specs.Ids.{AreBelow}
use Rattle.s3_types.specs.Answer.{made, make_answer}
use Rattle.s3_types.specs.Names.{is_bucket}
use Rattle.s3_types.specs.Store.{BucketContent, Content, Objects, Scene, new_bucket}
use Rattle.s3_types.specs.declared.reply.Refusal.TheVariants.{BadName}
use Rattle.s3_types.specs.declared.reply.Reply.TheVariants.{Made, Refused}
use Rattle.s3a_shell.specs.Doings.{CreatedUnless, Did, DidMake, refusal_word, refused_or_fine}
use Rattle.s3a_shell.specs.Moving.{DidBetween}
use Rattle.s3a_shell.specs.Stays.{IsBelow, OnlyIn}
use Rattle.s3a_shell.specs.Texts.{nothing, said}
use Rattle.s3a_shell.specs.Uploading.{AbortedIn, DidAbort}
use Rattle.s3a_shell.specs.declared.said.Said.{Said}
use Rattle.std.proofs.Common.{ap, arith, inl, inr, refl, subst, sym, ◌∙◌, ◌⊎◌}
use Rattle.std.specs.Ordering.{nat_cmp}
use Rattle.std.specs.Prelude.{Bool, Err, List, None, Ok, Option, Result, Some, cond, false, true, ℕ, ◌<◌, ◌≡◌, ◌≤◌}
use Rattle.store_frame.specs.Held.{upload_at, upload_in}
use Rattle.std.specs.FinMap as fin

-- Holds if no upload has an id from n on.
abbrev NoneFrom : ℕ → Content → List ℕ → Type 0
NoneFrom n c b = (id : ℕ) → n ≤ id → upload_at c b id ≡ None

pub below_none : (c : Content) (b : List ℕ) → AreBelow c.buckets c.next → NoneFrom c.next c b
below_none c b h id l = by (fin.get c.buckets b) refl
  where
    by : (o : Option BucketContent) → fin.get c.buckets b ≡ o → upload_in o id ≡ None
    by None e = refl
    by (Some d) e = h b d e id l

-- Holds if no upload that was begun since z is live in the bucket.
abbrev pub Ends : List ℕ → Scene → Scene → Type 0
Ends b z s = NoneFrom z.content.next z.content b → NoneFrom s.content.next s.content b → NoneFrom z.content.next s.content b

-- Nothing changed except in this bucket, and there no upload but those that were ended. If a refusal was said, nothing changed at all.
pub record Leaves (b : List ℕ) (Ended : ℕ → Type 0) (z : Scene) (what : Said) (s : Scene) : Type 0 where
  pub only : OnlyIn b Ended z.content s.content
  pub ended : Ends b z s
  pub keeps : what.refused ≡ true → s ≡ z

-- Holds if the uploads that were begun before z are in d what they were, but for those that were ended.
abbrev Stand : List ℕ → (ℕ → Type 0) → Scene → BucketContent → Type 0
Stand b Ended z d = (id : ℕ) → id < z.content.next → (Ended id → ⊥) → fin.get d.uploads id ≡ upload_at z.content b id

there : (c : Content) (b : List ℕ) (d : BucketContent) → fin.get c.buckets b ≡ Some d → (id : ℕ) → fin.get d.uploads id ≡ upload_at c b id
there c b d e id = ap (λ (o : Option BucketContent). upload_in o id) (sym e)

module _ {b : List ℕ} {Ended : ℕ → Type 0} {z s : Scene} {what : Said} where
  -- all is as it was
  pub same : s ≡ z → Leaves b Ended z what s
  same e = subst (Leaves b Ended z what) (sym e) (record {
    only = record { others = λ name ne. refl; uploads = λ id h g. refl; minimum = refl; next = omega arith };
    ended = λ first last. first;
    keeps = λ r. refl;
  })

  -- the bucket has changed, and no refusal was said
  changed : (d : BucketContent) (n : ℕ) → s ≡ placed z b d n → z.content.next ≤ n → Stand b Ended z d → Ends b z s → what.refused ≡ false
      → Leaves b Ended z what s
  changed d n e le uploads ended fine = record {
    only = subst (λ (t : Scene). OnlyIn b Ended z.content t.content) (sym e) (record {
      others = λ name ne. text_other z.content.buckets b name d ne;
      uploads = λ id h g. ap (λ (o : Option BucketContent). upload_in o id) (text_here z.content.buckets b b d refl) ∙ uploads id h g;
      minimum = refl;
      next = le;
    });
    ended = ended;
    keeps = λ refused. let no : false ≡ true = sym fine ∙ refused in absurd (cc);
  }

  -- the bucket has changed, and no upload id was used
  edited : (d : BucketContent) → s ≡ placed z b d z.content.next → Stand b Ended z d → what.refused ≡ false → Leaves b Ended z what s
  edited d e uploads fine =
      changed d z.content.next e (omega arith) uploads (λ first last. subst (λ n. NoneFrom n s.content b)
      (ap (λ (s : Scene). s.content.next) e) last) fine

-- No upload is ended.
abbrev none : ℕ → Type 0
none = λ id. ⊥

-- Holds if a refusal changes nothing.
abbrev pub Keeps : {A R : Type 0} → (Objects → Result A R → Objects → Type 0) → Type 0
Keeps {R = R} gives = (m n : Objects) (r : R) → gives m (Err r) n → n ≡ m

-- ---- what was done on the objects of a bucket

given : {A R : Type 0} (b : List ℕ) (gives : Objects → Result A R → Objects → Type 0) (absent : Result A R) (says : Result A R → Said)
    (z s : Scene) (what : Said)
    → (a : Result A R) → Keeps gives → ((x : A) → (says (Ok x)).refused ≡ false) → GivesIn b gives absent z a s → what ≡ says a
    → Leaves b none z what s
given {A = A} {R = R} b gives absent says z s what a keeps fine h = by (fin.get z.content.buckets b) a refl h
  where
    by : (o : Option BucketContent) (a : Result A R) → fin.get z.content.buckets b ≡ o
        → InScene (objects_of o) (λ m n. gives m a n) (a ≡ absent) z b s → what ≡ says a
        → Leaves b none z what s
    by None a e g t = same g.0
    by (Some c) (Err r) e g t = same (g.1 ∙ (ap (with_objects z b) (keeps c.objects g.0 r g.2) ∙ with_same z b c.objects (ap objects_of e)))
    by (Some c) (Ok x) e g t =
        edited (record { objects = g.0; uploads = c.uploads }) (g.1 ∙ ap (λ (o : Option BucketContent). with_objects_if o z b g.0) e)
        (λ id l f. there z.content b c e id) (ap (λ (w : Said). w.refused) t ∙ fine x)

-- An operation on a path.
pub done : {A : Type 0} {p : Path} {gives : Objects → Result A FsRefusal → Objects → Type 0} {text : A → List ℕ} {z s : Scene} {what : Said}
    → Did p gives text z what s → Keeps gives → Leaves p.bucket none z what s
done {p = p} {gives = gives} {text = text} {z = z} {s = s} {what = what} h keeps =
    given p.bucket gives (Err NoSuchBucket) (said text) z s what h.answer keeps (λ x. refl) h.given h.told

-- An operation from one path to another.
pub done_between : {A R : Type 0} {from to : Path} {gives : Objects → Result A R → Objects → Type 0} {absent refused : Result A R}
    {says : Result A R → Said}
    {z s : Scene} {what : Said} → DidBetween from to gives absent refused says z what s → Keeps gives
    → ((x : A) → (says (Ok x)).refused ≡ false) → Leaves from.bucket none z what s
done_between {from = from} {to = to} {gives = gives} {absent = absent} {says = says} {z = z} {s = s} {what = what} h keeps fine = by
    (same_or_other from.bucket to.bucket)
  where
    by : (from.bucket ≡ to.bucket) ⊎ (from.bucket ≡ to.bucket → ⊥) → Leaves from.bucket none z what s
    by (inl f) = given from.bucket gives absent says z s what h.answer keeps fine (h.given.one f) h.told
    by (inr f) = same (h.given.other f).1

-- ---- the other commands

-- A file was put.
pub put : (p : Path) (bytes : List ℕ) (overwrite : Bool) (policy : MarkerPolicy) (z : Scene) (what : Said) (s : Scene) (t : Bool)
    → CreatedUnless t p bytes overwrite policy z what s → Leaves p.bucket none z what s
put p bytes overwrite policy z what s true h = same h.1
put p bytes overwrite policy z what s false h = by h.answer (fin.get z.content.buckets p.bucket) refl h.given h.undone h.told
  where
    by : (a : Result (Unit {0}) FsRefusal) (o : Option BucketContent) → fin.get z.content.buckets p.bucket ≡ o
        → InFile o (λ m n. Creates p bytes overwrite policy m a n) (a ≡ Err NoSuchBucket) z p.bucket s → IsUndone a z s
        → what ≡ said nothing a → Leaves p.bucket none z what s
    by (Err r) o e g u t = same u
    by (Ok x) None e g u t = same g.0
    by (Ok x) (Some c) e g u t =
        changed g.content g.next g.scene g.later.drawn (λ id l f. g.later.uploads id l ∙ there z.content p.bucket c e id)
        (λ first last id l. h.none id l (first id l)) (ap (λ (w : Said). w.refused) t)

-- A bucket was made.
pub make : (name : List ℕ) (z : Scene) (what : Said) (s : Scene) → DidMake name z what s → Leaves name none z what s
make name z what s h = by (fin.get z.content.buckets name) refl h.0 h.1
  where
    new : (t : Bool) → fin.get z.content.buckets name ≡ None → what ≡ refused_or_fine (refusal_word (cond t Made (Refused BadName)))
        → s ≡ record { content = cond t (placed z name new_bucket z.content.next).content z.content; files = z.files }
        → Leaves name none z what s
    new true e w g =
        edited new_bucket g (λ id l f. fin.get-empty nat_cmp id ∙ ap (λ (o : Option BucketContent). upload_in o id) (sym e))
        (ap (λ (w : Said). w.refused) w)
    new false e w g = same g

    by : (o : Option BucketContent) → fin.get z.content.buckets name ≡ o → what ≡ refused_or_fine (refusal_word (make_answer name o))
        → s ≡ record { content = made z.content name o; files = z.files } → Leaves name none z what s
    by None e w g = new (is_bucket name) e w g
    by (Some c) e w g = same g

-- Uploads were aborted.
pub abort : (p : Path) (z : Scene) (what : Said) (s : Scene) → DidAbort p z what s
    → Leaves p.bucket (λ id. IsBelow (fin.get z.content.buckets p.bucket) p id) z what s
abort p z what s = by (fin.get z.content.buckets p.bucket) refl
  where
    by : (o : Option BucketContent) → fin.get z.content.buckets p.bucket ≡ o → AbortedIn o p z what s
        → Leaves p.bucket (λ id. IsBelow o p id) z what s
    by None e h = same h.1
    by (Some c) e h =
        edited h.1.content h.1.scene (λ id l ne. h.1.kept id (λ r i f. ne (r, i, f)) ∙ there z.content p.bucket c e id)
        (ap (λ (w : Said). w.refused) h.0)
