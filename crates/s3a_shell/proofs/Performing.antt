-- What an operation sends over a store that answers every request.
use Rattle.bucket_ops.proofs.AskLaws.{with_same}
use Rattle.bucket_ops.specs.Asks.{objects_at, with_objects}
use Rattle.bucket_ops.specs.Phases.{AlwaysIn, GivesIn, InScene}
use Rattle.bucket_ops.specs.Uploads.{IsStill}
use Rattle.dir_markers.specs.declared.marker.MarkerPolicy.{MarkerPolicy}
use Rattle.fs_files.proofs.WritingLaws.{placed_same}
use Rattle.fs_files.specs.Creation.{Creation}
use Rattle.fs_files.specs.Placed.{InFile, NoneLeft}
use Rattle.fs_files.specs.code.Create.{AlwaysFile, GivesFile, IsUndone, always_in, least as least_of}
use Rattle.fs_ops.proofs.Deleting.{deletes_in}
use Rattle.fs_ops.specs.code.Delete.{Deletion, gives}
use Rattle.fs_rename.specs.Between.{GivesBetween}
use Rattle.fs_tree.specs.Answers.{Creates, Deletes}
use Rattle.fs_tree.specs.declared.answers.FsRefusal.{FsRefusal}
use Rattle.fs_tree.specs.declared.answers.FsRefusal.TheVariants.{NoSuchBucket}
use Rattle.machine.specs.Counted.{AreAnswered}
use Rattle.machine.specs.declared.driving.DriveStop.{DriveStop}
use Rattle.operations.specs.Performed.{Performed, Seen}
use Rattle.path_keys.specs.Paths.{Path, is_key}
use Rattle.s3_types.specs.Answer.{answer, apply}
use Rattle.s3_types.specs.Foretold.{AreForetold, fate_of}
use Rattle.s3_types.specs.Moment.{is_unanswered}
use Rattle.s3_types.specs.Store.{BucketContent, Objects, Scene}
use Rattle.s3_types.specs.declared.fates.Fate.TheVariants.{Answer}
use Rattle.s3_types.specs.declared.journal.Entry.{Entry}
use Rattle.s3_types.specs.declared.journal.Outcome.{Outcome}
use Rattle.s3_types.specs.declared.journal.Outcome.TheVariants.{Answered}
use Rattle.s3_types.specs.declared.request.Actor.TheVariants.{Shell}
use Rattle.s3_types.specs.declared.request.Request.{Request}
use Rattle.s3_types.specs.declared.request.Request.TheVariants.{MakeBucket}
use Rattle.s3a_shell.proofs.Joining.{sent_as}
use Rattle.s3a_shell.specs.Doings.{Created, CreatedUnless, Did, DidMake, DidPut, FileOrNot, IsMadeOrNot, most_input, refusal_word}
use Rattle.s3a_shell.specs.Doings.{refused_or_fine}
use Rattle.s3a_shell.specs.Moving.{DidBetween}
use Rattle.s3a_shell.specs.inner.Sendings.{Asked, IsCounted, Sent}
use Rattle.s3a_shell.specs.Texts.{nothing, refusing, said}
use Rattle.s3a_shell.specs.declared.said.Said.{Said}
use Rattle.s3a_shell.specs.declared.session.Session.{Session}
use Rattle.std.proofs.Common.{ap, arith, inl, inr, refl, subst, sym, ◌∙◌}
use Rattle.std.proofs.lemmas.Bool.Decides.{nat_tests}
use Rattle.std.specs.Prelude.{Bool, Err, IfOk, List, None, Ok, OnOk, Option, Result, Some, codes, false, length, nat_lt, true, ℕ, [], ◌+◌}
use Rattle.std.specs.Prelude.{◌<◌, ◌∷◌, ◌≡◌, ◌≤◌}
use Rattle.std.specs.FinMap as fin

one : (o : Outcome) → fate_of o ≡ Answer → is_unanswered o ≡ false
one (Answered r) h = refl
one _ h = absurd (cc)

-- A request for which an answer is foretold is answered.
pub answered : (n : ℕ) (es : List Entry) → AreForetold (λ m. Some Answer) n es → AreAnswered es
answered n [] h = tt
answered n (e ∷ es) h = (one e.outcome h.0, answered (n + 1) es h.1)

-- The store of a session as a driver sees it: it answers every request.
abbrev pub of_session : Session → Seen
of_session a = record {
  scene = a.store.scene;
  requests = a.store.requests;
  losses = 0;
  foretold = λ n. Some Answer;
  entries =
      a.journal.entries;
}

pub sent : {A : Type 0} (always : Scene → Type 0) (sends : Request → Type 0) (a b : Session) (result : Result A DriveStop) → IsCounted a
    → Performed Shell 0 0 always sends (of_session a) (of_session b) result → Sent always a b
sent always sends a b result counted h = record {
  sends = record {
    part = h.part;
    appended = h.appended;
    by = h.by;
    answered = answered (a.store.requests + 1) h.part h.foretold;
    honest = h.honest;
    scene = h.scene;
    moments = h.moments;
  };
  counted = omega (arith, counted, h.counts.made);
}

pub asked : {A : Type 0} (always : Scene → Type 0) (sends : Request → Type 0) (a b : Session) (result : Result A DriveStop)
    → Performed Shell 0 0 always sends (of_session a) (of_session b) result → Asked sends a b
asked always sends a b result h = record { part = h.part; appended = h.appended; each = h.sent }

-- An operation that only reads changes nothing at any point.
pub sent_still : (b : List ℕ) (a c : Session) → Sent (AlwaysIn b (λ m n. n ≡ m) a.store.scene) a c → Sent (IsStill a.store.scene) a c
sent_still b a c h = sent_as (AlwaysIn b (λ m n. n ≡ m) a.store.scene) (IsStill a.store.scene) a c
    (λ s g. by s (objects_at a.store.scene b) refl g) h
  where
    by : (s : Scene) (o : Option Objects) → objects_at a.store.scene b ≡ o → InScene o (λ m n. n ≡ m) (Unit {0}) a.store.scene b s
        → s ≡ a.store.scene
    by s None e g = g.0
    by s (Some m) e g = g.1 ∙ (ap (with_objects a.store.scene b) g.2 ∙ with_same a.store.scene b m e)

-- What holds at every point of an operation, under another name.
pub sent_of : {O : Type 0} (b : List ℕ) (always : O → Objects → Objects → Type 0) (a c : Session) (o p : O) → o ≡ p
    → Sent (AlwaysIn b (always o) a.store.scene) a c → Sent (AlwaysIn b (always p) a.store.scene) a c
sent_of b always a c o p e h = subst (λ o. Sent (AlwaysIn b (always o) a.store.scene) a c) e h

-- What always holds also holds if a call returned.
pub on_ok : {T E : Type 0} {P : Type 0} (r : Result T E) → P → OnOk r P
on_ok (Ok x) p = p
on_ok (Err e) p = tt

-- What an operation gave was said.
pub did_if : {A E : Type 0} (path : Path) (gives : Objects → Result A FsRefusal → Objects → Type 0) (text : A → List ℕ) (z s : Scene)
    (a : Result A FsRefusal) (r : Result Said E)
    → GivesIn path.bucket gives (Err NoSuchBucket) z a s → IfOk r (λ w. w ≡ said text a) → IfOk r (λ w. Did path gives text z w s)
did_if path gives text z s a (Ok w) g e = record { answer = a; given = g; told = e }
did_if path gives text z s a (Err x) g e = tt

-- The same for an operation from one path to another.
pub between_if : {A E : Type 0} {gives : Objects → A → Objects → Type 0} {absent refused : A} (says : A → Said) (from to : Path)
    (z s : Scene) (a : A) (r : Result Said E)
    → GivesBetween from.bucket to.bucket gives absent refused z a s → IfOk r (λ w. w ≡ says a)
    → IfOk r (λ w. DidBetween from to gives absent refused says z w s)
between_if says from to z s a (Ok w) g e = record { answer = a; given = g; told = e }
between_if says from to z s a (Err x) g e = tt

-- The same for an operation that names the path's key.
pub did_at : {A E : Type 0} (path : Path) (gives : List ℕ → Objects → Result A FsRefusal → Objects → Type 0) (text : A → List ℕ)
    (z s : Scene) (key : List ℕ) (a : Result A FsRefusal) (r : Result Said E)
    → key ≡ path.key → GivesIn path.bucket (gives key) (Err NoSuchBucket) z a s → IfOk r (λ w. w ≡ said text a)
    → IfOk r (λ w. Did path (gives path.key) text z w s)
did_at path gives text z s key a r is given told =
    did_if path (gives path.key) text z s a r (subst (λ k. GivesIn path.bucket (gives k) (Err NoSuchBucket) z a s) is given) told

-- The same for a deletion.
pub deleted_at : {E : Type 0} (path : Path) (recursive : Bool) (z s : Scene) (o : Deletion) (a : Result (Unit {0}) FsRefusal)
    (r : Result Said E)
    → o ≡ record { path = path.key; recursive = recursive } → is_key o.path ≡ true → GivesIn path.bucket (gives o) (Err NoSuchBucket) z a s
    → IfOk r (λ w. w ≡ said nothing a)
    → IfOk r (λ w. Did path (Deletes recursive path.key) nothing z w s)
deleted_at path recursive z s o a r is key given told =
    did_if path (Deletes recursive path.key) nothing z s a r
    (subst (λ (o : Deletion). GivesIn path.bucket (Deletes o.recursive o.path) (Err NoSuchBucket) z a s) is
    (deletes_in path.bucket o z a s key given)) told

pub created_if : {E : Type 0} (path : Path) (bytes : List ℕ) (overwrite : Bool) (policy : MarkerPolicy) (z s : Scene)
    (a : Result (Unit {0}) FsRefusal) (r : Result Said E)
    → InFile (fin.get z.content.buckets path.bucket) (λ m n. Creates path bytes overwrite policy m a n) (a ≡ Err NoSuchBucket) z path.bucket
    s × IsUndone a z s → NoneLeft z path.bucket s
    → IfOk r (λ w. w ≡ said nothing a) → IfOk r (λ w. Created path bytes overwrite policy z w s)
created_if path bytes overwrite policy z s a (Ok w) g n e = record { answer = a; given = g.0; undone = g.1; none = n; told = e }
created_if path bytes overwrite policy z s a (Err x) g n e = tt

-- The same for the making of a file.
pub file_if : {E : Type 0} (path : Path) (bytes copy : List ℕ) (block : ℕ) (overwrite : Bool) (policy : MarkerPolicy) (z s : Scene)
    (file : Creation) (a : Result (Unit {0}) FsRefusal) (r : Result Said E)
    → copy ≡ bytes → file ≡ record { path = path; bytes = copy; block = block; overwrite = overwrite; policy = policy }
    → z.content.minimum ≤ block → GivesFile file z a s × (least_of file z → NoneLeft z file.path.bucket s)
    → IfOk r (λ w. w ≡ said nothing a) → IfOk r (λ w. Created path bytes overwrite policy z w s)
file_if path bytes copy block overwrite policy z s file a r same is least gives told =
    let of_copy = subst (λ (o : Creation). GivesFile o z a s × (least_of o z → NoneLeft z o.path.bucket s)) is gives in
    created_if path bytes overwrite policy z s a r
    (subst (λ (b : List ℕ). InFile (fin.get z.content.buckets path.bucket) (λ m n. Creates path b overwrite policy m a n)
    (a ≡ Err NoSuchBucket) z path.bucket s × IsUndone a z s) same (of_copy.0 least)) (of_copy.1 least) told

-- What holds at every point of the making of a file.
file_or_not : (path : Path) (bytes : List ℕ) (block : ℕ) (overwrite : Bool) (policy : MarkerPolicy) (z m : Objects)
    → always_in (record { path = path; bytes = bytes; block = block; overwrite = overwrite; policy = policy }) z m
    → IsMadeOrNot policy path bytes z m
file_or_not path bytes block overwrite policy z m (inl e) = inl e
file_or_not path bytes block overwrite policy z m (inr h) = inr h.1

pub file_stands : (path : Path) (bytes copy : List ℕ) (block : ℕ) (overwrite : Bool) (policy : MarkerPolicy) (z s : Scene) (file : Creation)
    → copy ≡ bytes → file ≡ record { path = path; bytes = copy; block = block; overwrite = overwrite; policy = policy }
    → z.content.minimum ≤ block
    → AlwaysFile file z s → FileOrNot policy path bytes z s
file_stands path bytes copy block overwrite policy z s file same is least h =
    subst (λ (b : List ℕ). FileOrNot policy path b z s) same (by (fin.get z.content.buckets path.bucket)
    (subst (λ (o : Creation). AlwaysFile o z s) is h least))
  where
    by : (o : Option BucketContent) → InFile o (always_in (record
        { path = path; bytes = copy; block = block; overwrite = overwrite; policy = policy })) (Unit {0}) z path.bucket s
        → InFile o (IsMadeOrNot policy path copy) (Unit {0}) z path.bucket s
    by None g = g
    by (Some c) g = record {
      content = g.content;
      next = g.next;
      scene = g.scene;
      later = g.later;
      objects = file_or_not path copy block
          overwrite policy c.objects g.content.objects g.objects;
    }

-- It holds before the first request.
pub none_stands : (policy : MarkerPolicy) (path : Path) (bytes : List ℕ) (z : Scene) → FileOrNot policy path bytes z z
none_stands policy path bytes z = by (fin.get z.content.buckets path.bucket) refl
  where
    by : (o : Option BucketContent) → fin.get z.content.buckets path.bucket ≡ o
        → InFile o (IsMadeOrNot policy path bytes) (Unit {0}) z path.bucket z
    by None e = (refl, tt)
    by (Some c) e = record {
      content = c;
      next = z.content.next;
      scene = sym (placed_same z path.bucket c e);
      later = record
          { drawn = omega arith; uploads = λ id l. refl };
      objects = inl refl;
    }

-- ---- a new bucket

pub made_if : {E : Type 0} (name : List ℕ) (z s : Scene) (o : Option (List ℕ)) (r : Result Said E) → IfOk r (λ w. w ≡ refused_or_fine o)
    → o ≡ refusal_word (answer z (MakeBucket name)) → s ≡ apply z (MakeBucket name) → IfOk r (λ w. DidMake name z w s)
made_if name z s o (Ok w) e f g = (e ∙ ap refused_or_fine f, g)
made_if name z s o (Err x) e f g = tt

-- ---- a file of the input

large : {E : Type 0} (path : Path) (bytes : List ℕ) (overwrite : Bool) (policy : MarkerPolicy) (z : Scene) (r : Result Said E)
    → IfOk r (λ w. w ≡ refusing (codes "too-large") None) → IfOk r (λ w. CreatedUnless true path bytes overwrite policy z w z)
large path bytes overwrite policy z (Ok w) e = (e, refl)
large path bytes overwrite policy z (Err x) e = tt

-- Too many bytes are refused.
pub large_if : {E : Type 0} (path : Path) (bytes : List ℕ) (overwrite : Bool) (policy : MarkerPolicy) (z : Scene) (r : Result Said E)
    → most_input < length bytes → IfOk r (λ w. w ≡ refusing (codes "too-large") None)
    → IfOk r (λ w. DidPut path bytes overwrite policy z w z)
large_if path bytes overwrite policy z r h e =
    let test : nat_lt most_input (length bytes) ≡ true = grind (arith, nat_tests) in
    subst (λ (t : Bool). IfOk r (λ w. CreatedUnless t path bytes overwrite policy z w z)) (sym test)
    (large path bytes overwrite policy z r e)

pub small_if : {E : Type 0} (path : Path) (bytes : List ℕ) (overwrite : Bool) (policy : MarkerPolicy) (z s : Scene) (r : Result Said E)
    → length bytes ≤ most_input → IfOk r (λ w. Created path bytes overwrite policy z w s)
    → IfOk r (λ w. DidPut path bytes overwrite policy z w s)
small_if path bytes overwrite policy z s r h e =
    let test : nat_lt most_input (length bytes) ≡ false = grind (arith, nat_tests) in
    subst (λ (t : Bool). IfOk r (λ w. CreatedUnless t path bytes overwrite policy z w s)) (sym test) e
