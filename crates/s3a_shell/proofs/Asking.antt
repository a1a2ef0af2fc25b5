-- The requests that a session sends to its store.
use Rattle.text_and_lists.proofs.Members.{in_back, in_front, same_or_other, some_is}
use Rattle.text_and_lists.specs.Members.{IsIn}
use Rattle.bucket_ops.specs.Asks.{Ask, is_look, objects_at}
use Rattle.bucket_ops.specs.Phases.{AlwaysIn, SendsAt, SendsIn}
use Rattle.bucket_ops.specs.Uploads.{IsPageOf, uploads_from}
use Rattle.dir_markers.specs.declared.marker.MarkerPolicy.{MarkerPolicy}
use Rattle.fs_files.specs.declared.create.CreateFile.{CreateFile}
use Rattle.fs_files.specs.declared.create.CreateStage.TheVariants.{Here}
use Rattle.fs_ops.proofs.Asking.{asked_in, each_asked}
use Rattle.fs_ops.proofs.StepLaws.{same_scene}
use Rattle.fs_ops.specs.Places.{look_asks}
use Rattle.fs_ops.specs.code.Delete.{Deletion}
use Rattle.fs_rename.specs.Between.{Route}
use Rattle.path_keys.specs.Paths.{Path, below, is_key}
use Rattle.s3_types.specs.Blocks.{block_of}
use Rattle.s3_types.specs.Multipart.{listed}
use Rattle.s3_types.specs.Store.{BucketContent, Content, Objects, Scene, opening}
use Rattle.s3_types.specs.declared.journal.Entry.{Entry}
use Rattle.s3_types.specs.declared.reply.Reply.{Reply}
use Rattle.s3_types.specs.declared.request.Request.{Request}
use Rattle.s3_types.specs.declared.request.UploadRef.{UploadRef}
use Rattle.s3a_shell.proofs.Joining.{sent_as}
use Rattle.s3a_shell.proofs.Performing.{sent_of}
use Rattle.s3a_shell.specs.Asking.{DeleteSends, IsLiveIn, LooksIn, MaySend, PutSendsUnless, UploadSends, file_of}
use Rattle.s3a_shell.specs.inner.Asking.{OnOne}
use Rattle.s3a_shell.specs.Doings.{MayStandAt}
use Rattle.s3a_shell.specs.Moving.{route}
use Rattle.s3a_shell.specs.inner.Sendings.{Asked, Sent, answered_by}
use Rattle.s3a_shell.specs.declared.session.Session.{Session}
use Rattle.s3a_words.specs.declared.command.Command.{Command}
use Rattle.std.proofs.Common.{ap, append-nil, append_assoc, inl, inr, refl, subst, sym, ◌∙◌}
use Rattle.std.proofs.lemmas.List.{take-append-drop}
use Rattle.std.specs.List.{AllByRecursion}
use Rattle.std.specs.Prelude.{Bool, List, None, OnOk, Option, Result, Some, drop, false, length, option_map, take, true, ℕ, [], ◌++◌, ◌∷◌}
use Rattle.std.specs.Prelude.{◌≡◌, ◌⊎◌}
use Rattle.std.specs.FinMap as fin
use Rattle.fs_ops.specs.code.Delete as delete
use Rattle.fs_files.specs.code.Create as create

-- ---- requests after requests

-- What follows from a property holds of each request too.
pub asked_as : (P Q : Request → Type 0) (a b : Session) → ((r : Request) → P r → Q r) → Asked P a b → Asked Q a b
asked_as P Q a b f h = record { part = h.part; appended = h.appended; each = each_asked P Q f h.part h.each }

each_both : (P : Request → Type 0) (es fs : List Entry) → AllByRecursion (λ e. P e.request) es → AllByRecursion (λ e. P e.request) fs
    → AllByRecursion (λ e. P e.request) (es ++ fs)
each_both P [] fs h g = g
each_both P (e ∷ es) fs h g = (h.0, each_both P es fs h.1 g)

-- These requests and then those.
pub asked_both : (P : Request → Type 0) (a b c : Session) → Asked P a b → Asked P b c → Asked P a c
asked_both P a b c h g = record {
  part = h.part ++ g.part;
  appended = g.appended ∙ (ap (λ (l : List Entry). l ++ g.part) h.appended ∙ append_assoc a.journal.entries h.part g.part);
  each = each_both P h.part g.part h.each g.each;
}

-- No request.
pub asked_none : (P : Request → Type 0) (a b : Session) → b.journal.entries ≡ a.journal.entries → Asked P a b
asked_none P a b e = record { part = []; appended = e ∙ sym (append-nil a.journal.entries); each = tt }

-- One request.
pub asked_one : (P : Request → Type 0) (a b : Session) (r : Request) (reply : Reply) → P r
    → b.journal.entries ≡ a.journal.entries ++ answered_by r reply ∷ [] → Asked P a b
asked_one P a b r reply p e = record { part = answered_by r reply ∷ []; appended = e; each = (p, tt) }

-- ---- an operation on a path

-- Its stages are looks.
pub looked : (b : List ℕ) (look : Ask) (z : Scene) (a c : Session) → is_look look ≡ true
    → Asked (SendsIn b look (λ m x. is_look x ≡ true) z) a c → Asked (LooksIn b) a c
looked b look z a c l h = asked_as (SendsIn b look (λ m x. is_look x ≡ true) z) (LooksIn b) a c (λ r g. by r (objects_at z b) g) h
  where
    by : (r : Request) (o : Option Objects) → SendsAt o b look (λ m x. is_look x ≡ true) r → LooksIn b r
    by r None g = (look, g, l)
    by r (Some m) g = (g.0, g.1, g.2)

-- The operation under another name.
pub asked_of : {O : Type 0} (b : List ℕ) (look : O → Ask) (sends : O → Objects → Ask → Type 0) (z : Scene) (a c : Session) (o p : O)
    → o ≡ p → Asked (SendsIn b (look o) (sends o) z) a c → Asked (SendsIn b (look p) (sends p) z) a c
asked_of b look sends z a c o p e h = subst (λ o. Asked (SendsIn b (look o) (sends o) z) a c) e h

-- The deletion of a key, and what holds at every point of it.
module _ (path : Path) (recursive : Bool) (a c : Session) (o : Deletion) (is : o ≡ record { path = path.key; recursive = recursive })
    (key : is_key o.path ≡ true) where
  abbrev z : Scene
  z = a.store.scene

  pub deletion_asked : Asked (SendsIn path.bucket (look_asks o.path) (delete.sends o) z) a c → Asked (DeleteSends recursive path z) a c
  deletion_asked h =
      asked_of path.bucket (λ (o : Deletion). look_asks o.path) delete.Asks z a c o (record { path = path.key; recursive = recursive }) is
      (asked_as (SendsIn path.bucket (look_asks o.path) (delete.sends o) z) (SendsIn path.bucket (look_asks o.path) (delete.Asks o) z) a c
      (asked_in path.bucket (look_asks o.path) (delete.sends o) (delete.Asks o) z (λ m x g. g key)) h)

  pub deletion_sent : Sent (AlwaysIn path.bucket (delete.always o) z) a c
      → Sent (AlwaysIn path.bucket (delete.InPart (record { path = path.key; recursive = recursive })) z) a c
  deletion_sent h =
      sent_of path.bucket delete.InPart a c o (record { path = path.key; recursive = recursive }) is
      (sent_as (AlwaysIn path.bucket (delete.always o) z) (AlwaysIn path.bucket (delete.InPart o) z) a c
      (λ s g. same_scene (objects_at z path.bucket) z s path.bucket (delete.always o) (delete.InPart o) (Unit {0}) (λ m n k. k key) g) h)

-- The making of a file.
pub file_asked : (path : Path) (bytes copy : List ℕ) (block : ℕ) (overwrite : Bool) (policy : MarkerPolicy) (z : Scene) (a c : Session)
    (o : CreateFile) → copy ≡ bytes
    → o.file ≡ record { path = path; bytes = copy; block = block; overwrite = overwrite; policy = policy } → o.stage ≡ Here
    → block ≡ block_of (length bytes) 0 z.content.minimum
    → Asked (create.sends o z) a c → Asked (PutSendsUnless false path bytes overwrite policy z) a c
file_asked path bytes copy block overwrite policy z a c o same file stage size h =
    subst (λ (o : CreateFile). Asked (create.sends o z) a c) whole h
  where
    named : o.file ≡ (file_of path bytes overwrite policy z).file
    named = file ∙ (λ i. record { path = path; bytes = same i; block = size i; overwrite = overwrite; policy = policy })

    whole : o ≡ file_of path bytes overwrite policy z
    whole = λ i. record { file = named i; stage = stage i }

-- ---- from one path to another one

pub between_asked : (sends : Route → Scene → Request → Type 0) (from to : Path) (r : Route) (z : Scene) (a c : Session)
    → r ≡ route from to → Asked (sends r z) a c
    → ((r.bucket ≡ r.to_bucket → ⊥) → c.journal.entries ≡ a.journal.entries)
    → Asked (λ e. (from.bucket ≡ to.bucket) × sends (route from to) z e) a c
between_asked sends from to r z a c is h none = by (same_or_other from.bucket to.bucket)
  where
    by : (from.bucket ≡ to.bucket) ⊎ (from.bucket ≡ to.bucket → ⊥) → Asked (λ e. (from.bucket ≡ to.bucket) × sends (route from to) z e) a c
    by (inl f) =
        asked_as (sends (route from to) z) (λ e. (from.bucket ≡ to.bucket) × sends (route from to) z e) a c (λ e g. (f, g))
        (subst (λ (r : Route). Asked (sends r z) a c) is h)
    by (inr f) = asked_none (λ e. (from.bucket ≡ to.bucket) × sends (route from to) z e) a c
        (none (λ g. f (subst (λ (r : Route). r.bucket ≡ r.to_bucket) is g)))

-- ---- uploads

-- Each listed upload is live.
live_of : (path : Path) (z : Scene) (o : Option (List UploadRef)) (rs us : List UploadRef)
    → o ≡ uploads_from z path.bucket (below path.key []) None → o ≡ Some rs → us ≡ rs
    → (u : UploadRef) → IsIn u us → IsLiveIn (fin.get z.content.buckets path.bucket) path u
live_of path z o rs us found is same u i = by (fin.get z.content.buckets path.bucket) (sym is ∙ found)
  where
    by : (v : Option BucketContent) → Some rs ≡ option_map (λ c. listed (below path.key []) None c.uploads) v → IsLiveIn v path u
    by None h = absurd (cc)
    by (Some c) h = subst (IsIn u) (same ∙ some_is h) i

module _ (asks : List ℕ → UploadRef → Request) (path : Path) (z : Scene) where
  -- only the pages
  pub pages_asked : (a c : Session) → Asked (IsPageOf path.bucket (below path.key [])) a c → Asked (UploadSends asks path z) a c
  pages_asked a c h = asked_as (IsPageOf path.bucket (below path.key [])) (UploadSends asks path z) a c (λ r p. inl p) h

  -- the pages and then a request on each
  pub uploads_asked : (o : Option (List UploadRef)) (rs us : List UploadRef) (b : List ℕ) (a c d : Session)
      → o ≡ uploads_from z path.bucket (below path.key []) None → o ≡ Some rs → us ≡ rs → b ≡ path.bucket
      → Asked (IsPageOf path.bucket (below path.key [])) a c → Asked (OnOne asks b us) c d → Asked (UploadSends asks path z) a d
  uploads_asked o rs us b a c d found is same at h g =
      asked_both (UploadSends asks path z) a c d (pages_asked a c h)
      (asked_as (OnOne asks b us) (UploadSends asks path z) c d
      (λ r p. inr (p.0, live_of path z o rs us found is same p.0 p.1, p.2 ∙ ap (λ (n : List ℕ). asks n p.0) at)) g)

-- A walk over the uploads of a bucket below a prefix.
pub walk_asked : (b c p q : List ℕ) (a d : Session) → b ≡ c → p ≡ q → Asked (IsPageOf b p) a d → Asked (IsPageOf c q) a d
walk_asked b c p q a d e f h = subst (λ p. Asked (IsPageOf c p) a d) f (subst (λ b. Asked (IsPageOf b p) a d) e h)

-- One more request on one of the uploads.
pub one_more : (asks : List ℕ → UploadRef → Request) (b : List ℕ) (us : List UploadRef) (x : UploadRef) (a c d : Session) → IsIn x us
    → Asked (OnOne asks b us) a c → Asked (λ r. r ≡ asks b x) c d → Asked (OnOne asks b us) a d
one_more asks b us x a c d i h g =
    asked_both (OnOne asks b us) a c d h (asked_as (λ r. r ≡ asks b x) (OnOne asks b us) c d (λ r e. (x, i, e)) g)

-- The upload at a place of the list is one of the list.
pub in_drop : (i : ℕ) (us : List UploadRef) (x : UploadRef) (rest : List UploadRef) → drop i us ≡ x ∷ rest → IsIn x us
in_drop i us x rest e = subst (IsIn x) (take-append-drop i us) (in_back x (take i us) (drop i us) (subst (IsIn x) (sym e) (inl refl)))

pub in_take : (i : ℕ) (us front : List UploadRef) (x : UploadRef) → take i us ≡ front ++ x ∷ [] → IsIn x us
in_take i us front x e = subst (IsIn x) (take-append-drop i us)
    (in_front x (take i us) (drop i us) (subst (IsIn x) (sym e) (in_back x front (x ∷ []) (inl refl))))

-- ---- commands

pub asked_by : {T E : Type 0} (r : Result T E) (command is : Command) (bytes : List ℕ) (z : Scene) (a b : Session) → command ≡ is
    → OnOk r (Asked (MaySend is bytes z) a b) → OnOk r (Asked (MaySend command bytes z) a b)
asked_by r command is bytes z a b e h = subst (λ (v : Command). OnOk r (Asked (MaySend v bytes z) a b)) (sym e) h

pub stands_by : {T E : Type 0} (r : Result T E) (command is : Command) (bytes : List ℕ) (z : Scene) (a b : Session) → command ≡ is
    → OnOk r (Sent (MayStandAt is bytes z) a b) → OnOk r (Sent (MayStandAt command bytes z) a b)
stands_by r command is bytes z a b e h = subst (λ (v : Command). OnOk r (Sent (MayStandAt v bytes z) a b)) (sym e) h

-- ---- from the beginning

pub all_asked : (command : Command) (bytes : List ℕ) (c : Content) (a b : Session) → a.journal.entries ≡ [] → a.store.scene ≡ opening c
    → Asked (MaySend command bytes a.store.scene) a b
    → AllByRecursion (λ e. MaySend command bytes (opening c) e.request) b.journal.entries
all_asked command bytes c a b first begun h =
    subst (λ (l : List Entry). AllByRecursion (λ e. MaySend command bytes (opening c) e.request) l)
    (sym (h.appended ∙ ap (λ (l : List Entry). l ++ h.part) first))
    (subst (λ (z : Scene). AllByRecursion (λ e. MaySend command bytes z e.request) h.part) begun h.each)
