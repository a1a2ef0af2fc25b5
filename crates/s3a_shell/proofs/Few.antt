-- The number of requests that a session sends.
use Rattle.bucket_ops.specs.Asks.{objects_at}
use Rattle.bucket_ops.specs.Phases.{left_at}
use Rattle.bucket_ops.specs.Uploads.{size, uploads_from}
use Rattle.bucket_ops.specs.Walking.{all_below}
use Rattle.dir_markers.specs.Markers.{keys_above}
use Rattle.dir_markers.specs.declared.marker.MarkerPolicy.{MarkerPolicy}
use Rattle.fs_files.specs.declared.create.CreateFile.{CreateFile}
use Rattle.fs_files.specs.declared.create.CreateStage.TheVariants.{Here}
use Rattle.fs_ops.specs.Places.{prefix_of}
use Rattle.fs_ops.specs.code.Delete.{Deletion}
use Rattle.fs_rename.specs.Between.{Route, most_in}
use Rattle.path_keys.specs.Paths.{Path, below}
use Rattle.s3_types.specs.Store.{Content, Objects, Scene, opening}
use Rattle.s3_types.specs.declared.journal.Entry.{Entry}
use Rattle.s3_types.specs.declared.reply.PageEntry.{PageEntry}
use Rattle.s3_types.specs.declared.request.UploadRef.{UploadRef}
use Rattle.s3a_shell.specs.Most.{children_below, count_below, most_put, most_requests, uploads_at}
use Rattle.s3a_shell.specs.Moving.{route}
use Rattle.s3a_shell.specs.inner.Sendings.{AtMost}
use Rattle.s3a_shell.specs.declared.session.Session.{Session}
use Rattle.s3a_words.specs.declared.command.Command.{Command}
use Rattle.std.proofs.Common.{ap, arith, length-append, subst, sym, ◌∙◌}
use Rattle.std.specs.Prelude.{Bool, List, None, OnOk, Option, Result, Some, length, ℕ, [], ◌*◌, ◌++◌, ◌+◌, ◌∷◌, ◌≡◌, ◌≤◌}
use Rattle.fs_ops.specs.code.AtPath as at_path
use Rattle.fs_ops.specs.code.Delete as delete
use Rattle.fs_ops.specs.code.List as list
use Rattle.fs_ops.specs.code.Make as make
use Rattle.fs_files.specs.code.Create as create
use Rattle.marker_tool.specs.code.Tool as tool

-- ---- entries that were appended

-- Holds if a journal grew by at most n entries.
abbrev pub Grew : ℕ → List Entry → List Entry → Type 0
Grew n old new = length new ≤ length old + n

pub few_appended : (n : ℕ) (old new part : List Entry) → new ≡ old ++ part → length part ≤ n → Grew n old new
few_appended n old new part e h =
    let l : length new ≡ length (old ++ part) = ap length e in
    omega (arith, l, h, length-append old part)

-- It grew by one entry.
pub few_one : (old new : List Entry) (e : Entry) → new ≡ old ++ e ∷ [] → Grew 1 old new
few_one old new e h = few_appended 1 old new (e ∷ []) h (omega arith)

-- It did not grow.
pub few_none : (n : ℕ) (old : List Entry) → Grew n old old
few_none n old = omega arith

-- ---- an operation in a bucket

-- Each request is sent once.
pub few_in : {O X : Type 0} (b c : List ℕ) (left : O → X → Objects → ℕ) (o : O) (x : X) (z : Scene) (old new : List Entry) → b ≡ c
    → ((part : List Entry) → new ≡ old ++ part → length part ≤ (left_at (objects_at z b) left o x + 1) * (0 + 1))
    → (part : List Entry) → new ≡ old ++ part → Grew (left_at (objects_at z c) left o x + 1) old new
few_in b c left o x z old new e h part f =
    let l = h part f in
    let n : left_at (objects_at z b) left o x ≡ left_at (objects_at z c) left o x =
    ap (λ (b : List ℕ). left_at (objects_at z b) left o x) e in
    few_appended (left_at (objects_at z c) left o x + 1) old new part f (omega (arith, l, n))

-- The operation under another name.
module _ {O X : Type 0} (left : O → X → Objects → ℕ) (first : O → X) (most : O → Objects → ℕ) where
  most_of : (o : O) → ((m : Objects) → left o (first o) m + 1 ≤ most o m) → (v : Option Objects)
      → left_at v left o (first o) + 1 ≤ most_in v (most o)
  most_of o h None = omega arith
  most_of o h (Some m) = h m

  pub few_at : (b : List ℕ) (z : Scene) (old new : List Entry) (o p : O) → ((m : Objects) → left o (first o) m + 1 ≤ most o m) → o ≡ p
      → Grew (left_at (objects_at z b) left o (first o) + 1) old new → Grew (most_in (objects_at z b) (most p)) old new
  few_at b z old new o p h e g =
      let l = most_of o h (objects_at z b) in
      let all : Grew (most_in (objects_at z b) (most o)) old new = omega (arith, l, g) in
      subst (λ (o : O). Grew (most_in (objects_at z b) (most o)) old new) e all

-- The bound for each operation at its first stage.
pub path_left : (k : List ℕ) (m : Objects) → at_path.left k (at_path.first k) m + 1 ≤ 2
path_left k m = omega arith

pub list_left : (k : List ℕ) (m : Objects) → list.left k (list.first k) m + 1 ≤ 2 + children_below k m
list_left [] m = omega arith
list_left (x ∷ k) m = omega arith

pub make_left : (k : List ℕ) (m : Objects) → make.left k (make.first k) m + 1 ≤ 3 + length (keys_above k)
make_left k m = omega arith

pub delete_left : (o : Deletion) (m : Objects) → delete.left o (delete.first o) m + 1 ≤ 6 + 2 * count_below o.path m
delete_left o m = omega arith

pub tool_left : (A : Type 0) (keys : List ℕ → List PageEntry → List (List ℕ)) (k : List ℕ) (m : Objects)
    → tool.left {A = A} keys k (tool.first {A = A} k) m + 1 ≤ 3 + 2 * count_below k m + length
    (keys (prefix_of k) (all_below (prefix_of k) m))
tool_left A keys k m = omega arith

pub audit_left : (A : Type 0) (k : List ℕ) (m : Objects)
    → tool.left {A = A} (λ q es. []) k (tool.first {A = A} k) m + 1 ≤ 3 + 2 * count_below k m
audit_left A k m = omega arith

-- ---- the making of a file

pub file_few : (path : Path) (bytes copy : List ℕ) (block : ℕ) (overwrite : Bool) (policy : MarkerPolicy) (z : Scene)
    (old new : List Entry) (o : CreateFile) → copy ≡ bytes
    → o.file ≡ record { path = path; bytes = copy; block = block; overwrite = overwrite; policy = policy } → o.stage ≡ Here
    → ((part : List Entry) → new ≡ old ++ part → length part ≤ (create.left o z + 1) * (0 + 1))
    → (part : List Entry) → new ≡ old ++ part → Grew (most_put path bytes) old new
file_few path bytes copy block overwrite policy z old new o same file stage h part f =
    let l = h part f in
    let n : create.left o z ≡ length (keys_above path.key) + 1 + (length copy + 4) = (λ i. create.left_at (file i) (stage i)) in
    let c : length copy ≡ length bytes = ap length same in
    few_appended (most_put path bytes) old new part f (omega (arith, l, n, c))

-- ---- from one path to another one

pub between_few : (most : Route → Scene → ℕ) (from to : Path) (r : Route) (z : Scene) (old new : List Entry) → r ≡ route from to
    → ((part : List Entry) → new ≡ old ++ part → length part ≤ most r z * (0 + 1))
    → (part : List Entry) → new ≡ old ++ part → Grew (most (route from to) z) old new
between_few most from to r z old new e h part f =
    let l = h part f in
    let n : most r z ≡ most (route from to) z = ap (λ (r : Route). most r z) e in
    few_appended (most (route from to) z) old new part f (omega (arith, l, n))

-- ---- uploads

-- A walk over them.
pub walk_few : (path : Path) (z : Scene) (b p : List ℕ) (old new : List Entry) → b ≡ path.bucket → p ≡ below path.key []
    → ((part : List Entry) → new ≡ old ++ part → length part ≤ (size (uploads_from z b p None) + 1) * (0 + 1))
    → (part : List Entry) → new ≡ old ++ part → Grew (1 + uploads_at path z) old new
walk_few path z b p old new e f h part g =
    let l = h part g in
    let n : size (uploads_from z b p None) ≡ uploads_at path z = (λ i. size (uploads_from z (e i) (f i) None)) in
    few_appended (1 + uploads_at path z) old new part g (omega (arith, l, n))

-- The walk, and then a request on each.
pub uploads_few : (path : Path) (z : Scene) (o : Option (List UploadRef)) (rs us : List UploadRef) (old mid new : List Entry)
    → o ≡ uploads_from z path.bucket (below path.key []) None → o ≡ Some rs → us ≡ rs
    → Grew (1 + uploads_at path z) old mid → Grew (length us) mid new → Grew (1 + 2 * uploads_at path z) old new
uploads_few path z o rs us old mid new found is same h g =
    let n : uploads_at path z ≡ length rs = ap size (sym found ∙ is) in
    let m : length us ≡ length rs = ap length same in
    omega (arith, h, g, n, m)

-- Only the walk.
pub pages_few : (n : ℕ) (old new : List Entry) → Grew (1 + n) old new → Grew (1 + 2 * n) old new
pages_few n old new h = omega (arith, h)

-- One more request.
pub few_more : (i : ℕ) (old mid new : List Entry) → Grew i old mid → Grew 1 mid new → Grew (i + 1) old new
few_more i old mid new h g = omega (arith, h, g)

-- ---- commands

pub few_by : {T E : Type 0} (r : Result T E) (command is : Command) (bytes : List ℕ) (z : Scene) (old new : List Entry) → command ≡ is
    → OnOk r (Grew (most_requests is bytes z) old new) → OnOk r (Grew (most_requests command bytes z) old new)
few_by r command is bytes z old new e h = subst (λ (v : Command). OnOk r (Grew (most_requests v bytes z) old new)) (sym e) h

-- ---- from the beginning

pub all_few : (command : Command) (bytes : List ℕ) (c : Content) (a b : Session) → a.journal.entries ≡ [] → a.store.scene ≡ opening c
    → AtMost (most_requests command bytes a.store.scene) a b → length b.journal.entries ≤ most_requests command bytes (opening c)
all_few command bytes c a b first begun h =
    let n : length a.journal.entries ≡ 0 = ap length first in
    let m : most_requests command bytes a.store.scene ≡ most_requests command bytes (opening c) = ap (most_requests command bytes) begun in
    omega (arith, h, n, m)
