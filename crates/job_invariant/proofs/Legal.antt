-- What the bounds of a script say of the files of its attempts.
use Rattle.text_and_lists.proofs.Members.{eq_nat, false_true, in_front, in_last, in_map, text_true}
use Rattle.text_and_lists.specs.Members.{IsIn}
use Rattle.text_and_lists.specs.Order.{text_eq}
use Rattle.job_invariant.specs.Facts.{ApartFiles, IsAttempt}
use Rattle.job_model.proofs.Unique.{path_same}
use Rattle.job_model.specs.Attempts.{Declared, Who, same_name}
use Rattle.job_model.specs.Files.{File, has_path}
use Rattle.job_model.specs.JobScript.{Script}
use Rattle.job_model.specs.Legal.{AreAttempts, AreFiles, FitsMagic, IsGiven, IsLegal}
use Rattle.job_model.specs.Placed.{path_of, placed}
use Rattle.job_protocol.proofs.PathBounds.{given_place}
use Rattle.job_protocol.specs.Outputs.{files}
use Rattle.job_protocol.specs.Seen.{is_magic}
use Rattle.magic_paths.specs.Places.{is_record}
use Rattle.s3_types.specs.Names.{is_job_id}
use Rattle.s3_types.specs.declared.request.Committer.{Committer}
use Rattle.s3_types.specs.declared.request.Mode.{Mode}
use Rattle.std.proofs.Common.{Bool, List, None, Some, ap, arith, cond, false, inl, inr, is_some, length, refl, subst, sym, true, ℕ, []}
use Rattle.std.proofs.Common.{◌++◌, ◌<◌, ◌^◌, ◌∙◌, ◌∷◌, ◌≡◌, ◌≤◌}
use Rattle.std.proofs.lemmas.Bool.{and_parts, leb-true}
use Rattle.std.specs.Map.{lookup}
use Rattle.std.specs.Option.{option_map, unwrap_or}

-- ---- the destination's key is not empty

pub some_dest : {w : Script} → IsLegal w → 1 ≤ length w.dest.key
some_dest {w = w} j =
    let a = and_parts _ _ j.dest.below in
    let b = and_parts _ _ a.0 in
    let c = and_parts _ _ b.0 in
    leb-true 1 (length w.dest.key) c.0

-- ---- files that a script gives

pub has : (fs : List File) (h : File) (p : List ℕ) → IsIn h fs → h.0 ≡ p → has_path fs p ≡ true
has [] h p i e = absurd i
has (f ∷ fs) h p (inl i) e = rw (text_true p f.0 (sym e ∙ ap (λ (x : File). x.0) i)) refl
has (f ∷ fs) h p (inr i) e = elim (text_eq p f.0) as (λ b. is_some (cond b (Some f.1) (lookup (text_eq p) fs)) ≡ true)
    [ true ↦ refl | false ↦ has fs h p i e ]

before_apart : (before fs : List File) (h g : File) → AreFiles before fs → IsIn h before → IsIn g fs → h.0 ≡ g.0 → ⊥
before_apart before [] h g a i k e = absurd k
before_apart before (f ∷ fs) h g a i (inl k) e = false_true a.1 (has before h f.0 i (e ∙ ap (λ (x : File). x.0) k))
before_apart before (f ∷ fs) h g a i (inr k) e = before_apart (before ++ f ∷ []) fs h g a.2 (in_front h before (f ∷ []) i) k e

given_in : (before fs : List File) (f : File) → AreFiles before fs → IsIn f fs → IsGiven f.0
given_in before [] f a i = absurd i
given_in before (h ∷ fs) f a (inl i) = subst (λ (x : File). IsGiven x.0) (sym i) a.0.path
given_in before (h ∷ fs) f a (inr i) = given_in (before ++ h ∷ []) fs f a.2 i

apart_from : (before fs : List File) → AreFiles before fs → ApartFiles fs
apart_from before [] h = tt
apart_from before (f ∷ fs) h = (
  λ g i e. before_apart (before ++ f ∷ []) fs f g h.2 (in_last f before) i e,
  apart_from (before ++ f ∷ []) fs
      h.2,
)

-- ---- the files of an attempt

-- An attempt that has files is declared.
pub record IsDeclared (tasks : ℕ) (fs : List File) (a : Who) : Type 0 where
  pub task : a.task < tasks
  pub attempt : a.attempt ≤ 99
  pub files : AreFiles [] fs

-- Its files as the script writes them.
abbrev pub written : Script → Who → List File
written w a = unwrap_or (lookup (same_name a) w.attempts) []

declared_in : (tasks : ℕ) (before es : List Declared) (a : Who) (f : File) → AreAttempts tasks before es
    → IsIn f (unwrap_or (lookup (same_name a) es) []) → IsDeclared tasks (unwrap_or (lookup (same_name a) es) []) a
declared_in tasks before [] a f h i = absurd i
declared_in tasks before (e ∷ es) a f h i = by (same_name a e.0) refl i (declared_in tasks (before ++ e ∷ []) es a f h.4)
  where
    by : (b : Bool) → same_name a e.0 ≡ b → IsIn f (unwrap_or (cond b (Some e.1) (lookup (same_name a) es)) [])
        → (IsIn f (unwrap_or (lookup (same_name a) es) []) → IsDeclared tasks (unwrap_or (lookup (same_name a) es) []) a)
        → IsDeclared tasks (unwrap_or (cond b (Some e.1) (lookup (same_name a) es)) []) a
    by true s k old =
        let p = and_parts _ _ s in
        let t = eq_nat a.task e.0.task p.0 in
        let n = eq_nat a.attempt e.0.attempt p.1 in
        record { task = subst (λ x. x < tasks) (sym t) h.0; attempt = subst (λ x. x ≤ 99) (sym n) h.1; files = h.3 }
    by false s k old = old k

pub files_are : (w : Script) (a : Who) → files w a ≡ placed w.unique w.job (written w a)
files_are w a = elim (lookup (same_name a) w.attempts) as (λ o. unwrap_or (option_map (placed w.unique w.job) o) [] ≡ placed w.unique w.job
    (unwrap_or o [])) [ None ↦ refl | Some fs ↦ refl ]

-- A file of an attempt is one that the script gives it, at its path.
pub record FromScript (w : Script) (a : Who) (f : File) : Type 0 where
  pub given : File
  pub one : IsIn given (written w a)
  pub is : f ≡ (path_of w.unique w.job given.0, given.1)

pub from_script : (w : Script) (a : Who) (f : File) → IsIn f (files w a) → FromScript w a f
from_script w a f h = grind (arith, in_map, files_are)

pub declared : {w : Script} → IsLegal w → (a : Who) (f : File) → IsIn f (files w a) → IsDeclared w.tasks (written w a) a
declared {w = w} j a f i =
    let g = from_script w a f i in
    declared_in w.tasks [] w.attempts a g.given j.attempts g.one

pub is_attempt : {w : Script} → IsLegal w → (a : Who) (f : File) → IsIn f (files w a) → IsAttempt w a
is_attempt j a f i = let d = declared j a f i in record { task = d.task; attempt = d.attempt }

placed_apart : (u : Bool) (id : List ℕ) (job : is_job_id id ≡ true) (fs : List File) → ApartFiles fs → ApartFiles (placed u id fs)
placed_apart u id job [] h = tt
placed_apart u id job (f ∷ fs) h = (
  λ g i e.
      let o = in_map (λ (x : File). let y : File = (path_of u id x.0, x.1) in y) g fs i in
      h.0 o.0 o.1 (path_same u id f.0 o.0.0 job (e ∙ ap (λ (x : File). x.0) o.2)),
  placed_apart u id job fs h.1,
)

apart_if : (fs : List File) → ((f : File) → IsIn f fs → AreFiles [] fs) → ApartFiles fs
apart_if [] h = tt
apart_if (f ∷ fs) h = apart_from [] (f ∷ fs) (h f (inl refl))

-- The paths of its files are all different.
pub files_apart : {w : Script} → IsLegal w → (a : Who) → ApartFiles (files w a)
files_apart {w = w} j a =
    let raw : ApartFiles (written w a) = apart_if (written w a) (λ f i. (declared_in w.tasks [] w.attempts a f j.attempts i).files) in
    subst ApartFiles (sym (files_are w a)) (placed_apart w.unique w.job j.job (written w a) raw)

one_of : (fs : List File) → ApartFiles fs → (f g : File) → IsIn f fs → IsIn g fs → f.0 ≡ g.0 → f ≡ g
one_of [] h f g i k e = absurd i
one_of (x ∷ fs) h f g (inl i) (inl k) e = i ∙ sym k
one_of (x ∷ fs) h f g (inl i) (inr k) e = absurd (h.0 g k (ap (λ (y : File). y.0) (sym i) ∙ e))
one_of (x ∷ fs) h f g (inr i) (inl k) e = absurd (h.0 f i (ap (λ (y : File). y.0) (sym k) ∙ sym e))
one_of (x ∷ fs) h f g (inr i) (inr k) e = one_of fs h.1 f g i k e

-- Two of its files with the same path are one file.
pub same_file : {w : Script} → IsLegal w → (a : Who) (f g : File) → IsIn f (files w a) → IsIn g (files w a) → f.0 ≡ g.0 → f ≡ g
same_file {w = w} j a f g i k e = one_of (files w a) (files_apart j a) f g i k e

pub given_of : {w : Script} → IsLegal w → (a : Who) (f : File) → (i : IsIn f (files w a)) → IsGiven (from_script w a f i).given.0
given_of {w = w} j a f i = let g = from_script w a f i in given_in [] (written w a) g.given
    (declared_in w.tasks [] w.attempts a g.given j.attempts g.one).files g.one

-- ---- with the magic committer they are at the paths that the script gives

plain_names : (c : Committer) (m : Mode) (u : Bool) → is_magic c ≡ true → FitsMagic c m u → u ≡ false
plain_names c m u h g = grind arith

pub given : {w : Script} → IsLegal w → is_magic w.committer ≡ true → (a : Who) (f : File) → IsIn f (files w a) → IsGiven f.0
given {w = w} j magic a f i =
    let g = from_script w a f i in
    let path : f.0 ≡ g.given.0 = ap (λ (x : File). x.0) g.is ∙ ap (λ u. path_of u w.job g.given.0)
    (plain_names w.committer w.mode w.unique magic j.magic) in
    subst IsGiven (sym path) (given_in [] (written w a) g.given (declared_in w.tasks [] w.attempts a g.given j.attempts g.one).files g.one)

pub no_record : {w : Script} → IsLegal w → is_magic w.committer ≡ true → (a : Who) (f : File) → IsIn f (files w a) → is_record f.0 ≡ false
no_record j magic a f i = (given_place f.0 (given j magic a f i)).1

-- ---- numbers

pub small_task : {w : Script} → IsLegal w → (t : ℕ) → t < w.tasks → t < 2 ^ 64
small_task {w = w} j t h = let few : w.tasks ≤ 1000 = j.tasks in omega arith

pub small_attempt : {w : Script} → IsLegal w → (a : Who) → IsAttempt w a → (a.task < 2 ^ 64) × (a.attempt < 2 ^ 64)
small_attempt {w = w} j a d =
    let low : a.attempt ≤ 99 = d.attempt in
    let small : a.attempt < 2 ^ 64 = omega arith in
    (small_task j a.task d.task, small)
