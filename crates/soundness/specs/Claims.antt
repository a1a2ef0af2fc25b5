-- What a job claims: which opening files it keeps, and which files each attempt of each task writes.
use Rattle.std.specs.Prelude.{ℕ, List, [], ◌∷◌, Bool, true, false, cond, not, ◌&&◌, ◌==◌, Option, Some, None, is_some, nat_eq, ◌≡◌}
use Rattle.std.specs.List.{list_any, list_all, starts_with, AllZip, Contains}
use Rattle.std.specs.Map.{lookup}
use Rattle.std.specs.Str.{bytes_eq}
use Rattle.soundness.specs.declared.keeps.Keeps.{Keeps}
use Rattle.soundness.specs.declared.keeps.Keeps.TheVariants as keeps

-- The files of an attempt: each path below the destination, with the identity of the file's content.
abbrev pub Files : Type 0 → Type 0
Files I = List (List ℕ × I)

-- The attempts of one task, each by its files.
abbrev pub Attempts : Type 0 → Type 0
Attempts I = List (Files I)

-- Which opening files the job keeps, and for each task its attempts.
pub record Claim (I : Type 0) : Type 0 where
  pub keeps : Keeps
  pub tasks : List (Attempts I)

-- The identity that an attempt's file has at a path, if the attempt writes that path.
abbrev pub file_at : {I : Type 0} → Files I → List ℕ → Option I
file_at files p = lookup (bytes_eq p) files

-- Some attempt of the task writes the path.
abbrev pub writes : {I : Type 0} → Attempts I → List ℕ → Bool
writes task p = list_any (λ files. is_some (file_at files p)) task

-- Some attempt of some task writes the path.
abbrev pub is_claimed : {I : Type 0} → List (Attempts I) → List ℕ → Bool
is_claimed tasks p = list_any (λ task. writes task p) tasks

-- No path is written by attempts of two tasks.
abbrev pub Apart : {I : Type 0} → List (Attempts I) → Type 0
Apart [] = Unit {0}
Apart (task ∷ tasks) = ((p : List ℕ) → writes task p ≡ true → is_claimed tasks p ≡ false) × Apart tasks

-- ---- choices

-- A choice has, for each task, the files of one of its attempts.
abbrev pub Chooses : {I : Type 0} → List (Attempts I) → List (Files I) → Type 0
Chooses tasks choice = AllZip Contains tasks choice

-- The first value if there is one, and else the second.
abbrev pub or_else : {I : Type 0} → Option I → Option I → Option I
or_else (Some x) o = Some x
or_else None o = o

-- The identity that the chosen attempts' files have at a path, if one of them writes it.
abbrev pub chosen_at : {I : Type 0} → List (Files I) → List ℕ → Option I
chosen_at [] p = None
chosen_at (files ∷ choice) p = or_else (file_at files p) (chosen_at choice p)

-- ---- which opening files stay, and which go

-- The directory with byte `x` in front. In front of an empty directory, a `/` begins one, and any other byte leaves it empty.
abbrev pub with_byte : ℕ → List ℕ → List ℕ
with_byte x (y ∷ d) = x ∷ y ∷ d
with_byte x [] = cond (x == 47) (x ∷ []) []

-- The parent directory of a path, up to and with its last `/`; empty if the path has no `/`.
abbrev pub directory : List ℕ → List ℕ
directory [] = []
directory (x ∷ p) = with_byte x (directory p)

-- The path begins with this directory, which is not empty.
abbrev pub is_below : List ℕ → List ℕ → Bool
is_below [] p = false
is_below (x ∷ d) p = starts_with nat_eq p (x ∷ d)

-- The path is below the parent directory of one of these files.
abbrev pub reaches : {I : Type 0} → List ℕ → Files I → Bool
reaches p files = list_any (λ file. is_below (directory file.0) p) files

-- One of these files has this parent directory.
abbrev pub writes_into : {I : Type 0} → List ℕ → Files I → Bool
writes_into d files = list_any (λ file. bytes_eq d (directory file.0)) files

-- The path is below a parent directory that every attempt of the task writes into.
abbrev pub always_reaches : {I : Type 0} → List ℕ → Attempts I → Bool
always_reaches p [] = false
always_reaches p (files ∷ others) = list_any (λ file. is_below (directory file.0) p && list_all (writes_into
    (directory file.0)) others) files

-- Whether a job with this rule keeps a path; `reached` says whether some attempt reaches it.
abbrev pub kept_by : Keeps → Bool → Bool
kept_by keeps.Everything reached = true
kept_by keeps.Partitions reached = not reached
kept_by keeps.Nothing reached = false

-- Whether a job with this rule replaces a path; `reached` says whether all attempts of one task reach it.
abbrev pub replaced_by : Keeps → Bool → Bool
replaced_by keeps.Everything reached = false
replaced_by keeps.Partitions reached = reached
replaced_by keeps.Nothing reached = true

-- An opening file at this path must stay, unless a chosen attempt writes the path.
abbrev pub is_kept : {I : Type 0} → Claim I → List ℕ → Bool
is_kept w p = kept_by w.keeps (list_any (list_any (reaches p)) w.tasks)

-- An opening file at this path must go, unless a chosen attempt writes the path.
abbrev pub is_replaced : {I : Type 0} → Claim I → List ℕ → Bool
is_replaced w p = replaced_by w.keeps (list_any (always_reaches p) w.tasks)
