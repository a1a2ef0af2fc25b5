-- Which directories attempts write into, and which paths are below them.
use Rattle.audit_claims.specs.Claims.{Tags}
use Rattle.judging.specs.Listed.{Listed, Numbered}
use Rattle.soundness.specs.Claims.{Attempts, always_reaches, reaches, writes_into}
use Rattle.std.specs.List.{list_all, list_any}
use Rattle.std.specs.Prelude.{Bool, List, false, map, ℕ, [], ◌&&◌, ◌∷◌, ◌≡◌}
use Rattle.text_and_lists.specs.Order.{text_eq}

-- The set has this directory.
abbrev pub has_dir : List ℕ → List (List ℕ) → Bool
has_dir d dirs = list_any (text_eq d) dirs

-- The attempts of a task by their files.
abbrev pub files_of : {I : Type 0} → Numbered I → Attempts I
files_of attempts = map (λ a. a.1) attempts

-- Some attempt writes into this directory.
abbrev pub some_writes : List ℕ → Listed Tags → Bool
some_writes d listed = list_any (λ x. list_any (writes_into d) (files_of x.1)) listed

-- Each of these attempts writes into the directory, and there are some.
abbrev pub all_write : List ℕ → Attempts Tags → Bool
all_write d [] = false
all_write d (files ∷ others) = writes_into d files && list_all (writes_into d) others

-- Every attempt of some listed task writes into this directory.
abbrev pub always_writes : List ℕ → Listed Tags → Bool
always_writes d listed = list_any (λ x. all_write d (files_of x.1)) listed

-- Directories that some attempt writes into, and those that every attempt of some task writes into.
pub record Reached : Type 0 where
  pub some : List (List ℕ)
  pub always : List (List ℕ)

-- These are the directories of the listed attempts.
pub record AreOf (listed : Listed Tags) (reached : Reached) : Type 0 where
  pub some : (d : List ℕ) → has_dir d reached.some ≡ some_writes d listed
  pub always : (d : List ℕ) → has_dir d reached.always ≡ always_writes d listed

-- Some attempt of some listed task reaches the path.
abbrev pub some_reaches : List ℕ → Listed Tags → Bool
some_reaches p listed = list_any (λ x. list_any (reaches p) (files_of x.1)) listed

-- Every attempt of some listed task writes into one directory that the path is below.
abbrev pub some_always_reaches : List ℕ → Listed Tags → Bool
some_always_reaches p listed = list_any (λ x. always_reaches p (files_of x.1)) listed
