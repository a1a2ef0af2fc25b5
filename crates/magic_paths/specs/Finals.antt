-- At which path a file that is written below a magic directory ends up (modelled on the magic paths of Hadoop's S3A committer
-- architecture; the rule itself is this project's own).
use Rattle.text_and_lists.specs.Parts.{parts_of}
use Rattle.path_keys.specs.Paths.{Path}
use Rattle.std.specs.List.{after_first, before_first, list_any}
use Rattle.std.specs.Prelude.{Bool, List, bytes_eq, codes, drop, if◌then◌else◌, length, ℕ, ◌++◌, ◌-◌}

-- The elements of a path's key.
abbrev pub elements : Path → List (List ℕ)
elements p = parts_of 47 p.key

-- True if the element is exactly this word.
abbrev pub is_word : List ℕ → List ℕ → Bool
is_word word element = bytes_eq element word

-- True if an element is `__magic`.
abbrev pub has_magic : List (List ℕ) → Bool
has_magic es = list_any (is_word (codes "__magic")) es

-- The elements before the first `__magic`.
abbrev pub before_magic : List (List ℕ) → List (List ℕ)
before_magic es = before_first (is_word (codes "__magic")) es

-- The elements after the first `__magic`.
abbrev pub after_magic : List (List ℕ) → List (List ℕ)
after_magic es = after_first (is_word (codes "__magic")) es

-- The elements that are kept of those after `__magic`: the ones after the first `__base`, or the last one if there is no `__base`.
abbrev pub kept : List (List ℕ) → List (List ℕ)
kept es = if list_any (is_word (codes "__base")) es then after_first (is_word (codes "__base")) es else drop (length es - 1) es

-- The elements of the final path.
abbrev pub final_elements : List (List ℕ) → List (List ℕ)
final_elements es = before_magic es ++ kept (after_magic es)
