-- The files of an attempt: paths with their bytes.
use Rattle.text_and_lists.specs.Order.{text_eq}
use Rattle.std.specs.Map.{lookup}
use Rattle.std.specs.Prelude.{Bool, List, is_some, ℕ}

-- A file of an attempt: its path and its bytes.
abbrev pub File : Type 0
File = List ℕ × List ℕ

-- True if some file has this path.
abbrev pub has_path : List File → List ℕ → Bool
has_path files path = is_some (lookup (text_eq path) files)
