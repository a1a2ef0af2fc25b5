-- The texts that the shell writes. Every line ends with LF.
use Rattle.dir_markers.specs.declared.status.Status.{Status}
use Rattle.dir_markers.specs.declared.status.Status.TheVariants.{Directory, File}
use Rattle.fs_tree.specs.declared.answers.DirEntry.{DirEntry}
use Rattle.fs_tree.specs.declared.answers.FsRefusal.{FsRefusal}
use Rattle.fs_tree.specs.declared.answers.FsRefusal.TheVariants.{AlreadyExists, IsDirectory, IsRoot, NoSuchBucket, NotDirectory, NotEmpty}
use Rattle.fs_tree.specs.declared.answers.FsRefusal.TheVariants.{NotFound}
use Rattle.fs_tree.specs.declared.markers.MarkerEntry.{MarkerEntry}
use Rattle.fs_tree.specs.declared.markers.MarkerKind.{MarkerKind}
use Rattle.fs_tree.specs.declared.markers.MarkerKind.TheVariants.{Leaf, Odd, Surplus}
use Rattle.s3a_shell.specs.declared.said.Said.{Said}
use Rattle.std.specs.Fmt.{decimal}
use Rattle.std.specs.List.{flat_map}
use Rattle.std.specs.Prelude.{Err, List, None, Ok, Option, Result, Some, codes, false, true, ℕ, [], ◌++◌, ◌∷◌}

-- ---- answers

-- `file LENGTH` or `directory`
abbrev pub status_line : Status → List ℕ
status_line (File length) = codes "file " ++ (decimal length ++ 10 ∷ [])
status_line Directory = codes "directory" ++ 10 ∷ []

-- `f LENGTH NAME` or `d NAME`
abbrev pub named_line : List ℕ → Status → List ℕ
named_line name (File length) = codes "f " ++ (decimal length ++ (codes " " ++ (name ++ 10 ∷ [])))
named_line name Directory = codes "d " ++ (name ++ 10 ∷ [])

-- The line of a child of a directory: `f LENGTH NAME` or `d NAME`.
abbrev pub entry_line : DirEntry → List ℕ
entry_line entry = named_line entry.name entry.status

-- A line for each child of a directory.
abbrev pub entry_lines : List DirEntry → List ℕ
entry_lines entries = flat_map entry_line entries

-- The word for a marker's kind.
abbrev pub kind_word : MarkerKind → List ℕ
kind_word Surplus = codes "surplus"
kind_word Leaf = codes "leaf"
kind_word Odd = codes "odd"

-- `surplus KEY`, `leaf KEY` or `odd KEY`
abbrev pub marker_line : MarkerEntry → List ℕ
marker_line entry = kind_word entry.kind ++ (codes " " ++ (entry.key ++ 10 ∷ []))

-- A line for each marker.
abbrev pub marker_lines : List MarkerEntry → List ℕ
marker_lines entries = flat_map marker_line entries

-- `cleaned N`
abbrev pub cleaned_line : ℕ → List ℕ
cleaned_line count = codes "cleaned " ++ (decimal count ++ 10 ∷ [])

-- `filled N`
abbrev pub filled_line : ℕ → List ℕ
filled_line count = codes "filled " ++ (decimal count ++ 10 ∷ [])

-- The text of an answer that is bytes: those bytes.
abbrev pub bytes_alone : List ℕ → List ℕ
bytes_alone bytes = bytes

-- The text of an answer that says nothing.
abbrev pub nothing : Unit {0} → List ℕ
nothing done = []

-- ---- the answer or the refusal

-- What a command that is not refused says.
abbrev pub fine : List ℕ → Said
fine text = record { refused = false; text = text }

-- `refused WORD`, or with a value `refused WORD VALUE`.
abbrev pub refused_line : List ℕ → Option (List ℕ) → List ℕ
refused_line word None = codes "refused " ++ (word ++ 10 ∷ [])
refused_line word (Some kept) = codes "refused " ++ (word ++ (codes " " ++ (kept ++ 10 ∷ [])))

-- What a refused command says, with the word and, for some words, a value.
abbrev pub refusing : List ℕ → Option (List ℕ) → Said
refusing word kept = record { refused = true; text = refused_line word kept }

-- What a command says if its operation is refused.
abbrev pub refused : FsRefusal → Said
refused NotFound = refusing (codes "not-found") None
refused AlreadyExists = refusing (codes "already-exists") None
refused IsDirectory = refusing (codes "is-directory") None
refused (NotDirectory key) = refusing (codes "not-directory") (Some key)
refused NotEmpty = refusing (codes "not-empty") None
refused IsRoot = refusing (codes "is-root") None
refused NoSuchBucket = refusing (codes "no-such-bucket") None

-- What a command says: its operation's answer, or its refusal.
abbrev pub said : {A : Type 0} → (A → List ℕ) → Result A FsRefusal → Said
said text (Ok answer) = fine (text answer)
said text (Err refusal) = refused refusal
