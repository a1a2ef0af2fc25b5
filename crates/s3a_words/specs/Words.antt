-- The command that the program's words name: the folder, the name of a command, and its operands.
use Rattle.path_keys.specs.Paths.{Path, path_in}
use Rattle.path_keys.specs.declared.fault.PathFault.{PathFault}
use Rattle.s3_types.specs.declared.limits.TheConstants.{MOST_MINIMUM}
use Rattle.s3a_words.specs.Numbers.{minimum_in, number_within}
use Rattle.s3a_words.specs.declared.command.Command.{Command}
use Rattle.s3a_words.specs.declared.command.Command.TheVariants.{AbortUploads, Cat, CleanMarkers, Cp, FillMarkers, Gen, Init, Job, Ls}
use Rattle.s3a_words.specs.declared.command.Command.TheVariants.{Markers, Mb, Mkdir, Mv, Put, PutDrop, PutForce, Rm, Rmr, Stat, Twins}
use Rattle.s3a_words.specs.declared.command.Command.TheVariants.{Uploads}
use Rattle.s3a_words.specs.declared.command.WordFault.{WordFault}
use Rattle.s3a_words.specs.declared.command.WordFault.TheVariants.{NoMemory, Usage}
use Rattle.std.specs.List.{list_all, starts_with}
use Rattle.std.specs.Prelude.{Bool, Err, List, None, Ok, Option, Result, Some, bytes_eq, codes, if◌then◌else◌, nat_eq, not, option_and_then}
use Rattle.std.specs.Prelude.{option_map, ℕ, [], ◌∷◌, ◌≡◌, ◌≤◌}

-- True if the word does not begin with `-`.
abbrev pub is_plain : List ℕ → Bool
is_plain word = not (starts_with nat_eq word (codes "-"))

-- The path that was read, or None for a fault.
abbrev pub unless_fault : Result Path PathFault → Option Path
unless_fault (Ok path) = Some path
unless_fault (Err fault) = None

-- The path that a word names, if it is a path.
unfoldable pub path_named : List ℕ → Option Path
path_named word = unless_fault (path_in word)

-- The command with this name and no operand.
unfoldable pub alone : List ℕ → Option Command
alone name =
    if bytes_eq name (codes "job") then Some Job
    else if bytes_eq name (codes "twins") then Some Twins
    else if bytes_eq name (codes "init") then Some (Init None)
    else None

-- The command with this name and a path.
unfoldable pub with_path : List ℕ → Path → Option Command
with_path name path =
    if bytes_eq name (codes "ls") then Some (Ls path)
    else if bytes_eq name (codes "stat") then Some (Stat path)
    else if bytes_eq name (codes "cat") then Some (Cat path)
    else if bytes_eq name (codes "put") then Some (Put path)
    else if bytes_eq name (codes "put-force") then Some (PutForce path)
    else if bytes_eq name (codes "put-drop") then Some (PutDrop path)
    else if bytes_eq name (codes "mkdir") then Some (Mkdir path)
    else if bytes_eq name (codes "rm") then Some (Rm path)
    else if bytes_eq name (codes "rmr") then Some (Rmr path)
    else if bytes_eq name (codes "uploads") then Some (Uploads path)
    else if bytes_eq name (codes "abort-uploads") then Some (AbortUploads path)
    else if bytes_eq name (codes "markers") then Some (Markers path)
    else if bytes_eq name (codes "clean-markers") then Some (CleanMarkers path)
    else if bytes_eq name (codes "fill-markers") then Some (FillMarkers path)
    else None

-- The command with this name and one operand: a number, a bucket's name, or a path.
unfoldable pub with_operand : List ℕ → List ℕ → Option Command
with_operand name operand =
    if bytes_eq name (codes "init") then option_map (λ n. Init (Some n)) (minimum_in operand)
    else if bytes_eq name (codes "mb") then Some (Mb operand)
    else option_and_then (with_path name) (path_named operand)

-- The command with this name and two paths.
unfoldable pub with_paths : List ℕ → Path → Path → Option Command
with_paths name from to =
    if bytes_eq name (codes "mv") then Some (Mv from to)
    else if bytes_eq name (codes "cp") then Some (Cp from to)
    else None

-- The command with this name and two operands, which must be paths.
unfoldable pub with_two : List ℕ → List ℕ → List ℕ → Option Command
with_two name first second = option_and_then (λ from. option_and_then (with_paths name from) (path_named second)) (path_named first)

-- The `gen` command with this seed, number of tasks and number of files.
unfoldable pub made : List ℕ → List ℕ → List ℕ → Option Command
made seed tasks files =
    option_and_then (λ s. option_and_then (λ t. option_map (λ f. Gen s t f) (number_within 1 50 files)) (number_within 1 200 tasks))
    (number_within 0 4294967295 seed)

-- The command with this name and three operands.
unfoldable pub with_three : List ℕ → List ℕ → List ℕ → List ℕ → Option Command
with_three name first second third = if bytes_eq name (codes "gen") then made first second third else None

-- The command that the words after the folder name.
abbrev pub said : List (List ℕ) → Option Command
said (name ∷ []) = alone name
said (name ∷ operand ∷ []) = with_operand name operand
said (name ∷ first ∷ second ∷ []) = with_two name first second
said (name ∷ first ∷ second ∷ third ∷ []) = with_three name first second third
said _ = None

-- The command that all words name; no word after the folder begins with `-`.
unfoldable pub command_of : List (List ℕ) → Option Command
command_of [] = None
command_of (folder ∷ words) = if list_all is_plain words then said words else None

-- Holds if the numbers that the command names are within their bounds.
abbrev pub IsBounded : Command → Type 0
IsBounded (Init (Some bytes)) = (1 ≤ bytes) × (bytes ≤ MOST_MINIMUM)
IsBounded (Gen seed tasks files) = (seed ≤ 4294967295) × (1 ≤ tasks) × (tasks ≤ 200) × (1 ≤ files) × (files ≤ 50)
IsBounded _ = Unit {0}

-- Holds if the result is this command, or Usage if there is none, or NoMemory.
abbrev pub Reads : Option Command → Result Command WordFault → Type 0
Reads there (Ok command) = there ≡ Some command
Reads there (Err Usage) = there ≡ None
Reads there (Err NoMemory) = Unit {0}
