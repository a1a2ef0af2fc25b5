-- The exit statuses of the program, and the texts that some of them print.
use Rattle.exit_status.specs.declared.statuses.Status.{Status}
use Rattle.exit_status.specs.declared.statuses.Status.TheVariants.{BadImage, BadScript, Done, NoMemory, ReadFault, Refused, ShelfFault}
use Rattle.exit_status.specs.declared.statuses.Status.TheVariants.{StoreFault, Usage, WriteFault}
use Rattle.std.specs.Prelude.{List, None, Option, Some, codes, unwrap_or, ℕ, [], ◌++◌, ◌∷◌}

-- The exit status as a number.
abbrev pub code : Status → ℕ
code Done = 0
code Refused = 1
code Usage = 2
code ReadFault = 3
code WriteFault = 4
code ShelfFault = 5
code BadScript = 6
code BadImage = 7
code StoreFault = 8
code NoMemory = 9

-- ---- texts

-- The usage line, which is printed for words that are no command.
abbrev pub usage_text : List ℕ
usage_text = codes "usage: s3a FOLDER COMMAND WORDS" ++ 10 ∷ []

-- The text that is printed when reading the input fails.
abbrev pub read_text : List ℕ
read_text = codes "read fault" ++ 10 ∷ []

-- The text that is printed when the store's folder fails.
abbrev pub shelf_text : List ℕ
shelf_text = codes "shelf fault" ++ 10 ∷ []

-- The text that is printed when memory runs out.
abbrev pub memory_text : List ℕ
memory_text = codes "no memory" ++ 10 ∷ []

-- The text of a status that always prints the same text; the other statuses have none.
abbrev pub own_text : Status → Option (List ℕ)
own_text Usage = Some usage_text
own_text ReadFault = Some read_text
own_text ShelfFault = Some shelf_text
own_text NoMemory = Some memory_text
own_text _ = None

-- The text that is written with a status: the given text, or if none is given, the status's own text, or nothing.
abbrev pub written_text : Status → Option (List ℕ) → List ℕ
written_text status text = unwrap_or text (unwrap_or (own_text status) [])
