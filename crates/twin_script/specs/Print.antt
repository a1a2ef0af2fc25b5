-- The text of two scripts and an order as it is printed.
use Rattle.text_and_lists.specs.Words.{ended, text_of}
use Rattle.job_script.specs.Kinds.{Line}
use Rattle.job_script.specs.Print.{script_text}
use Rattle.std.specs.Fmt.{decimal}
use Rattle.std.specs.Prelude.{List, codes, map, ℕ, [], ◌++◌, ◌∷◌}
use Rattle.twin_script.specs.TwinScripts.{Twins}
use Rattle.twin_script.specs.declared.turns.Side.{Side}
use Rattle.twin_script.specs.declared.turns.Side.TheVariants.{First, Second}
use Rattle.twin_script.specs.declared.turns.TwinTurn.{TwinTurn}

-- The word of a side.
abbrev pub side_word : Side → List ℕ
side_word First = codes "a"
side_word Second = codes "b"

-- The line `a N` or `b N`.
abbrev pub turn_line : TwinTurn → Line
turn_line turn = side_word turn.side ∷ decimal turn.count ∷ []

-- The line ===== with its LF.
abbrev pub parting_text : List ℕ
parting_text = ended (codes "=====" ∷ [])

-- The text: the first script, a separator line, the second script, a separator line, and a line for each turn.
unfoldable pub twins_text : Twins → List ℕ
twins_text t = script_text t.first ++ (parting_text ++ (script_text t.second ++ (parting_text ++ text_of (map turn_line t.order))))
