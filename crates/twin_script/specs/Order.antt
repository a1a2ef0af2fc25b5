-- The lines of an order.
use Rattle.text_and_lists.specs.Lines.{lines_of}
use Rattle.text_and_lists.specs.Numbers.{number_in}
use Rattle.text_and_lists.specs.Reading.{check, need, ◌>>=◌}
use Rattle.text_and_lists.specs.Shapes.{two}
use Rattle.text_and_lists.specs.Words.{words_of}
use Rattle.job_script.specs.Kinds.{Names, named}
use Rattle.std.specs.Prelude.{List, Ok, Option, Result, codes, if◌then◌else◌, length, nat_le, option_and_then, option_map, ℕ, [], ◌++◌, ◌+◌}
use Rattle.std.specs.Prelude.{◌-◌, ◌==◌, ◌∷◌}
use Rattle.twin_script.specs.declared.fault.TwinFault.{TwinFault}
use Rattle.twin_script.specs.declared.fault.TwinFault.TheVariants.{BadOrder}
use Rattle.twin_script.specs.declared.order.Draft.{Draft}
use Rattle.twin_script.specs.declared.turns.Side.{Side}
use Rattle.twin_script.specs.declared.turns.Side.TheVariants.{First, Second}
use Rattle.twin_script.specs.declared.turns.TwinTurn.{TwinTurn}

-- The words of the sides.
abbrev pub sides : Names Side
sides = (codes "a", First) ∷ (codes "b", Second) ∷ []

-- A turn of this many events of a side.
abbrev pub turn_by : Side → ℕ → TwinTurn
turn_by side count = record { side = side; count = count }

-- The turn of a side's word and a number from 1 to 100,000.
abbrev pub turn_in : List ℕ × List ℕ → Option TwinTurn
turn_in words = option_and_then (λ side. option_map (turn_by side) (number_in 1 100000 words.1)) (named sides words.0)

-- The turn of a line of two words.
abbrev pub turn_of : List ℕ → Option TwinTurn
turn_of line = option_and_then turn_in (two (words_of line))

-- The number of events that a side has left.
abbrev pub left : Draft → Side → ℕ
left d First = d.first
left d Second = d.second

-- The draft after n events of a side have run.
abbrev pub played : Draft → Side → ℕ → Draft
played d First n = record d { first = d.first - n }
played d Second n = record d { second = d.second - n }

-- The draft with one more turn.
abbrev pub with_turn : Draft → TwinTurn → Draft
with_turn d turn = record (played d turn.side turn.count) { turns = d.turns ++ turn ∷ [] }

-- The draft after a line of a turn, which may ask for no more events than are left.
unfoldable pub turn_at : ℕ → Draft → List ℕ → Result Draft TwinFault
turn_at n d line = do
  turn ← need (turn_of line) (BadOrder n)
  enough ← check (nat_le turn.count (left d turn.side)) (BadOrder n)
  Ok (with_turn d turn)

-- The draft after the n-th line. An empty line adds nothing.
abbrev pub line_at : ℕ → Draft → List ℕ → Result Draft TwinFault
line_at n d line = if length line == 0 then Ok d else turn_at n d line

-- The draft after these lines, numbered from n on, or the fault of the first faulty one.
unfoldable pub lines_at : ℕ → Draft → List (List ℕ) → Result Draft TwinFault
lines_at n d [] = Ok d
lines_at n d (line ∷ lines) = do
  next ← line_at n d line
  lines_at (n + 1) next lines

-- The draft before the first line, for scripts with these numbers of events.
abbrev pub nothing : ℕ → ℕ → Draft
nothing first second = record { turns = []; first = first; second = second }

-- The turns of an order, for scripts with these numbers of events.
abbrev pub order_of : ℕ → ℕ → List ℕ → Result (List TwinTurn) TwinFault
order_of first second bytes = lines_at 1 (nothing first second) (lines_of bytes) >>= λ d. Ok d.turns
