-- The text of a report on two jobs: the lines of a job's report, each with the letter of its side.
use Rattle.job_model.specs.JobScript.{Script}
use Rattle.job_model.specs.declared.ends.EventEnd.{EventEnd}
use Rattle.job_model.specs.declared.ends.Pick.{Pick}
use Rattle.job_model.specs.declared.events.Event.{Event}
use Rattle.job_report.specs.declared.twins.SideReport.{SideReport}
use Rattle.job_spec.specs.ReportText.{actor_lines, closing, event_line, pick_line}
use Rattle.std.specs.List.{enumerate_from, flat_map, zip}
use Rattle.std.specs.Prelude.{List, codes, ℕ, [], ◌++◌, ◌∷◌}
use Rattle.twin_script.specs.Print.{side_word}
use Rattle.twin_script.specs.TwinScripts.{sides_in}
use Rattle.twin_script.specs.declared.turns.Side.{Side}
use Rattle.twin_script.specs.declared.turns.Side.TheVariants.{First, Second}
use Rattle.twin_script.specs.declared.turns.TwinTurn.{TwinTurn}

-- The report's data on one of the jobs: its script, the ends of its events in their order, and the chosen attempts of its commit.
pub record Told : Type 0 where
  pub script : Script
  pub ends : List EventEnd
  pub picks : List Pick

-- The report's data on a job, from the value in the code.
abbrev pub told_of : SideReport → Told
told_of side = record { script = side.script.now; ends = side.ends.now; picks = side.picks.now }

-- The letter of a side and a blank.
abbrev pub letter : Side → List ℕ
letter side = side_word side ++ codes " "

-- ---- events

-- A job's events that have ended, with their ends.
abbrev pub ended_of : Told → List (Event × EventEnd)
ended_of side = zip side.script.events side.ends

-- For each side in its turn the next item of its list, if one is left.
abbrev pub in_turn : {A : Type 0} → List Side → List A → List A → List (Side × A)
in_turn [] xs ys = []
in_turn (First ∷ sides) [] ys = in_turn sides [] ys
in_turn (First ∷ sides) (x ∷ xs) ys = (First, x) ∷ in_turn sides xs ys
in_turn (Second ∷ sides) xs [] = in_turn sides xs []
in_turn (Second ∷ sides) xs (y ∷ ys) = (Second, y) ∷ in_turn sides xs ys

-- The line of an event with its number in the run and its side, for example `3 a do 0.0 commit: done`.
abbrev pub played_line : ℕ × (Side × (Event × EventEnd)) → List ℕ
played_line p = event_line (letter p.1.0) (p.0, p.1.1)

-- A line for each event that ran, in the order of the turns.
abbrev pub played_lines : List TwinTurn → (firsts seconds : List (Event × EventEnd)) → List ℕ
played_lines order firsts seconds = flat_map played_line (enumerate_from 1 (in_turn (sides_in order) firsts seconds))

-- ---- the whole

-- The lines of the chosen attempts of a side.
abbrev pub pick_lines : Side → Told → List ℕ
pick_lines side told = flat_map (pick_line (letter side)) told.picks

-- The lines of the actors of a side.
abbrev pub side_lines : Side → Told → List ℕ
side_lines side told = actor_lines (letter side) told.script told.ends

-- The whole report, with this status, number of sends and order of turns, and the data of both jobs.
unfoldable pub twins_report : (due sent : ℕ) → List TwinTurn → (first second : Told) → List ℕ
twins_report due sent order first second =
    played_lines order (ended_of first) (ended_of second) ++ pick_lines First first ++ pick_lines Second second ++ side_lines First first ++
    side_lines Second second ++ closing sent due
