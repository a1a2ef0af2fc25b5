-- The events of two jobs that are written already, and those that are left. The code that writes them uses these definitions.
use Rattle.job_model.specs.declared.ends.EventEnd.{EventEnd}
use Rattle.job_model.specs.declared.events.Event.{Event}
use Rattle.job_report.specs.TwinText.{in_turn, letter, played_line}
use Rattle.job_report.specs.declared.played.Ended.{Ended}
use Rattle.job_spec.specs.ReportText.{event_line}
use Rattle.std.specs.List.{enumerate_from, flat_map, zip}
use Rattle.std.specs.Prelude.{List, drop, length, min, take, ℕ, ◌+◌, ◌≤◌}
use Rattle.twin_script.specs.TwinScripts.{sides_in}
use Rattle.twin_script.specs.declared.turns.Side.{Side}
use Rattle.twin_script.specs.declared.turns.TwinTurn.{TwinTurn}

-- Events with their ends.
abbrev pub ended_in : Ended → List (Event × EventEnd)
ended_in ended = zip ended.events.now ended.ends.now

-- The number of events that have ended.
abbrev pub most_in : Ended → ℕ
most_in ended = min (length ended.events.now) (length ended.ends.now)

-- Holds if this many events may be written already.
pub record IsWithin (told : ℕ) (ended : Ended) : Type 0 where
  pub of_events : told ≤ length ended.events.now
  pub of_ends : told ≤ length ended.ends.now

-- The lines of a side's `count` events after the first `told` ones, numbered from n on.
abbrev pub next_lines : Side → (n told count : ℕ) → List (Event × EventEnd) → List ℕ
next_lines side n told count xs = flat_map (event_line (letter side)) (enumerate_from n (take count (drop told xs)))

-- The lines of the turns in `order`, after the first events of both jobs.
abbrev pub left_lines : List TwinTurn → (first second : ℕ) → (firsts seconds : List (Event × EventEnd)) → List ℕ
left_lines order first second firsts seconds =
    flat_map played_line (enumerate_from (first + second + 1) (in_turn (sides_in order) (drop first firsts) (drop second seconds)))
