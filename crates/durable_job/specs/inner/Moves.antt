-- Definitions beside those of `Moves` that no public contract cites.
use Rattle.job_world.specs.Worlds.{Run}
use Rattle.std.specs.Prelude.{length, ℕ, ◌+◌, ◌-◌, ◌≡◌}
use Rattle.twin_jobs.specs.Worlds as twins

-- The number of events of the script that have no end yet.
abbrev pub left_of : Run → ℕ
left_of r = length r.script.events - length r.ends

-- The script stays, and so does the number of events with and without an end together.
pub record Stays (r s : Run) : Type 0 where
  pub script : s.script ≡ r.script
  pub count : length s.ends + left_of s ≡ length r.ends + left_of r

-- The number of events that the order asks for and that have no end yet.
abbrev pub turns_left : twins.Run → ℕ
turns_left r = length r.sides - twins.played r

-- The scripts and the order stay, and so does the number of events with and without an end together.
pub record TwinsStay (r s : twins.Run) : Type 0 where
  pub first : s.first.script ≡ r.first.script
  pub second : s.second.script ≡ r.second.script
  pub sides : s.sides ≡ r.sides
  pub count : twins.played s + turns_left s ≡ twins.played r + turns_left r
