use Rattle.std.proofs.Common.{◌-◌, ◌≡◌, ◌≤◌, length}
use Rattle.trace_text.proofs.dry_runs.run_all.Given as goal

abbrev pub invariant-events : goal.invariant-events
invariant-events g l = record {
  within : length l.world.ends ≤ length l.world.script.events;
  script : l.world.script ≡ l.fn.world.script;
  opening : l.world.opening ≡ l.fn.world.opening;
}

abbrev pub decreases-events : goal.decreases-events
decreases-events g l = length l.world.script.events - length l.world.ends
