use Rattle.job_gen.proofs.Declaring.{attempts_from}
use Rattle.job_gen.specs.Made.{part_files}
use Rattle.job_spec.specs.Turns.{draw}
use Rattle.std.proofs.Common.{◌*◌, ◌≡◌}
use Rattle.job_gen.proofs.attempts.all_attempts.Given as goal

abbrev pub invariant-loop-task : goal.invariant-loop-task
invariant-loop-task l = record {
  drawn : l.numbers ≡ draw l.seed (2 * (l.task * l.files));
  so_far : l.attempts ≡ attempts_from (part_files l.seed l.files) 0 l.task;
}
