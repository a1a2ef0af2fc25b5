use Rattle.job_gen.specs.Made.{below, part_file, part_path}
use Rattle.job_spec.specs.Turns.{draw}
use Rattle.std.proofs.Common.{map, ℕ, ◌*◌, ◌+◌, ◌≡◌}
use Rattle.job_gen.proofs.files.task_files.Given as goal

abbrev pub invariant-loop-file : goal.invariant-loop-file
invariant-loop-file l = record {
  paths : map (λ f. f.0) l.made ≡ map (part_path l.task) (below l.file);
  drawn : (seed i : ℕ) → l.fn.numbers ≡ draw seed i → l.numbers ≡ draw seed (i + 2 * l.file);
  made : (seed : ℕ) → l.fn.numbers ≡ draw seed (2 * (l.task * l.files)) → l.made ≡ map (part_file seed l.files l.task) (below l.file);
}
