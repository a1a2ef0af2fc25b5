use Rattle.text_and_lists.specs.Words.{text_of}
use Rattle.job_script.specs.Print.{attempt_lines}
use Rattle.std.proofs.Common.{string_bytes, ◌++◌, ◌≡◌}
use Rattle.std.specs.List.{flat_map}
use Rattle.job_script.proofs.print_files.put_attempts.Given as goal

abbrev pub invariant-loop-name : goal.invariant-loop-name
invariant-loop-name l = string_bytes l.out ++ text_of (flat_map attempt_lines l.name-iterator) ≡ string_bytes l.fn.out ++ text_of
    (flat_map attempt_lines l.attempts)
