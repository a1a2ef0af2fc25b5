use Rattle.std.proofs.Common.{◌++◌, ◌≡◌, string_bytes}
use Rattle.std.specs.List.{flat_map}
use Rattle.trace_text.specs.Heads.{attempt_lines}
use Rattle.trace_text.proofs.heads.write_attempts.Given as goal

abbrev pub invariant-loop-name : goal.invariant-loop-name
invariant-loop-name l =
    string_bytes l.text ++ flat_map (attempt_lines l.script l.minimum) l.name-iterator
    ≡ string_bytes l.fn.text ++ flat_map (attempt_lines l.script l.minimum) l.script.attempts
