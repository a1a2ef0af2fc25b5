use Rattle.text_and_lists.specs.Words.{text_of}
use Rattle.std.proofs.Common.{drop, map, string_bytes, ◌++◌, ◌≡◌}
use Rattle.twin_script.specs.Print.{turn_line}
use Rattle.twin_script.proofs.print.put_turns.Given as goal

abbrev pub invariant-loop-turn : goal.invariant-loop-turn
invariant-loop-turn l = string_bytes l.out ++ text_of (map turn_line (drop l.turn-index l.turns)) ≡ string_bytes l.fn.out ++ text_of
    (map turn_line l.turns)
