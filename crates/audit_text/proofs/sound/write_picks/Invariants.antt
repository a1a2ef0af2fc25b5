use Rattle.std.proofs.Common.{◌≡◌, ◌++◌, string_bytes, take}
use Rattle.std.specs.List.{flat_map}
use Rattle.audit_text.specs.Answer.{pick_line}
use Rattle.audit_text.proofs.sound.write_picks.Given as goal

abbrev pub invariant-loop-pick : goal.invariant-loop-pick
invariant-loop-pick l = string_bytes l.text ≡ string_bytes l.fn.text ++ flat_map pick_line (take l.pick-index l.picks)
