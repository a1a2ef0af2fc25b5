use Rattle.log_format.proofs.Loop.{in_front}
use Rattle.log_format.specs.Reading.{list_at, named_at}
use Rattle.std.proofs.Common.{◌-◌, ◌≡◌}
use Rattle.log_format.proofs.fields.parts_in.Given as goal

abbrev pub invariant-loop : goal.invariant-loop
invariant-loop l = in_front l.parts.items (list_at (named_at l.at) (l.count - l.counter) l.rest) ≡ list_at (named_at l.at) l.count l.bytes
