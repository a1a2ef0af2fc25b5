use Rattle.log_format.proofs.Loop.{in_front}
use Rattle.log_format.specs.Reading.{list_at, text_at}
use Rattle.s3_types.specs.Names.{is_key}
use Rattle.std.proofs.Common.{◌-◌, ◌≡◌}
use Rattle.log_format.proofs.fields.keys_in.Given as goal

abbrev pub invariant-loop : goal.invariant-loop
invariant-loop l = in_front l.keys.items (list_at (text_at is_key l.at) (l.count - l.counter) l.rest) ≡ list_at (text_at is_key l.at)
    l.count l.bytes
