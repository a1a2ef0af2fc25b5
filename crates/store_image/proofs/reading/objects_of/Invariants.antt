use Rattle.s3_types.specs.Names.{is_key}
use Rattle.std.proofs.Common.{◌-◌, ◌≡◌}
use Rattle.store_image.proofs.Loop.{built}
use Rattle.store_image.specs.Reading.{map_at, name_at, object_at, rising_at}
use Rattle.store_image.proofs.reading.objects_of.Given as goal

abbrev pub invariant-loop : goal.invariant-loop
invariant-loop l = built l.objects (rising_at (name_at is_key l.whole) (object_at l.whole) (l.count - l.counter) l.last l.rest) ≡ map_at
    (name_at is_key l.whole) (object_at l.whole) l.count l.bytes
