use Rattle.s3_types.specs.Store.{Parts}
use Rattle.std.proofs.Common.{◌-◌, ◌≡◌}
use Rattle.std.specs.Int.{w64}
use Rattle.store_image.proofs.Loop.{built}
use Rattle.store_image.specs.Reading.{block_at, map_at, part_number_at, rising_at}
use Rattle.std.specs.FinMap as fin
use Rattle.store_image.proofs.reading.parts_of.Given as goal

abbrev pub invariant-loop : goal.invariant-loop
invariant-loop l = (parts : Parts) × ((l.uploads ≡ fin.insert l.fn.uploads l.id (record { key = l.key; parts = parts }))
    × (built parts (rising_at (part_number_at l.whole) (block_at w64 l.whole) (l.count - l.counter) l.last l.rest) ≡ map_at
    (part_number_at l.whole) (block_at w64 l.whole) l.count l.bytes))
