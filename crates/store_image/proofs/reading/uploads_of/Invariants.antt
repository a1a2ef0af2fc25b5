use Rattle.s3_service.specs.Ids.{IsFresh}
use Rattle.std.proofs.Common.{nat_cmp, ◌-◌, ◌≡◌}
use Rattle.store_image.proofs.Loop.{built}
use Rattle.store_image.proofs.Maps.{IsFree}
use Rattle.store_image.specs.Reading.{id_at, map_at, rising_at, upload_at}
use Rattle.store_image.proofs.reading.uploads_of.Given as goal

abbrev pub invariant-loop : goal.invariant-loop
invariant-loop l = record {
  so_far : built l.uploads (rising_at (id_at l.next l.whole) (upload_at l.whole) (l.count - l.counter) l.last l.rest) ≡ map_at
      (id_at l.next l.whole) (upload_at l.whole) l.count l.bytes;
  free : IsFree nat_cmp l.last l.uploads;
  fresh : IsFresh l.uploads l.next;
}
