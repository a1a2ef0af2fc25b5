use Rattle.text_and_lists.specs.Order.{text_cmp}
use Rattle.s3_types.specs.Names.{is_bucket}
use Rattle.std.proofs.Common.{◌-◌, ◌≡◌}
use Rattle.store_image.proofs.Loop.{built}
use Rattle.store_image.proofs.Maps.{IsFree}
use Rattle.store_image.specs.Reading.{bucket_at, map_at, name_at, rising_at}
use Rattle.store_image.proofs.reading.buckets_of.Given as goal

abbrev pub invariant-loop : goal.invariant-loop
invariant-loop l = record {
  so_far : built l.service.buckets (rising_at (name_at is_bucket l.whole) (bucket_at l.fn.service.next l.whole) (l.count - l.counter) l.last
      l.rest) ≡ map_at (name_at is_bucket l.whole) (bucket_at l.fn.service.next l.whole) l.count l.bytes;
  free : IsFree text_cmp l.last l.service.buckets;
  same_next : l.service.next ≡ l.fn.service.next;
  same_minimum : l.service.minimum ≡ l.fn.service.minimum;
}
