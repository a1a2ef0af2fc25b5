use Rattle.std.proofs.Common.{◌++◌, ◌≡◌}
use Rattle.std.specs.Int.{w64}
use Rattle.std.specs.List.{flat_map}
use Rattle.store_image.specs.Image.{bucket, counted}
use Rattle.store_image.proofs.writing.put_buckets.Given as goal

abbrev pub invariant-loop-held : goal.invariant-loop-held
invariant-loop-held l = l.out.items ++ flat_map bucket l.held-iterator ≡ l.fn.out.items ++ counted w64 bucket l.service.buckets
