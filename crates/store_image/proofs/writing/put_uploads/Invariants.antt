use Rattle.std.proofs.Common.{◌++◌, ◌≡◌}
use Rattle.std.specs.Int.{w64}
use Rattle.std.specs.List.{flat_map}
use Rattle.store_image.specs.Image.{counted, upload}
use Rattle.store_image.proofs.writing.put_uploads.Given as goal

abbrev pub invariant-loop-live : goal.invariant-loop-live
invariant-loop-live l = l.out.items ++ flat_map upload l.live-iterator ≡ l.fn.out.items ++ counted w64 upload l.uploads
