use Rattle.std.proofs.Common.{◌++◌, ◌≡◌}
use Rattle.std.specs.Int.{w64}
use Rattle.std.specs.List.{flat_map}
use Rattle.store_image.specs.Image.{counted, object}
use Rattle.store_image.proofs.writing.put_objects.Given as goal

abbrev pub invariant-loop-key : goal.invariant-loop-key
invariant-loop-key l = l.out.items ++ flat_map object l.key-iterator ≡ l.fn.out.items ++ counted w64 object l.objects
