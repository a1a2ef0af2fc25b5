use Rattle.s3_types.specs.Multipart.{is_part_number}
use Rattle.std.proofs.Common.{true, ◌++◌, ◌≡◌}
use Rattle.std.specs.Int.{w16}
use Rattle.std.specs.List.{AllByRecursion, flat_map}
use Rattle.store_image.specs.Image.{counted, part}
use Rattle.store_image.proofs.writing.put_parts.Given as goal

abbrev pub invariant-loop-number : goal.invariant-loop-number
invariant-loop-number l = record {
  so_far : l.out.items ++ flat_map part l.number-iterator ≡ l.fn.out.items ++ counted w16 part l.parts;
  numbers : AllByRecursion (λ e. is_part_number e.0 ≡ true) l.number-iterator;
}
