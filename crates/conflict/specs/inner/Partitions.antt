-- Partitions one by one.
use Rattle.text_and_lists.specs.Order.{text_cmp}
use Rattle.std.specs.BTreeSet.{insert_key}
use Rattle.std.specs.Prelude.{List, None, Option, Some, ℕ}

-- The partitions with one more, if there is one.
abbrev pub with_partition : Option (List ℕ) → List (List ℕ) → List (List ℕ)
with_partition (Some d) ds = insert_key text_cmp ds d
with_partition None ds = ds
