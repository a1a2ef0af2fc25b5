-- The entries of a map from numbers, one after another.
use Rattle.s3_types.specs.Store.{Upload}
use Rattle.std.specs.BTreeMap.Range.{entries_between}
use Rattle.std.specs.Ordering.{nat_cmp}
use Rattle.std.specs.Prelude.{List, Option, slice_get, ℕ}
use Rattle.std.specs.declared.ops.Bound.TheVariants.{Excluded, Unbounded}
use Rattle.std.specs.FinMap as fin

-- The entry with the least number that is greater than n.
abbrev pub next_of : {X : Type 0} → ℕ → fin.FinMap nat_cmp X → Option (ℕ × X)
next_of n m = slice_get (entries_between nat_cmp (Excluded n) Unbounded (fin.entries m)) 0

-- An upload as its id, its key and the number of its parts.
abbrev pub shown : ℕ × Upload → ℕ × List ℕ × ℕ
shown e = (e.0, e.1.key, fin.len e.1.parts)
