-- A pending upload (Hadoop, S3A committer architecture: SinglePendingCommit).
use Rattle.s3_types.specs.Tags.{Spelled, is_plain_tag}
use Rattle.s3_types.specs.declared.limits.TheConstants.{MOST_PARTS}
use Rattle.std.specs.List.{list_all, sum}
use Rattle.std.specs.Prelude.{Bool, List, None, Option, Some, length, nat_le, true, ℕ, ◌&&◌, ◌==◌}

-- A pending upload: its task and attempt, the place of its file, the data that completes it, and the lengths of its parts if it has them.
pub record Pending : Type 0 where
  pub task : ℕ
  pub attempt : ℕ
  pub bucket : List ℕ
  pub destination : List ℕ
  pub upload : ℕ
  pub length : ℕ
  pub tags : List Spelled
  pub sizes : Option (List ℕ)

-- True if these are the tags of 1 to 10,000 parts.
abbrev pub are_tags : List Spelled → Bool
are_tags tags = nat_le 1 (length tags) && nat_le (length tags) MOST_PARTS && list_all is_plain_tag tags

-- True if there are `count` lengths with the sum `total`.
abbrev pub fit : List ℕ → ℕ → ℕ → Bool
fit sizes count total = length sizes == count && sum sizes == total

-- True if these are the lengths of the parts with these tags, of a file of this length, or if there are no lengths.
abbrev pub are_sizes : Option (List ℕ) → List Spelled → ℕ → Bool
are_sizes None tags total = true
are_sizes (Some sizes) tags total = fit sizes (length tags) total
