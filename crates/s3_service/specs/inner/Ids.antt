-- Definitions beside those of `Ids` that no public contract cites.
use Rattle.s3_service.specs.Ids.{AreBelow}
use Rattle.s3_types.specs.Store.{Buckets}
use Rattle.s3_types.specs.declared.limits.TheConstants.{MOST_MINIMUM}
use Rattle.std.specs.Prelude.{ℕ, ◌≤◌}

-- What every store keeps: the ids of all uploads are below the next id, and the least part size is from 1 to the greatest that a store may
-- ask for.
pub record IsStore (m : Buckets) (next minimum : ℕ) : Type 0 where
  pub below : AreBelow m next
  pub some : 1 ≤ minimum
  pub most : minimum ≤ MOST_MINIMUM
