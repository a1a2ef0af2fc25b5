-- Sizes that fit a record still fit, whether the record has them or not.
use Rattle.job_protocol.specs.Records.{sizes_by}
use Rattle.pending_json.specs.Pending.{are_sizes}
use Rattle.s3_types.specs.Tags.{Spelled}
use Rattle.s3_types.specs.declared.request.Committer.{Committer}
use Rattle.std.proofs.Common.{List, Some, arith, true, ℕ, ◌≡◌}

pub sizes_told : (c : Committer) (sizes : List ℕ) (tags : List Spelled) (total : ℕ)
    → are_sizes (Some sizes) tags total ≡ true → are_sizes (sizes_by c sizes) tags total ≡ true
sizes_told c sizes tags total h = grind arith
