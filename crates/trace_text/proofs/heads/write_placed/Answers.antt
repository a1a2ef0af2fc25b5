use Rattle.std.proofs.Common.{ℕ, ◌≤◌, subst, sym}
use Rattle.s3_types.proofs.Blocks.{some_size}
use Rattle.trace_text.proofs.heads.write_placed.Goals as goal

pub part_tags-requires : goal.part_tags-requires
part_tags-requires c = subst (λ (n : ℕ). 1 ≤ n) (sym c.block_of-size.ensures) (some_size _ _ _)
