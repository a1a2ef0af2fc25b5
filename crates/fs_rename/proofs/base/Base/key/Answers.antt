use Rattle.fs_rename.proofs.NewKeys.{base_key}
use Rattle.s3_types.specs.Names.{are_elements}
use Rattle.std.proofs.Common.{ap, ◌∙◌}
use Rattle.fs_rename.proofs.base.Base.key.Goals as goal

pub fitting-requires : goal.fitting-requires
fitting-requires c f = base_key c.in_ok-clone.field-0 (ap are_elements c.in_ok-clone.ensures.cases ∙ c.self.invariant.1) f
