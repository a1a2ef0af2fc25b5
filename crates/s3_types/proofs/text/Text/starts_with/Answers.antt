use Rattle.s3_types.proofs.Begins.{begins_is}
use Rattle.s3_types.specs.Pages.{begins}
use Rattle.std.proofs.Common.{◌∙◌}
use Rattle.s3_types.proofs.text.Text.starts_with.Goals as goal

pub returns : goal.returns
returns c = c.starts_with.ensures.value ∙ begins_is c.as_bytes-2.result.now c.as_bytes.result.now ∙
    (λ i. begins (c.as_bytes-2.ensures i) (c.as_bytes.ensures i))
