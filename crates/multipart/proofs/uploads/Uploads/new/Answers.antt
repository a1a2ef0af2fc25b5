use Rattle.multipart.proofs.Keyed.{keyed_empty}
use Rattle.multipart.specs.inner.Index.{keyed}
use Rattle.std.proofs.Common.{ap, sym, ◌∙◌}
use Rattle.multipart.proofs.uploads.Uploads.new.Goals as goal

pub invariant_of-result : goal.invariant_of-result
invariant_of-result c = c.new-2.ensures ∙ keyed_empty ∙ ap keyed (sym c.new.ensures)
