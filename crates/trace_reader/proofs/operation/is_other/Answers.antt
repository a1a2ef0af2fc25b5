use Rattle.std.proofs.Common.{◌∙◌}
use Rattle.pending_json.proofs.Candidates.{among}
use Rattle.trace_reader.specs.Operations.{others}
use Rattle.trace_reader.proofs.operation.is_other.Goals as goal

pub returns : goal.returns
returns c = c.contains.ensures.value ∙ among others c.args.name.now
