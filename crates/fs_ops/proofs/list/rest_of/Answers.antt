use Rattle.fs_ops.proofs.Names.{rest_found}
use Rattle.fs_ops.proofs.list.rest_of.Goals as goal

pub returns : goal.returns
returns c = rest_found c.args.prefix.now c.args.text.now c.strip_prefix.result c.strip_prefix.ensures.cases
