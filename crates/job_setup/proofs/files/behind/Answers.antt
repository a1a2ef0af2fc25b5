use Rattle.job_setup.proofs.Shown.{text_behind}
use Rattle.job_setup.proofs.files.behind.Goals as goal

pub returns : goal.returns
returns c = text_behind c.args.prefix.now c.args.text.now c.strip_prefix.result c.strip_prefix.ensures.cases
