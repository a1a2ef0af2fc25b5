use Rattle.auditor.proofs.Seen.{behind_front}
use Rattle.auditor.proofs.destination.behind.Goals as goal

pub returns : goal.returns
returns c = record { behind = behind_front c.args.prefix.now c.args.text.now c.strip_prefix.result c.strip_prefix.ensures.cases }
