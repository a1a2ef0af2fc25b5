use Rattle.job_examples.proofs.OneEnds.{one_finished}
use Rattle.job_examples.proofs.OnePlays.{goes}
use Rattle.std.proofs.Common.{lit<}
use Rattle.std.proofs.lemmas.Fmt.{decimal_digit}
use Rattle.job_examples.proofs.one_file.Goals as goal

pub returns-clause-runs : goal.returns-clause-runs
returns-clause-runs c = goes

pub returns-clause-seen : goal.returns-clause-seen
returns-clause-seen c = search (decimal_digit 0 (lit< tt))

pub returns-clause-finished : goal.returns-clause-finished
returns-clause-finished c = one_finished
