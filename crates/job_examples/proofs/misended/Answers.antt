use Rattle.job_examples.proofs.RefusedEnds as refused
use Rattle.job_examples.proofs.misended.Goals as goal

pub returns : goal.returns
returns c = record { ends = refused.misended }
