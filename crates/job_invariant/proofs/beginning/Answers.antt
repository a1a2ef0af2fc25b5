use Rattle.job_invariant.proofs.Starting.{facts_begin, idle_keeps}
use Rattle.job_invariant.proofs.beginning.Goals as goal

pub returns : goal.returns
returns c = record { begins = facts_begin; reads = idle_keeps }
