use Rattle.job_setup.proofs.Shown.{dest_some, dest_most}
use Rattle.job_setup.proofs.setup_state.SetupState.request.Goals as goal

pub head_request-requires : goal.head_request-requires
head_request-requires c = record {
  some = dest_some _ c.plan.invariant;
  most = dest_most _ c.plan.invariant;
}

pub clear_request-requires : goal.clear_request-requires
clear_request-requires c = record {
  some = dest_some _ c.plan.invariant;
  most = dest_most _ c.plan.invariant;
}
