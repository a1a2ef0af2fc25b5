use Rattle.job_invariant.proofs.Aborting.{abort_fits}
use Rattle.job_invariant.proofs.Acting.{operation_goes}
use Rattle.job_invariant.proofs.Beside.{begins_write, begins_commit}
use Rattle.job_invariant.proofs.Owning.{operation_own, operation_adds}
use Rattle.job_invariant.proofs.Shows.{hidden_shows}
use Rattle.job_invariant.proofs.attempts.Goals as goal
use Rattle.job_invariant.proofs.FilePaths.{markers_lead}

pub returns : goal.returns
returns c = record {
  begins = record { write = begins_write; commit = begins_commit; abort = abort_fits };
  goes = operation_goes;
  names = record {
    own = operation_own;
    adds = operation_adds;
    shows = λ w j s there m a r own o. hidden_shows j s r o there
        (λ b k i. own.keys k i);
  };
  markers = markers_lead;
}
