use Rattle.job_invariant.specs.Told.{nothing_told}
use Rattle.protocol_runs.proofs.Learnt.{cleaned_is, known_is}
use Rattle.protocol_runs.proofs.journals.Goals as goal

pub returns : goal.returns
returns c = record {
  told = record {
    known = λ w c a es. known_is w a es (nothing_told c);
    cleaned = λ w c es. cleaned_is w es
        (nothing_told c);
  };
}
