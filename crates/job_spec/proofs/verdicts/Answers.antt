use Rattle.job_spec.proofs.Restarted.{zero_of, setup_of, ended_of, unended_of, begun_of, not_begun_of, refused_of}
use Rattle.job_spec.proofs.verdicts.Goals as goal

pub returns : goal.returns
returns c = record {
  decided = record {
    zero = zero_of;
    setup = setup_of;
    ended = ended_of;
    unended = unended_of;
    begun = begun_of;
    not_begun = not_begun_of;
    refused = refused_of;
  };
}
