use Rattle.job_invariant.proofs.Legible.{record_read}
use Rattle.job_invariant.proofs.Replies.{part_taken, completed, record_there, set_answered}
use Rattle.job_invariant.proofs.answers.Goals as goal

pub returns : goal.returns
returns c = record {
  fit = record {
    part = λ w minimum s last m j f. part_taken j f;
    complete = λ w minimum s last m j f. completed j f;
    record_there = λ w minimum s last m j f. record_there j f;
    record_read = λ w minimum s last m j f few. record_read j f few;
    set_there = λ w minimum s last m j f few t lt. set_answered j f few t lt;
  };
}
