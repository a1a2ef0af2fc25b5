use Rattle.std.proofs.Common.{inr, refl}
use Rattle.job_invariant.proofs.Clearing.{clean_clears}
use Rattle.job_invariant.proofs.cleans.Goals as goal

pub returns : goal.returns
returns c = record {
  clears = record {
    begins = λ w s there. (there, λ id u e b. inr refl);
    goes = λ w s retries t h r e o. clean_clears w s retries t.spare t.repeated t.operation h r e o;
    done = λ w s h. h refl;
  };
}
