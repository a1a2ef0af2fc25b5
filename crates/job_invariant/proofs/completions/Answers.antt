use Rattle.std.proofs.Common.{refl}
use Rattle.job_invariant.proofs.Turning.{uploads_apart, turns_start, commit_turns, turn_answered}
use Rattle.job_invariant.proofs.completions.Goals as goal

pub returns : goal.returns
returns c = record {
  turns = record {
    apart = uploads_apart;
    first = λ c id. refl;
    others = λ w m none a n r o. (none, none);
    begins = λ w m missing none. turns_start w m none missing;
    goes = λ g j s m h c f t v r e n o. commit_turns g j s m h c f t v r e o;
    answered = turn_answered;
  };
}
