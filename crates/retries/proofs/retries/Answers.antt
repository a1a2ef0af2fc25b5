use Rattle.retries.proofs.First.{counted_first, exactly_worn, some_worn, spent_first}
use Rattle.retries.specs.Retries.{fresh}
use Rattle.std.proofs.Common.{None}
use Rattle.retries.proofs.retries.Goals as goal

pub returns : goal.returns
returns g c = record {
  literal = record {
    first = λ retries asks after m es f. counted_first retries asks after m es f;
    some = λ retries
        after m es. some_worn retries (λ m. None) after (fresh retries m) es;
    exactly = λ retries asks after m es f. exactly_worn retries asks
        after m es f;
    counts = λ retries wants tells spare holds c m i is es f. spent_first retries wants tells spare holds c m i is es f;
  };
}
