use Rattle.std.proofs.Common.{[]}
use Rattle.retries.proofs.First.{computed, none_sent, only_one}
use Rattle.retries.proofs.wearing.Goals as goal

pub returns : goal.returns
returns c = record { once = record { is = λ retries es. computed retries [] es (none_sent retries); only = only_one } }
