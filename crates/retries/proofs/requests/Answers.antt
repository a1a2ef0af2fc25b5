use Rattle.retries.proofs.SameRequest.{same_is, same_self}
use Rattle.retries.proofs.requests.Goals as goal

pub returns : goal.returns
returns c = record { same = record { equal = same_is; self = same_self } }
