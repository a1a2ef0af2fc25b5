-- A shelf in memory that takes changes.
use Rattle.std.specs.Prelude.{◌≡◌, Bool, length, Option, Some, None}
use Rattle.std.proofs.Common.{ap, arith}
use Rattle.log_format.specs.declared.logged_store.LoggedStore.{LoggedStore}
use Rattle.devices.specs.declared.calls.Calls.{Calls}
use Rattle.devices.specs.Logged.{Holding, Stored, HasBaseLength, IsWithinLog}
use Rattle.devices.specs.Logged.Holding.{Nothing, Stands}

-- A shelf in memory: what it holds, whether it takes appends, and the counts of its calls.
pub record Stocked : Type 0 where
  pub held : Option LoggedStore
  pub takes : Bool
  pub calls : Calls

-- What a shelf in memory holds; its file has length 0, since there is none.
abbrev pub stock : Option LoggedStore → Stored
stock None = record { holding = Nothing; base_length = 0; file_length = 0 }
stock (Some held) = record { holding = Stands held; base_length = length held.base; file_length = 0 }

one_held : (a b : LoggedStore) → Stands a ≡ Stands b → a ≡ b
one_held a b is = cc

pub stock_measured : (held : Option LoggedStore) → HasBaseLength (Some (stock held))
stock_measured None h is = cc
stock_measured (Some held) h is = ap (λ (x : LoggedStore). length x.base) (one_held held h is)

pub stock_within : (held : Option LoggedStore) → IsWithinLog (Some (stock held))
stock_within None h is = omega arith
stock_within (Some held) h is = omega arith
