-- Definitions beside those of `Lengths` that no public contract cites.
use Rattle.devices.specs.Logged.{IsWithinLog}
use Rattle.devices.specs.Logged.Holding.{Stands}
use Rattle.folder_log.specs.Disk.{File}
use Rattle.folder_log.specs.Kept.{IsAtRest, TakesAppends, as_holding, stored}
use Rattle.log_format.proofs.Files.{file_again}
use Rattle.log_format.specs.Log.{log}
use Rattle.log_format.specs.Reading.{held_in}
use Rattle.log_format.specs.declared.logged_store.LoggedStore.{LoggedStore}
use Rattle.std.proofs.Common.{ap, arith, inr, sym, ◌∙◌}
use Rattle.std.specs.Prelude.{List, None, Ok, Option, Some, length, ℕ, [], ◌≡◌}

one_held : (a b : LoggedStore) → Stands a ≡ Stands b → a ≡ b
one_held a b is = cc

-- A log with its closed gate holds its base and its changes.
at_rest_held : (gate : ℕ) (bytes : List ℕ) (rest : IsAtRest gate bytes)
    → held_in bytes ≡ Ok (record { base = rest.base; changes = rest.changes })
at_rest_held gate bytes rest =
    file_again bytes (record { base = rest.base; changes = rest.changes }) rest.fits
    (inr (record { gate = 0; behind = []; not_open = omega arith; spelled = rest.spelled; legal = rest.legal }))

at_rest_within : (gate : ℕ) (bytes : List ℕ) → IsAtRest gate bytes → IsWithinLog (stored (Some (Some bytes)))
at_rest_within gate bytes rest held is =
    let here : LoggedStore = record { base = rest.base; changes = rest.changes } in
    let same : here ≡ held = one_held here held (sym (ap as_holding (at_rest_held gate bytes rest)) ∙ is) in
    let file : length bytes ≡ length (log held.base held.changes) = ap length rest.spelled ∙ ap
    (λ (h : LoggedStore). length (log h.base h.changes)) same in
    omega arith

pub is_within_log : (seen : Option File) (leaves : File → Type 0) (gate : Option ℕ) → TakesAppends seen leaves gate
    → IsWithinLog (stored seen)
is_within_log seen leaves None takes = absurd takes
is_within_log None leaves (Some gate) takes = tt
is_within_log (Some None) leaves (Some gate) takes = absurd takes
is_within_log (Some (Some bytes)) leaves (Some gate) takes = at_rest_within gate bytes takes.0
