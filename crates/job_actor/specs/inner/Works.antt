-- Definitions beside those of `Works` that no public contract cites.
use Rattle.job_model.specs.JobScript.{Script}
use Rattle.job_spec.specs.States.{actors}
use Rattle.s3_types.specs.declared.request.Actor.{Actor}
use Rattle.std.specs.Prelude.{Some, slice_get, ℕ, ◌≡◌}

-- The actor at a place: the driver at 0, then the attempts in script order.
abbrev pub IsPlace : Script → ℕ → Actor → Type 0
IsPlace w place a = slice_get (actors w) place ≡ Some a
