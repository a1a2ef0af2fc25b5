-- Definitions beside those of `Undoing` that no public contract cites.
use Rattle.job_model.specs.Known.{Known}
use Rattle.job_model.specs.declared.ends.TaskEnd.{TaskEnd}
use Rattle.job_protocol.specs.Knowledge.{as_made}
use Rattle.std.specs.Prelude.{None, Option, Some, if◌then◌else◌, length, nat_lt, ℕ, ◌||◌}
use Rattle.job_model.specs.declared.ends.TaskEnd.TheVariants as ends

-- Done if `at` uploads are all of them and no put of a temporary file was sent, else None.
abbrev pub done_at : Known → ℕ → Option TaskEnd
done_at k at = if nat_lt at (length (as_made k.drawn)) || k.put_sent then None else Some ends.Done

-- Kept if the attempt has sent its publishing request, Done if there is nothing to do, else None.
abbrev pub end_at : Known → Option TaskEnd
end_at k = if k.publish_sent then Some ends.Kept else done_at k 0
