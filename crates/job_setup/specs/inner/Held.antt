-- Definitions beside those of `Held` that no public contract cites.
use Rattle.job_model.specs.JobScript.{Script}
use Rattle.job_protocol.specs.Conflicts.{checks_all}
use Rattle.job_protocol.specs.Setup.{Checking, Clearing, Setup}
use Rattle.std.specs.Prelude.{cond, []}

-- The set-up after a reply that there is no object at the destination's own key.
abbrev pub found_nothing : Script → Setup
found_nothing w = cond (checks_all w.committer w.mode) (Checking []) Clearing
