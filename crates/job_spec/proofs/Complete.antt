-- A commit that meets no fault results in Committed.
use Rattle.job_model.specs.JobScript.{Script}
use Rattle.job_model.specs.declared.ends.CommitEnd.{CommitEnd}
use Rattle.job_protocol.specs.Outputs.{Picks, is_clash, same_path}
use Rattle.job_spec.specs.Ends.{commit_due, end_or}
use Rattle.std.proofs.Common.{None, Option, Some, false, is_some, refl, ◌≡◌}
use Rattle.job_model.specs.declared.ends.CommitEnd.TheVariants as commits

by_path : (o : Option CommitEnd) → is_some o ≡ false → end_or o commits.Committed ≡ commits.Committed
by_path None h = refl
by_path (Some e) h = absurd (cc)

pub complete : (w : Script) (picks : Picks) → is_clash w picks ≡ false → commit_due w picks None None ≡ commits.Committed
complete w picks h = by_path (same_path w picks) h
