-- The result of adding one more file to the last attempt.
use Rattle.std.specs.Prelude.{ℕ, List, Option, Some, None, cond, nat_eq}
use Rattle.judging.specs.Listed.{owner, with_file}
use Rattle.audit_claims.specs.Claims.{Claimed, Tags, last_has}
use Rattle.audit_claims.specs.declared.claims.FileFit.{FileFit}
use Rattle.audit_claims.specs.declared.claims.FileFit.TheVariants.{Added, Repeated, SamePath}

-- A task may write a path that no task owns, and one that it owns itself.
abbrev pub fit_by : ℕ → Option ℕ → FileFit
fit_by t None = Added
fit_by t (Some u) = cond (nat_eq t u) Added SamePath

-- The file is repeated if the last attempt has its path; else it fits by its owner.
abbrev pub fit_of : Claimed → List ℕ → FileFit
fit_of c p = cond (last_has c p) Repeated (fit_by c.current (owner p c.listed))

-- The claim afterwards. The file is listed only if it is added.
abbrev pub after_fit : FileFit → List ℕ → Tags → Claimed → Claimed
after_fit Added p tags c = record { listed = with_file c.current p tags c.listed; current = c.current }
after_fit Repeated p tags c = c
after_fit SamePath p tags c = c
