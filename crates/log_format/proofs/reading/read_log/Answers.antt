use Rattle.log_format.specs.Fault.{Gives}
use Rattle.log_format.specs.File.{StandsFor}
use Rattle.log_format.specs.Reading.{held_in}
use Rattle.std.proofs.Common.{List, subst, sym, ℕ}
use Rattle.std.specs.Prelude.{IfOk}
use Rattle.log_format.proofs.reading.read_log.Goals as goal

pub returns-clause-exact : goal.returns-clause-exact
returns-clause-exact c = subst (λ (b : List ℕ). Gives c.read_bytes.result (held_in b)) c.as_slice.ensures c.read_bytes.ensures.exact

pub returns-clause-found : goal.returns-clause-found
returns-clause-found c = subst (λ (b : List ℕ). IfOk c.read_bytes.result (StandsFor b)) c.as_slice.ensures c.read_bytes.ensures.found

pub returns-clause-only : goal.returns-clause-only
returns-clause-only c h is = c.read_bytes.ensures.only h (subst (λ (b : List ℕ). StandsFor b h) (sym c.as_slice.ensures) is)
