use Rattle.line_input.proofs.FirstLines.{no_lines, first_of_lines}
use Rattle.line_input.proofs.laws.line_laws.Goals as goal

pub returns-clause-none : goal.returns-clause-none
returns-clause-none c = no_lines

pub returns-clause-first : goal.returns-clause-first
returns-clause-first c = first_of_lines
