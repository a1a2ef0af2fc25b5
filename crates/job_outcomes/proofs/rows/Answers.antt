use Rattle.job_outcomes.proofs.EventRows.{event_rows}
use Rattle.job_outcomes.proofs.rows.Goals as goal

pub returns : goal.returns
returns c = record { cut = event_rows }
