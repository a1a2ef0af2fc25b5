use Rattle.std.proofs.Common.{◌∙◌}
use Rattle.job_states.proofs.ReportLemmas.{none_reported}
use Rattle.job_states.proofs.reports.Reports.new.Goals as goal

pub returns : goal.returns
returns c = c.in_ok-told.ensures ∙ none_reported c.args.tasks
