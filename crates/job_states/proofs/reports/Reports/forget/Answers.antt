use Rattle.std.proofs.Common.{◌≡◌, ◌∙◌, length, drop, arith}
use Rattle.job_states.proofs.ReportLemmas.{whole, forgotten}
use Rattle.job_states.proofs.reports.Reports.forget.Goals as goal

pub returns : goal.returns
returns c = λ tasks f is.
    let items = c.self.inside.told.items in
    let told = c.untell.new.told in
    let many : c.self.inside.told.len ≡ length told = omega arith in
    let same : length told ≡ length items = omega arith in
    whole c.self.inside.told.len told (drop (length told) items) many ∙ forgotten items told tasks f (c.self.view_is ∙ is) same
    c.untell.ensures
