use Rattle.journal_log.proofs.Journals.{not_changing, not_effective, taken}
use Rattle.journal_log.proofs.changing.change_of.Goals.{else-is_effective-via-else-is_effective}
use Rattle.journal_log.proofs.changing.change_of.Goals.{else-is_effective-via-then-is_effective+else-is_changing}
use Rattle.std.proofs.Common.{sym, ◌∙◌}
use Rattle.journal_log.proofs.changing.change_of.Goals as goal

pub returns-then-is_changing : goal.returns-then-is_changing
returns-then-is_changing c =
    let may = sym c.is_changing.ensures ∙ c.if-is_changing.true in
    (taken c.args.entry.now (sym c.is_effective.ensures ∙ c.if-is_effective.true) may, may)

pub returns-else-is_effective : goal.returns-else-is_effective
returns-else-is_effective c =
    elim c.else-is_effective.branch [
      | else-is_effective-via-then-is_effective+else-is_changing w ↦ not_changing c.args.entry.now
          (sym w.is_changing.ensures ∙ w.if-is_changing.false)
      | else-is_effective-via-else-is_effective w ↦ not_effective c.args.entry.now (sym c.is_effective.ensures ∙ w.if-is_effective.false)
    ]
