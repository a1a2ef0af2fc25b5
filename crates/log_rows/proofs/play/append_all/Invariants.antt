use Rattle.std.proofs.Common.{◌≤◌}
use Rattle.log_rows.proofs.play.append_all.Given as goal

abbrev pub invariant-loop-change : goal.invariant-loop-change
invariant-loop-change g l = record { takes : g.S.Shelf.takes_appends l.shelf; few : l.appended ≤ l.change-index }
