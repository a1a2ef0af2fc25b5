use Rattle.std.proofs.Common.{◌≡◌, drop}
use Rattle.audit_judge.specs.Changes.{change_all}
use Rattle.audit_judge.proofs.shows.show_all.Given as goal

abbrev pub invariant-loop-change : goal.invariant-loop-change
invariant-loop-change l = change_all (drop l.change-index l.changes) l.shown ≡ change_all l.changes l.fn.shown
