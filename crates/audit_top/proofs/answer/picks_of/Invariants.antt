use Rattle.std.proofs.Common.{List, ℕ, ◌++◌}
use Rattle.audit_text.specs.declared.sound.Pick.{Pick}
use Rattle.audit_top.specs.Answer.{AreLeast}
use Rattle.auditor.specs.SoFar.{IsTold}
use Rattle.audit_top.proofs.answer.picks_of.Given as goal

abbrev pub invariant-loop-task : goal.invariant-loop-task
invariant-loop-task l = (lines : List (List ℕ)) (t : IsTold l.audit lines) (rest : List Pick)
    → AreLeast lines t.said l.task rest → AreLeast lines t.said 0 (l.picks.items ++ rest)
