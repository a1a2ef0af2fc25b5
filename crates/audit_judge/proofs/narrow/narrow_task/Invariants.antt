use Rattle.std.proofs.Common.{◌≡◌, ◌+◌, ◌++◌, drop, length, take}
use Rattle.audit_judge.specs.inner.Narrowed.{narrow_task}
use Rattle.audit_judge.specs.inner.Scene.{meets}
use Rattle.audit_judge.proofs.narrow.narrow_task.Given as goal

abbrev pub invariant-loop-files : goal.invariant-loop-files
invariant-loop-files l = record {
  all : l.k + length l.files-iterator ≡ length l.attempts;
  places : l.k + length l.files-iterator ≡ length l.flags;
  rest : take l.k l.flags ++ narrow_task (meets l.demand l.known l.path) l.path l.files-iterator (drop l.k l.flags)
      ≡ narrow_task (meets l.demand l.known l.path) l.path l.attempts l.fn.flags;
}
