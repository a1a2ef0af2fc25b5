use Rattle.std.proofs.Common.{◌≡◌, drop}
use Rattle.std.specs.List.{find}
use Rattle.audit_judge.specs.Changes.{paths_of}
use Rattle.audit_judge.specs.inner.Scene.{shows_sign}
use Rattle.audit_judge.proofs.known.Known.first_changed.Given as goal

abbrev pub invariant-loop-change : goal.invariant-loop-change
invariant-loop-change l =
    find (shows_sign l.sign l.self) (paths_of (drop l.change-index l.changes)) ≡ find (shows_sign l.sign l.self) (paths_of l.changes)
