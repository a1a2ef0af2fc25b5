use Rattle.std.proofs.Common.{◌≡◌}
use Rattle.std.specs.Prelude.{map}
use Rattle.std.specs.FinMap as fin
use Rattle.std.specs.List.{find}
use Rattle.audit_judge.specs.inner.Scene.{shows_sign}
use Rattle.audit_judge.proofs.known.Known.first_shown.Given as goal

abbrev pub invariant-loop-path : goal.invariant-loop-path
invariant-loop-path l =
    find (shows_sign l.sign l.self) (map (λ e. e.0) l.path-iterator) ≡ find (shows_sign l.sign l.self)
    (map (λ e. e.0) (fin.entries l.self.shown))
