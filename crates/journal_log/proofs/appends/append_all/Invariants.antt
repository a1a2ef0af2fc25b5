use Rattle.journal_log.specs.inner.Appends.{Appended}
use Rattle.journal_log.specs.Changes.{changes}
use Rattle.journal_log.specs.Crashes.{IsBetween}
use Rattle.devices.specs.Logged.{CrashesLeave}
use Rattle.std.proofs.Common.{take, ◌≡◌}
use Rattle.journal_log.proofs.appends.append_all.Given as goal

abbrev pub invariant-loop-entry : goal.invariant-loop-entry
invariant-loop-entry g l =
    let s = g.F.Shelf in
    let rs = changes (take l.entry-index l.entries) in
    record {
      appended : Appended s.sight rs l.fn.shelf l.shelf;
      left : CrashesLeave s.sight l.fn.shelf l.shelf (IsBetween (s.sight.held l.fn.shelf) rs);
      takes : s.takes_appends l.shelf;
      calm : s.faults l.shelf ≡ s.faults l.fn.shelf;
    }
