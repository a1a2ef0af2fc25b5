use Rattle.std.proofs.Common.{◌≡◌, None, drop}
use Rattle.audit_judge.specs.Changes.{paths_of}
use Rattle.audit_judge.specs.inner.Narrowed.{Fitting, least_from, narrow_all}
use Rattle.audit_judge.specs.inner.Scene.{meets}
use Rattle.audit_judge.proofs.narrow.narrow_changes.Given as goal

abbrev pub invariant-loop-change : goal.invariant-loop-change
invariant-loop-change l = record {
  after : narrow_all (meets l.demand l.known) l.known.claimed.listed (paths_of (drop l.change-index l.changes)) l.rows.items
      ≡ narrow_all (meets l.demand l.known) l.known.claimed.listed (paths_of l.changes) l.fn.rows.items;
  least : least_from (meets l.demand l.known) l.known.claimed.listed (paths_of (drop l.change-index l.changes)) l.rows.items l.least
      ≡ least_from (meets l.demand l.known) l.known.claimed.listed (paths_of l.changes) l.fn.rows.items None;
  places : Fitting l.known.claimed.listed l.rows.items;
}
