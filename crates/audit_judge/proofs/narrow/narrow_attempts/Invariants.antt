use Rattle.std.proofs.Common.{◌≡◌}
use Rattle.audit_judge.specs.inner.Narrowed.{Fitting, least_from, narrow_all, paths_of_task}
use Rattle.audit_judge.specs.inner.Scene.{meets}
use Rattle.audit_judge.proofs.narrow.narrow_attempts.Given as goal

abbrev pub invariant-loop-files : goal.invariant-loop-files
invariant-loop-files l = record {
  after : narrow_all (meets l.demand l.known) l.known.claimed.listed (paths_of_task l.files-iterator) l.rows.items
      ≡ narrow_all (meets l.demand l.known) l.known.claimed.listed (paths_of_task l.attempts) l.fn.rows.items;
  least : least_from (meets l.demand l.known) l.known.claimed.listed (paths_of_task l.files-iterator) l.rows.items l.least
      ≡ least_from (meets l.demand l.known) l.known.claimed.listed (paths_of_task l.attempts) l.fn.rows.items l.fn.least;
  places : Fitting l.known.claimed.listed l.rows.items;
}
