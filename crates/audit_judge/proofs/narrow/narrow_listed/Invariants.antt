use Rattle.std.proofs.Common.{◌≡◌, None}
use Rattle.audit_judge.specs.inner.Narrowed.{Fitting, least_from, narrow_all, paths_of_all}
use Rattle.audit_judge.specs.inner.Scene.{meets}
use Rattle.audit_judge.proofs.narrow.narrow_listed.Given as goal

abbrev pub invariant-loop-attempts : goal.invariant-loop-attempts
invariant-loop-attempts l = record {
  after : narrow_all (meets l.demand l.known) l.known.claimed.listed (paths_of_all l.attempts-iterator) l.rows.items
      ≡ narrow_all (meets l.demand l.known) l.known.claimed.listed (paths_of_all l.known.claimed.listed) l.fn.rows.items;
  least : least_from (meets l.demand l.known) l.known.claimed.listed (paths_of_all l.attempts-iterator) l.rows.items l.least
      ≡ least_from (meets l.demand l.known) l.known.claimed.listed (paths_of_all l.known.claimed.listed) l.fn.rows.items None;
  places : Fitting l.known.claimed.listed l.rows.items;
}
