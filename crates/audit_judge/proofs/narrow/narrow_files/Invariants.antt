use Rattle.std.proofs.Common.{◌≡◌}
use Rattle.audit_judge.specs.inner.Narrowed.{Fitting, keys_of, least_from, narrow_all}
use Rattle.audit_judge.specs.inner.Scene.{meets}
use Rattle.audit_judge.proofs.narrow.narrow_files.Given as goal

abbrev pub invariant-loop-path : goal.invariant-loop-path
invariant-loop-path l = record {
  after : narrow_all (meets l.demand l.known) l.known.claimed.listed (keys_of l.path-iterator) l.rows.items
      ≡ narrow_all (meets l.demand l.known) l.known.claimed.listed (keys_of l.files) l.fn.rows.items;
  least : least_from (meets l.demand l.known) l.known.claimed.listed (keys_of l.path-iterator) l.rows.items l.least
      ≡ least_from (meets l.demand l.known) l.known.claimed.listed (keys_of l.files) l.fn.rows.items l.fn.least;
  places : Fitting l.known.claimed.listed l.rows.items;
}
