use Rattle.std.proofs.Common.{sym, subst}
use Rattle.audit_claims.specs.inner.Directories.{AreDirectories}
use Rattle.audit_claims.proofs.Dirs.{none_next, none_there, some_there}
use Rattle.audit_claims.proofs.dir_set.DirSet.reaches.Goals as goal

pub returns-then-has_at : goal.returns-then-has_at
returns-then-has_at c = record {
  below = sym (some_there c.args.path.now c.args.self.now c.loop-n.n c.loop-n-test.true (sym c.if-has_at.ensures.has));
}

pub loop-n-preserved : goal.loop-n-preserved
loop-n-preserved c =
    none_next c.args.path.now c.args.self.now c.loop-n.n (subst AreDirectories c.self.view_is c.self.invariant) c.loop-n.invariant
    (sym c.if-has_at.ensures.has)

pub returns : goal.returns
returns c = record { below = sym (none_there c.args.path.now c.args.self.now c.loop-n.n c.loop-n.invariant c.loop-n-test.false) }
