use Rattle.audit_claims.proofs.Dirs.{dir_found, dir_left}
use Rattle.audit_claims.proofs.dir_set.directory.Goals as goal

pub returns-then-last-eq47 : goal.returns-then-last-eq47
returns-then-last-eq47 c = record {
  directory =
      dir_found c.args.path.now c.loop-last.dir.now c.in-Some.front.now c.in-Some.last.now c.in-Some.ensures.cases.0 c.if-last-eq47.true
      c.loop-last.invariant;
}

pub loop-last-preserved : goal.loop-last-preserved
loop-last-preserved c =
    dir_left c.args.path.now c.loop-last.dir.now c.in-Some.front.now c.in-Some.last.now c.in-Some.ensures.cases.0 c.if-last-eq47.false
    c.loop-last.invariant
