use Rattle.std.proofs.Common.{Vec, Global, ℕ}
use Rattle.audit_claims.proofs.Dirs.{adds_next}
use Rattle.audit_claims.proofs.dir_set.DirSet.add_all.Goals as goal

pub loop-dir-preserved : goal.loop-dir-preserved
loop-dir-preserved c =
    adds_next (λ (d : Vec ℕ Global). d.items) c.args.self.now c.args.other.now c.loop-dir.self c.add.new.self c.loop-dir.dir-iterator
    c.next.new.self c.in-Some.dir.now c.as_slice.result.now c.loop-dir.invariant c.in-Some.ensures.steps c.as_slice.ensures.value
    c.in_ok-add.ensures.ok
