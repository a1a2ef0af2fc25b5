use Rattle.s3_service.proofs.Below.{below_insert, next_below}
use Rattle.s3_service.specs.Ids.{AreBelow}
use Rattle.s3_types.specs.Store.{Buckets}
use Rattle.std.proofs.Common.{arith, subst, sym, ◌≤◌}
use Rattle.s3_service.proofs.service.Service.add_bucket.Goals as goal

pub invariant_of-self-2 : goal.invariant_of-self-2
invariant_of-self-2 c =
    let n = c.self.inside.next in
    let le : n ≤ n = omega arith in
    record {
      below =
          subst (λ (m : Buckets). AreBelow m n) (sym c.in_ok-insert.ensures.ok)
          (below_insert c.self.inside.buckets n n c.args.name c.new.result c.self.invariant.below le
          (next_below c.new.result c.args.objects c.args.uploads n c.args.self.now.next c.new.ensures (λ i. (sym c.self.view_is i).next)
          c.requires.below));
      some = c.self.invariant.some;
      most = c.self.invariant.most;
    }
