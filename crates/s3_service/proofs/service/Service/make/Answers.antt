use Rattle.s3_service.proofs.Below.{below_insert, new_fresh}
use Rattle.s3_service.specs.Ids.{AreBelow, IsFresh}
use Rattle.s3_types.specs.Store.{BucketContent, Buckets}
use Rattle.std.proofs.Common.{arith, subst, sym, ◌≤◌}
use Rattle.s3_service.proofs.service.Service.make.Goals as goal

pub invariant_of-self-2 : goal.invariant_of-self-2
invariant_of-self-2 c =
    let n = c.self.inside.next in
    let le : n ≤ n = omega arith in
    record {
      below =
          subst (λ (m : Buckets). AreBelow m n) (sym c.in_ok-insert.ensures.ok)
          (below_insert c.self.inside.buckets n n c.in-Ok.name c.empty.result c.self.invariant.below le
          (subst (λ (b : BucketContent). IsFresh b.uploads n) (sym c.empty.ensures) (new_fresh n)));
      some = c.self.invariant.some;
      most = c.self.invariant.most;
    }
