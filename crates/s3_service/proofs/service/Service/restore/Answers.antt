use Rattle.s3_service.proofs.Below.{none_below}
use Rattle.s3_service.specs.Ids.{AreBelow}
use Rattle.s3_types.specs.Store.{Buckets}
use Rattle.std.proofs.Common.{subst, sym}
use Rattle.s3_service.proofs.service.Service.restore.Goals as goal

pub invariant_of-result : goal.invariant_of-result
invariant_of-result c = record {
  below = subst (λ (m : Buckets). AreBelow m c.args.counter) (sym c.new.ensures) (none_below c.args.counter);
  some = c.requires.some;
  most = c.requires.most;
}
