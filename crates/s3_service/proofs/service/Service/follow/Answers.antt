use Rattle.s3_service.proofs.Below.{put_below}
use Rattle.s3_types.specs.declared.request.Request.TheVariants.{PutObject}
use Rattle.std.proofs.Common.{refl}
use Rattle.s3_service.proofs.service.Service.follow.Goals as goal

pub invariant_of-self : goal.invariant_of-self
invariant_of-self c = record {
  below =
      put_below c.put.result c.self.inside.buckets c.put.new.self c.self.inside.next c.self.inside.minimum c.in-PutObject.bucket
      (PutObject c.in-PutObject.bucket c.in-PutObject.key c.in-PutObject.bytes c.in-PutObject.header)
      refl c.self.invariant.below c.put.ensures.ok c.put.ensures.err;
  some = c.self.invariant.some;
  most = c.self.invariant.most;
}
