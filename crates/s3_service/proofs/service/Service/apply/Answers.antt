use Rattle.s3_service.proofs.Below.{kept_below}
use Rattle.s3_service.specs.Ids.{AreBelow}
use Rattle.std.proofs.Common.{subst, sym, ℕ}
use Rattle.s3_service.proofs.service.Service.apply.Goals as goal

pub invariant_of-self : goal.invariant_of-self
invariant_of-self c =
    let s = c.self.inside in
    record {
      below =
          subst (λ (n : ℕ). AreBelow c.apply.new.self n) (sym c.next_after-self-inside.ensures)
          (kept_below s.buckets c.apply.new.self s.next s.minimum c.in-Some.name.now c.args.request.now c.self.invariant.below
          c.in-Ok-Some.ensures.ok);
      some = c.self.invariant.some;
      most = c.self.invariant.most;
    }
