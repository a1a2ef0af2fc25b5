use Rattle.job_run.proofs.Firsts.{is_begun}
use Rattle.s3_service.specs.Ids.{AreBelow}
use Rattle.s3_types.specs.Store.{Content}
use Rattle.std.proofs.Common.{subst, ◌∙◌}
use Rattle.job_run.proofs.body.Body.new.Goals as goal

pub returns : goal.returns
returns g c =
    let below = subst (λ (s : Content). AreBelow s.buckets s.next) c.service.view_is c.service.invariant.below in
    is_begun g.W.Acts.wants g.W.Works.is_of g.W.Works.running g.W.Works.picks_of _ _
    (record { side = c.in_ok-side.side; shared = c.in-Ok.shared }) c.requires.few below
    c.in_ok-side.ensures.script c.in-Ok.ensures.opening (c.in_ok-side.ensures.others ∙ c.new.ensures.items) c.in_ok-side.ensures.shares
    (rw c.minimum.ensures.minimum at c.in_ok-side.ensures.first) c.in-Ok.ensures.first
