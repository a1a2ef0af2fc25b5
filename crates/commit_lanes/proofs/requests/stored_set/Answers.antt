use Rattle.commit_lanes.proofs.ReadFiles.{get_asked}
use Rattle.job_model.specs.Jobs.{Job}
use Rattle.magic_paths.specs.Layout.{set_key}
use Rattle.s3_types.specs.declared.request.Request.TheVariants.{GetObject}
use Rattle.std.proofs.Common.{IfOk, subst, ◌≡◌}
use Rattle.commit_lanes.proofs.requests.stored_set.Goals as goal

pub returns : goal.returns
returns c =
    let P : Job → Type 0 = λ j. IfOk c.get_object.result (λ q. q ≡ GetObject j.dest.bucket (set_key j.dest.key j.job c.args.task)) in
    subst P c.plan.view_is (get_asked c.get_object.result c.bucket.result.now _ c.in_ok-key.key _ c.get_object.ensures c.bucket.ensures
    c.in_ok-key.ensures)
