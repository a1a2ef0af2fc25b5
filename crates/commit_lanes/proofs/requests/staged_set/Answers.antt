use Rattle.commit_lanes.proofs.ReadFiles.{cluster_asked}
use Rattle.job_model.specs.Jobs.{Job}
use Rattle.magic_paths.specs.Layout.{staged_set_path}
use Rattle.s3_types.specs.declared.request.Request.TheVariants.{ClusterGet}
use Rattle.std.proofs.Common.{IfOk, subst, ◌≡◌}
use Rattle.commit_lanes.proofs.requests.staged_set.Goals as goal

pub returns : goal.returns
returns c =
    let P : Job → Type 0 = λ j. IfOk c.cluster_get.result (λ q. q ≡ ClusterGet (staged_set_path j.job c.args.task)) in
    subst P c.plan.view_is (cluster_asked c.cluster_get.result c.in_ok-path.path _ c.cluster_get.ensures c.in_ok-path.ensures)
