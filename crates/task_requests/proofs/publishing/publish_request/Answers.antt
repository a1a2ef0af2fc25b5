use Rattle.job_model.specs.Jobs.{Job, Task}
use Rattle.job_protocol.specs.AtWork.{task_script, who_of}
use Rattle.job_protocol.specs.Records.{set_text}
use Rattle.std.proofs.Common.{IfOk, ap, subst, ◌∙◌, ◌≡◌}
use Rattle.task_requests.proofs.LastDrawn.{put_is}
use Rattle.task_requests.specs.Publishing.{picked}
use Rattle.magic_paths.specs.Layout as layout
use Rattle.task_requests.proofs.publishing.publish_request.Goals as goal

pub returns-in-Ok : goal.returns-in-Ok
returns-in-Ok c =
    let t = c.args.plan.now in
    let files = picked t.files c.args.places.now in
    let bytes = subst (λ r. IfOk r (λ bytes. bytes ≡ set_text (task_script t) (who_of t) files t.known)) c.in_ok-key.ensures.other
    c.set_bytes.ensures in
    let key = subst (λ r. IfOk r (λ key. key ≡ layout.set_key c.job.inside.dest.key c.job.inside.job c.plan.inside.task))
    c.in_ok-key.ensures.one c.set_key-key.ensures in
    put_is t files c.in-Ok.request c.bucket_of.result.now c.in_ok-key.key c.in_ok-key.bytes c.in-Ok.ensures c.bucket_of.ensures
    (key
    ∙ (ap (λ (j : Job). layout.set_key j.dest.key j.job c.plan.inside.task) (c.job.view_is ∙ c.job_of-job.ensures.value)
    ∙ ap (λ (t : Task). layout.set_key c.args.plan.now.job.dest.key c.args.plan.now.job.job t.task) c.plan.view_is)) bytes
