use Rattle.commit_lanes.proofs.ReadFiles.{mark_put}
use Rattle.job_model.specs.Jobs.{Job}
use Rattle.job_protocol.specs.AtWork.{read_script}
use Rattle.job_protocol.specs.JobCommits.{Marking, commit_asks, picks_of}
use Rattle.job_protocol.specs.Outputs.{wanted_paths}
use Rattle.std.proofs.Common.{IfOk, Some, subst, ◌≡◌}
use Rattle.commit_lanes.proofs.marker.mark_request.Goals as goal

pub returns : goal.returns
returns c =
    let sets = c.args.sets.now in
    let x = c.plan.inside in
    let own : Job = record {
      job = x.job;
      dest = x.dest;
      committer = x.committer;
      mode = x.mode;
      tasks = x.tasks;
      retries = x.retries;
      lanes = x.lanes;
      stamp = x.stamp;
    } in
    let P : Job → Type 0 = λ j. c.in_ok-files.files ≡ wanted_paths (read_script j sets) (picks_of sets)
    → IfOk c.put_object.result (λ q. Some q ≡ commit_asks (read_script j sets) (Marking sets 0)) in
    subst P c.plan.view_is (λ f. mark_put c.put_object.result own sets c.bucket.result.now c.in_ok-key.key c.in_ok-bytes.bytes
    c.in_ok-clone.field-0 c.in_ok-files.files c.put_object.ensures c.bucket.ensures c.in_ok-key.ensures c.in_ok-bytes.ensures
    c.in_ok-clone.ensures.cases f) c.in_ok-files.ensures
