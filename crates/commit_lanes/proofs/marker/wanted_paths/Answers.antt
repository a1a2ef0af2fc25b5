use Rattle.commit_lanes.proofs.ReadFiles.{wanted_listed}
use Rattle.commit_lanes.specs.ReadSets.{HasAll}
use Rattle.job_model.specs.Jobs.{Job}
use Rattle.job_protocol.specs.AtWork.{read_script}
use Rattle.job_protocol.specs.JobCommits.{picks_of}
use Rattle.job_protocol.specs.Outputs.{wanted_paths}
use Rattle.std.proofs.Common.{IfOk, subst, ◌≡◌}
use Rattle.commit_lanes.proofs.marker.wanted_paths.Goals as goal

pub returns : goal.returns
returns c =
    let sets = c.args.sets.now in
    let P : Job → Type 0 = λ j. HasAll j sets c.args.places.now
    → IfOk c.listed.result (λ l. l ≡ wanted_paths (read_script j sets) (picks_of sets)) in
    subst P c.plan.view_is (λ all. wanted_listed c.listed.result _ sets c.args.places.now c.in_ok-paths.paths.keys c.listed.ensures
    c.in_ok-paths.ensures all) c.requires
