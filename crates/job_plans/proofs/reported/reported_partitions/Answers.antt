use Rattle.conflict.proofs.SamePartitions.{partitions_of_ordered}
use Rattle.job_model.specs.Files.{File}
use Rattle.job_plans.specs.Reported.{those}
use Rattle.job_protocol.specs.Conflicts.{partitions}
use Rattle.job_protocol.specs.Rechecks.{files_of_all}
use Rattle.std.proofs.Common.{ap, map, sym, ◌∙◌}
use Rattle.std.proofs.lemmas.Result.{IfOk-weaker}
use Rattle.job_plans.proofs.reported.reported_partitions.Goals as goal

pub returns : goal.returns
returns c =
    let w = c.args.script.now in
    let paths = map (λ (f : File). f.0) (files_of_all w (those w.attempts c.args.reported.now)) in
    IfOk-weaker c.partitions-dirs.result _ _ (λ dirs is. is ∙ ap partitions (c.as_slice.ensures ∙ c.in_ok-paths.ensures) ∙ sym
    (partitions_of_ordered paths)) c.partitions-dirs.ensures
