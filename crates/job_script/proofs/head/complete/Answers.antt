use Rattle.text_and_lists.specs.Reading.{need}
use Rattle.job_script.proofs.Whole.{completed}
use Rattle.job_script.specs.declared.fault.ScriptFault.TheVariants.{MissingHead}
use Rattle.std.proofs.Common.{ap}
use Rattle.job_script.proofs.head.complete.Goals as goal

pub invariant_of-result : goal.invariant_of-result
invariant_of-result c =
    let chosen = c.in-Ok.ensures.chosen in
    c.requires.legal _
    (completed c.args.draft c.unwrap.result c.unwrap-2.result c.in-Ok.chosen.committer c.in-Ok.chosen.tasks c.in-Ok.chosen.mode
    c.in-Ok.chosen.unique c.unwrap_or.result c.unwrap_or-2.result c.unwrap_or-3.result tt
    (ap (λ value. need value MissingHead) c.unwrap.ensures) (ap (λ value. need value MissingHead) c.unwrap-2.ensures) chosen.committer
    chosen.tasks chosen.mode chosen.unique c.unwrap_or.ensures c.unwrap_or-2.ensures c.unwrap_or-3.ensures chosen.inside)
