use Rattle.path_keys.specs.Paths.{Path, below}
use Rattle.std.proofs.Common.{ap, codes, ◌++◌, ◌∙◌}
use Rattle.task_magic.specs.Committing.{record_of}
use Rattle.task_requests.proofs.Steps.{file_is, ok_as}
use Rattle.task_magic.proofs.listing.record_at.Goals as goal

pub returns : goal.returns
returns c = ok_as c.record.result _ _ c.record.ensures (ap (λ (d : Path). below d.key (c.in-Some.path.now ++ codes ".pending"))
    c.in_ok-dir.ensures ∙ ap (record_of c.args.plan.now) (file_is c.args.plan.now c.args.place (c.in-Some.path.now, _)
    c.in-Some.ensures.file))
