use Rattle.job_protocol.specs.AtWork.{with_known}
use Rattle.std.proofs.Common.{ap, ◌∙◌}
use Rattle.task_staging.proofs.Staged.{holds_open, is_sent, worn_over, worn_part, worn_rename}
use Rattle.task_staging.proofs.staging.Staging.tell_sent.Goals as goal

pub returns-in_default : goal.returns-in_default
returns-in_default c =
    let t = c.args.plan.now in
    let h = c.args.self.now in
    ap (with_known t) (worn_over t h.stage h.checks h.place h.end _ c.in_default.is)

pub returns-in-Sending : goal.returns-in-Sending
returns-in-Sending c =
    let t = c.args.plan.now in
    let h = c.args.self.now in
    ap (with_known t) (worn_part t h.stage h.checks h.place h.end c.in-None.is _ c.in-Sending.is
    (is_sent t h.stage h.checks h.place _ (holds_open t h c.in-None.is c.requires).at c.in-Sending.is))

pub returns-in-Renaming : goal.returns-in-Renaming
returns-in-Renaming c =
    let t = c.args.plan.now in
    let h = c.args.self.now in
    c.tell_rename.ensures ∙ ap (with_known t) (worn_rename t h.stage h.checks h.place h.end c.in-None.is c.in-Renaming.is)
