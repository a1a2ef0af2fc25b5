use Rattle.job_model.specs.Jobs.{Task}
use Rattle.job_protocol.specs.Knowledge.{as_made}
use Rattle.std.proofs.Common.{ap, length, ◌∙◌}
use Rattle.task_staging.proofs.Undone.{goes_drawn}
use Rattle.task_staging.proofs.undoing.Undoing.go_on.Goals as goal

pub returns-then-self-made : goal.returns-then-self-made
returns-then-self-made c =
    let h = c.args.self.now in
    let count = ap length (c.made.ensures ∙ ap (λ (t : Task). as_made t.known.drawn) c.plan.view_is) in
    goes_drawn c.args.plan.now h.at (length c.made.result.now) h.end c.put.new.place c.args.reply.now c.requires c.in-None.is count
    c.if-self-made.true (c.put.ensures ∙ c.done_at.ensures)
