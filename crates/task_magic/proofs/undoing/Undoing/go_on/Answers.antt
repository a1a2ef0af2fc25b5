use Rattle.job_model.specs.Jobs.{Task}
use Rattle.job_protocol.specs.AtWork.{task_script}
use Rattle.job_protocol.specs.Knowledge.{as_made}
use Rattle.std.proofs.Common.{ap, arith, length, ◌∙◌}
use Rattle.task_magic.proofs.Undone.{goes_drawn}
use Rattle.task_magic.proofs.undoing.Undoing.go_on.Goals as goal

pub returns-then-self-made : goal.returns-then-self-made
returns-then-self-made c =
    let h = c.args.self.now in
    let count = ap length (c.made.ensures ∙ ap (λ (t : Task). as_made t.known.drawn) c.plan.view_is) in
    goes_drawn (task_script c.args.plan.now) c.args.plan.now.known h.at h.sweep c.put.new.place h.end c.args.reply.now c.in-None.is
    c.requires.magic (c.put.ensures ∙ c.new.ensures) (omega (arith, count, c.if-self-made.true))
