use Rattle.durable_store.specs.Doing.{work_in}
use Rattle.s3_types.specs.Moment.{IsHonest}
use Rattle.s3_types.specs.Store.{Content}
use Rattle.s3a_top.proofs.Showing.{answer_shown, few_in, sends_honest}
use Rattle.s3a_top.specs.Traces.{shown_sends}
use Rattle.std.proofs.Common.{subst, sym, ◌^◌, ◌≤◌}
use Rattle.s3a_top.proofs.tracing.show_store.Goals as goal

pub shown_work-requires-clause-next : goal.shown_work-requires-clause-next
shown_work-requires-clause-next c =
    subst (λ (o : Content). o.next ≤ 2 ^ 62) (sym c.in-Ok.ensures) (few_in c.args.held c.requires.sound)

pub shown_work-requires-clause-honest : goal.shown_work-requires-clause-honest
shown_work-requires-clause-honest c =
    let work = work_in c.in-Ok-work_of.work in
    subst (λ (o : Content). IsHonest o (shown_sends work)) (sym c.in-Ok.ensures)
    (sends_honest c.args.command.now c.args.bytes c.args.held work c.in-Ok-work_of.ensures.work)

pub returns-in-Ok-work_of : goal.returns-in-Ok-work_of
returns-in-Ok-work_of c =
    answer_shown c.args.command.now c.args.bytes c.args.held (work_in c.in-Ok-work_of.work) c.shown_work.result
    c.in-Ok-work_of.ensures.work c.in-Ok-work_of.ensures.plain (c.shown_work.ensures c.args.held (sym c.in-Ok.ensures))
