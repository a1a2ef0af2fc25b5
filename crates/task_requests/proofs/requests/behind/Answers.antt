use Rattle.std.proofs.Common.{arith}
use Rattle.task_requests.proofs.Cut.{start_fits, number_fits}
use Rattle.task_requests.proofs.Steps.{goes_on, goes_by}
use Rattle.task_requests.proofs.requests.behind.Goals as goal

pub part_length-part-requires : goal.part_length-part-requires
part_length-part-requires c = start_fits c.args.plan.now c.args.bytes.now c.args.sent _ c.requires.task c.requires.short c.requires.within
    c.size_of-size.ensures

pub overflow_add-sent : goal.overflow_add-sent
overflow_add-sent c = omega (arith, number_fits c.args.plan.now c.args.bytes.now c.args.sent c.requires.within)

pub returns-then-sent-count-clause-stage : goal.returns-then-sent-count-clause-stage
returns-then-sent-count-clause-stage c = goes_on c.args.sent c.count_of-count.result _ c.count_of-count.ensures c.if-sent-count.true

pub returns-else-sent-count-clause-stage : goal.returns-else-sent-count-clause-stage
returns-else-sent-count-clause-stage c = goes_by c.args.sent c.count_of-count.result _ c.count_of-count.ensures c.if-sent-count.false
