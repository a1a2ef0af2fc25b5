use Rattle.std.proofs.Common.{arith}
use Rattle.task_requests.proofs.Cut.{start_fits, number_fits}
use Rattle.task_requests.proofs.requests.ask_part.Goals as goal

pub part-requires : goal.part-requires
part-requires c = start_fits c.args.plan.now c.args.bytes.now c.args.behind _ c.requires.task c.requires.short c.requires.within
    c.size_of-size.ensures

pub overflow_cast-behind : goal.overflow_cast-behind
overflow_cast-behind c = omega (arith, number_fits c.args.plan.now c.args.bytes.now c.args.behind c.requires.within)

pub overflow_add-behind : goal.overflow_add-behind
overflow_add-behind c = omega (arith, number_fits c.args.plan.now c.args.bytes.now c.args.behind c.requires.within)
