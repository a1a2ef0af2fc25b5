use Rattle.std.proofs.Common.{ap, length, List, ℕ}
use Rattle.task_requests.proofs.Cut.{count_made, count_fits}
use Rattle.task_requests.proofs.requests.count_of.Goals as goal

pub returns : goal.returns
returns c = count_made c.args.plan.now c.args.bytes.now _ _ _ c.part_count.ensures (ap (λ (l : List ℕ). length l) c.as_slice.ensures)
    c.size_of-size.ensures

pub part_count-requires-clause-some : goal.part_count-requires-clause-some
part_count-requires-clause-some c = (count_fits c.args.plan.now c.args.bytes.now _ _ c.requires.task c.requires.short
    (ap (λ (l : List ℕ). length l) c.as_slice.ensures) c.size_of-size.ensures).0

pub part_count-requires-clause-fits : goal.part_count-requires-clause-fits
part_count-requires-clause-fits c = (count_fits c.args.plan.now c.args.bytes.now _ _ c.requires.task c.requires.short
    (ap (λ (l : List ℕ). length l) c.as_slice.ensures) c.size_of-size.ensures).1
