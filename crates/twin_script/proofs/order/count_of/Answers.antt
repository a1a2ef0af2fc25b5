use Rattle.std.proofs.Common.{sym}
use Rattle.twin_script.proofs.Lines.{no_number}
use Rattle.twin_script.proofs.order.count_of.Goals as goal

pub returns-in-Err : goal.returns-in-Err
returns-in-Err c = sym (no_number 1 100000 c.args.digits.now c.in-Err.ensures.cases.0)
