use Rattle.std.proofs.Common.{Some, None}
use Rattle.twin_script.proofs.Pair.{fate_named}
use Rattle.twin_script.proofs.reading.names_fate.Goals as goal

pub returns-in-Some : goal.returns-in-Some
returns-in-Some c = fate_named c.args.fates.now (Some c.in-Some.field-0) c.in-Some.ensures.first

pub returns-in-None : goal.returns-in-None
returns-in-None c = fate_named c.args.fates.now None c.in-None.ensures.first
