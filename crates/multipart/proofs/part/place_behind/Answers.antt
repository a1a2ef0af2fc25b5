use Rattle.multipart.proofs.Rows.{behind_it, past}
use Rattle.multipart.proofs.part.place_behind.Goals as goal

pub returns-in-Ok : goal.returns-in-Ok
returns-in-Ok c = behind_it c.args.number c.args.held.now c.in-Ok.at c.requires c.in-Ok.ensures.found.0 c.in-Ok.ensures.found.1

pub returns-in-Err : goal.returns-in-Err
returns-in-Err c = past c.args.number c.args.held.now c.in-Err.at c.in-Err.ensures.absent.0 c.in-Err.ensures.absent.1
