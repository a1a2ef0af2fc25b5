use Rattle.job_script.proofs.LossLines.{named_where_ok, named_where_taken}
use Rattle.job_script.proofs.loss.named.Goals as goal

pub returns-in-Ok : goal.returns-in-Ok
returns-in-Ok c = named_where_ok c.add.result c.in-Ok.field-0 c.args.line c.args.loss c.args.fates.now c.add.new.self c.in-Ok.is
    c.add.ensures.ok c.add.ensures.taken

pub returns-in-Err-Taken : goal.returns-in-Err-Taken
returns-in-Err-Taken c = named_where_taken c.add.result c.in-Err-Taken.field-0 c.in-Err-Taken.field-0-0 c.args.line c.args.loss
    c.args.fates.now c.in-Err-Taken.is c.in-Err-Taken.field-0-is c.add.ensures.taken
