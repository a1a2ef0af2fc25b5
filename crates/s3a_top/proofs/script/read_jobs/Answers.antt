use Rattle.std.proofs.Common.{inr}
use Rattle.s3a_top.proofs.Results.{jobs_read, stop_read, is_reader}
use Rattle.s3a_top.proofs.script.read_jobs.Goals as goal

pub returns-in-Ok-clause-jobs : goal.returns-in-Ok-clause-jobs
returns-in-Ok-clause-jobs g c =
    jobs_read c.args.both c.jobs_in.result (g.Q.Source.left c.args.input.now) (g.Q.Source.left c.read_input.new.input) c.in-Ok.bytes.items
    c.as_slice.result.now c.in-Ok.ensures.read c.as_slice.ensures.value c.jobs_in.ensures.jobs

pub returns-in-Ok-clause-stop : goal.returns-in-Ok-clause-stop
returns-in-Ok-clause-stop g c =
    stop_read c.args.both c.jobs_in.result (g.Q.Source.left c.args.input.now) (g.Q.Source.left c.read_input.new.input) c.in-Ok.bytes.items
    c.as_slice.result.now c.in-Ok.ensures.read c.as_slice.ensures.value c.jobs_in.ensures.stop

pub returns-in-Err-Failed-clause-stop : goal.returns-in-Err-Failed-clause-stop
returns-in-Err-Failed-clause-stop g c = (is_reader c.args.both, c.read_input.ensures.part)

pub returns-in-Err-NoMemory-clause-stop : goal.returns-in-Err-NoMemory-clause-stop
returns-in-Err-NoMemory-clause-stop g c = inr (is_reader c.args.both, c.read_input.ensures.part)
