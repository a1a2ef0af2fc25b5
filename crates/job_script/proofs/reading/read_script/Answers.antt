use Rattle.text_and_lists.proofs.Reading.{found, only}
use Rattle.job_script.specs.Fault.{wanting}
use Rattle.job_script.specs.Script.{script_of}
use Rattle.job_script.proofs.reading.read_script.Goals as goal

pub returns-clause-found : goal.returns-clause-found
returns-clause-found c = found wanting c.script_in.result (script_of c.args.bytes.now) c.script_in.ensures

pub returns-clause-only : goal.returns-clause-only
returns-clause-only c = λ s h. only wanting c.script_in.result (script_of c.args.bytes.now) s h c.script_in.ensures
