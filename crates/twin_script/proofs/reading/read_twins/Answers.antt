use Rattle.text_and_lists.proofs.Reading.{found, only}
use Rattle.twin_script.specs.Fault.{wanting}
use Rattle.twin_script.specs.Twins.{twins_of}
use Rattle.twin_script.proofs.reading.read_twins.Goals as goal

pub returns-clause-found : goal.returns-clause-found
returns-clause-found c = found wanting c.twins_in.result (twins_of c.args.bytes.now) c.twins_in.ensures.exact

pub returns-clause-only : goal.returns-clause-only
returns-clause-only c = λ t h. only wanting c.twins_in.result (twins_of c.args.bytes.now) t h c.twins_in.ensures.exact
