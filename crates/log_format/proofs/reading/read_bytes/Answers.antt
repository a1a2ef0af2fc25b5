use Rattle.text_and_lists.proofs.Reading.{found_so, only}
use Rattle.log_format.proofs.Files.{file_again, file_takes}
use Rattle.log_format.specs.Fault.{wanting}
use Rattle.log_format.specs.File.{StandsFor}
use Rattle.std.proofs.Common.{arith}
use Rattle.log_format.proofs.reading.read_bytes.Goals as goal

pub returns-clause-found : goal.returns-clause-found
returns-clause-found c = found_so wanting (StandsFor c.args.bytes.now) c.held_of.result _
    (λ h e. file_takes c.args.bytes.now h (λ i. omega (arith, c.type_inv.bytes i)) e) c.held_of.ensures

pub returns-clause-only : goal.returns-clause-only
returns-clause-only c h is = only wanting c.held_of.result _ h (file_again c.args.bytes.now h (omega arith) is) c.held_of.ensures
