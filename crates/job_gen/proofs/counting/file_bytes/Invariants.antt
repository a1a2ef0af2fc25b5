use Rattle.job_model.specs.Legal.{bytes_of}
use Rattle.std.proofs.Common.{◌+◌, ◌≡◌}
use Rattle.job_gen.proofs.counting.file_bytes.Given as goal

abbrev pub invariant-loop-bytes : goal.invariant-loop-bytes
invariant-loop-bytes l = l.sum + bytes_of l.bytes-iterator ≡ bytes_of l.files
