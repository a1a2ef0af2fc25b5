use Rattle.devices.specs.Logged.{most_file}
use Rattle.std.proofs.Common.{vec_len, ◌≤◌}
use Rattle.folder_log.proofs.file_disk.read_whole.Given as goal

abbrev pub invariant-loop : goal.invariant-loop
invariant-loop g l = vec_len l.all ≤ most_file
