use Rattle.s3a_shell.specs.Uploading.{bytes_in}
use Rattle.std.proofs.Common.{drop, ◌*◌, ◌+◌, ◌^◌, ◌≡◌, ◌≤◌}
use Rattle.s3a_shell.proofs.uploads.bytes_in.Given as goal

abbrev pub invariant-loop-part : goal.invariant-loop-part
invariant-loop-part l = record {
  few : l.bytes ≤ l.part-index * 2 ^ 64;
  sum : l.bytes + bytes_in (drop l.part-index l.parts) ≡ bytes_in l.parts;
}
