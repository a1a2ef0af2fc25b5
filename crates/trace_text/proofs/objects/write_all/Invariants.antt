use Rattle.std.proofs.Common.{◌++◌, ◌≡◌, string_bytes}
use Rattle.std.specs.List.{flat_map}
use Rattle.trace_text.specs.Heads.{bucket_lines, object_lines}
use Rattle.trace_text.proofs.objects.write_all.Given as goal

abbrev pub invariant-loop-bucket : goal.invariant-loop-bucket
invariant-loop-bucket l =
    string_bytes l.text ++ flat_map (bucket_lines l.dest) l.bucket-iterator ≡ string_bytes l.fn.text ++ object_lines l.dest l.service
