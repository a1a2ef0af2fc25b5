use Rattle.std.proofs.Common.{◌++◌, ◌≡◌, string_bytes}
use Rattle.std.specs.List.{flat_map}
use Rattle.job_model.specs.Placed.{placed}
use Rattle.trace_text.specs.Heads.{file_line}
use Rattle.trace_text.proofs.heads.write_files.Given as goal

abbrev pub invariant-loop-path : goal.invariant-loop-path
invariant-loop-path l =
    string_bytes l.text ++ flat_map (file_line l.script l.minimum) (placed l.script.unique l.script.job l.path-iterator)
    ≡ string_bytes l.fn.text ++ flat_map (file_line l.script l.minimum) (placed l.script.unique l.script.job l.files)
