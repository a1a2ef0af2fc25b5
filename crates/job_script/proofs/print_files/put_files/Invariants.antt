use Rattle.text_and_lists.specs.Words.{text_of}
use Rattle.job_script.specs.Print.{file_line}
use Rattle.std.proofs.Common.{map, string_bytes, ◌++◌, ◌≡◌}
use Rattle.job_script.proofs.print_files.put_files.Given as goal

abbrev pub invariant-loop-path : goal.invariant-loop-path
invariant-loop-path l = string_bytes l.out ++ text_of (map file_line l.path-iterator) ≡ string_bytes l.fn.out ++ text_of
    (map file_line l.files)
