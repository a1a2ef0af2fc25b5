use Rattle.std.proofs.Common.{◌++◌, ◌≡◌, string_bytes}
use Rattle.std.specs.FinMap as fin
use Rattle.std.specs.List.{filter, flat_map}
use Rattle.s3_types.specs.Pages.{begins}
use Rattle.trace_text.specs.Heads.{object_line}
use Rattle.trace_text.proofs.objects.write_below.Given as goal

abbrev pub invariant-loop-key : goal.invariant-loop-key
invariant-loop-key l =
    string_bytes l.text ++ flat_map (object_line l.bucket) (filter (λ o. begins l.prefix o.0) l.key-iterator)
    ≡ string_bytes l.fn.text ++ flat_map (object_line l.bucket) (filter (λ o. begins l.prefix o.0) (fin.entries l.objects))
