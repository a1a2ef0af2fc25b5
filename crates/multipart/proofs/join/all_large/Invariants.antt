use Rattle.s3_types.specs.Multipart.{is_large}
use Rattle.std.proofs.Common.{drop, ◌≡◌}
use Rattle.std.specs.List.{list_all}
use Rattle.multipart.proofs.join.all_large.Given as goal

abbrev pub invariant-loop-named : goal.invariant-loop-named
invariant-loop-named l = list_all (is_large l.held l.minimum) (drop l.named-index l.parts) ≡ list_all (is_large l.held l.minimum) l.parts
