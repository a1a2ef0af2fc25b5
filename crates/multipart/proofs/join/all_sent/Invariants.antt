use Rattle.s3_types.specs.Multipart.{is_part_number, is_sent}
use Rattle.std.proofs.Common.{drop, ◌≡◌}
use Rattle.std.specs.List.{list_all}
use Rattle.multipart.proofs.join.all_sent.Given as goal

abbrev pub invariant-loop-named : goal.invariant-loop-named
invariant-loop-named l = record {
  sent : list_all (is_sent l.held) (drop l.named-index l.parts) ≡ list_all (is_sent l.held) l.parts;
  numbers : list_all (λ n. is_part_number n.number) (drop l.named-index l.parts) ≡ list_all (λ n. is_part_number n.number) l.parts;
}
