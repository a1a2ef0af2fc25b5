use Rattle.text_and_lists.specs.Numbers.{digits_from, is_digit}
use Rattle.std.proofs.Common.{drop, true, ◌<◌, ◌^◌, ◌≡◌}
use Rattle.std.specs.List.{list_all}
use Rattle.text_and_lists.proofs.numbers.value.Given as goal

abbrev pub invariant-loop-b : goal.invariant-loop-b
invariant-loop-b l = record {
  so_far : digits_from l.n (drop l.b-index l.text) ≡ digits_from 0 l.text;
  digits : list_all is_digit (drop l.b-index l.text) ≡ true;
  small : l.n < 10 ^ l.b-index;
}
