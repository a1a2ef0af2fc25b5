use Rattle.twin_facts.proofs.Joining.{joined, foreign_on, eyes_turn}
use Rattle.twin_facts.proofs.joined.Goals as goal

pub returns : goal.returns
returns c = record {
  join = joined;
  foreign = λ g h m k l opening is es part own first x y a b. foreign_on g h m k l opening is es part own
      first x y a b;
  turn = eyes_turn;
}
