use Rattle.twin_facts.proofs.ByEvents.{said, always}
use Rattle.twin_facts.proofs.moments.Goals as goal

pub returns : goal.returns
returns c = record {
  said = said;
  always = λ g h may k l opening is es x y run m few. always g h may k l opening is es x y run m few;
}
