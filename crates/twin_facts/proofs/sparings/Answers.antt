use Rattle.twin_facts.proofs.Spared.{sparing_leaves}
use Rattle.twin_facts.proofs.sparings.Goals as goal

pub returns : goal.returns
returns c = record {
  leave = λ g j shared k opening is es x run set u on t d over. sparing_leaves g j shared k opening is es x run set u on
      t d over;
}
