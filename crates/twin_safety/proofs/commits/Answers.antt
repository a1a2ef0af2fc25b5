use Rattle.twin_safety.proofs.Ending.{by_check, behind_check}
use Rattle.twin_safety.proofs.commits.Goals as goal

pub returns : goal.returns
returns c = record {
  end = record {
    checks = λ g j shared k opening is es x run t end d over. by_check g j shared k opening is es x run t end d over;
    commits = λ g j shared k opening is es x run end d. behind_check g j shared k opening is es x run end d;
  };
}
