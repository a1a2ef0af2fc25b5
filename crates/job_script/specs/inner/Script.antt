-- Definitions beside those of `Script` that no public contract cites.
use Rattle.job_script.specs.Script.{all_inside, mode_in, unique_in}
use Rattle.job_script.specs.declared.draft.Draft.{Draft}
use Rattle.job_script.specs.declared.fault.ScriptFault.TheVariants.{MissingHead}
use Rattle.job_script.specs.declared.head.Chosen.{Chosen}
use Rattle.std.specs.Prelude.{IsSome, Ok, ◌≡◌}
use Rattle.text_and_lists.specs.Reading.{need}

-- Holds if these are the values that the head lines choose: no head line is missing, and no check finds a fault.
pub record IsChosen (d : Draft) (chosen : Chosen) : Type 0 where
  pub job : IsSome d.head.job
  pub dest : IsSome d.head.dest
  pub committer : need d.head.committer MissingHead ≡ Ok chosen.committer
  pub tasks : need d.head.tasks MissingHead ≡ Ok chosen.tasks
  pub mode : mode_in chosen.committer d.head.mode ≡ Ok chosen.mode
  pub unique : unique_in chosen.committer d.head.unique ≡ Ok chosen.unique
  pub inside : all_inside d.outside ≡ Ok tt
