-- The specification's view of the code's `Work`.
use Rattle.durable_store.specs.declared.work.Work.TheVariants as doing
use Rattle.durable_store.specs.Works.{Work, Says, Saves}
use Rattle.durable_store.specs.declared.work.Work.{Work as Doing}

-- The work that the code's value stands for.
abbrev pub work_in : Doing → Work
work_in (doing.Says answer) = Says answer.due answer.text answer.sent.entries
work_in (doing.Saves opening text sent) = Saves opening text sent.entries
