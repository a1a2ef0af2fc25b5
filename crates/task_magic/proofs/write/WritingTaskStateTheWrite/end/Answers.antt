use Rattle.std.proofs.Common.{refl, ◌∙◌}
use Rattle.task_magic.proofs.Whole.{end_is}
use Rattle.task_magic.proofs.write.WritingTaskStateTheWrite.end.Goals as goal

pub returns : goal.returns
returns c = let h = c.args.self.now in c.as_ref.ensures.value ∙ end_is c.args.plan.now h.place h.stage h.end _ refl c.requires.within
