use Rattle.std.proofs.Common.{refl}
use Rattle.task_magic.proofs.Whole.{open_asked, fits_asked}
use Rattle.task_magic.proofs.write.WritingTaskStateTheWrite.hear.Goals as goal

pub advance-requires-clause-within : goal.advance-requires-clause-within
advance-requires-clause-within c = let h = c.args.self.now in (open_asked c.args.plan.now h.place h.stage h.end _ refl
    c.requires.keeps.within c.requires.asked).1

pub advance-requires-clause-fits : goal.advance-requires-clause-fits
advance-requires-clause-fits c =
    let h = c.args.self.now in
    fits_asked c.args.plan.now h.place h.stage h.end _ c.args.reply.now c.args.repeated refl
    (open_asked c.args.plan.now h.place h.stage h.end _ refl c.requires.keeps.within c.requires.asked).0 c.requires.fits
