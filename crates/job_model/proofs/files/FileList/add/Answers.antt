use Rattle.text_and_lists.specs.Order.{text_eq}
use Rattle.job_model.proofs.Entries.{insert_new}
use Rattle.std.proofs.Common.{◌∙◌}
use Rattle.job_model.proofs.files.FileList.add.Goals as goal

pub returns-in-Ok-clause-ok : goal.returns-in-Ok-clause-ok
returns-in-Ok-clause-ok c = c.in-Ok.ensures.entries ∙ insert_new text_eq c.self.inside.files c.args.path c.args.bytes c.args.self.now
    c.self.view_is c.requires
