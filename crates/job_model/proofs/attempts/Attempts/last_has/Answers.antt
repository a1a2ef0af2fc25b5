use Rattle.job_model.proofs.Entries.{last_entry}
use Rattle.job_model.specs.Files.{File, has_path}
use Rattle.std.proofs.Common.{List, ap, sym, ◌∙◌}
use Rattle.job_model.proofs.attempts.Attempts.last_has.Goals as goal

pub returns-in-Some : goal.returns-in-Some
returns-in-Some c =
    c.has.ensures ∙ ap (λ (l : List File). has_path l c.args.path.now) (sym
    (last_entry c.self.inside.declared.entries c.args.self.now c.in-Some.field-0-0.now c.in-Some.files.now c.self.view_is
    c.in-Some.ensures.entry))
