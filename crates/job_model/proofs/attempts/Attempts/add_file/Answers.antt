use Rattle.job_model.proofs.Entries.{added_known, added_ok, kept_err, kept_known, last_known}
use Rattle.job_model.specs.Files.{File, has_path}
use Rattle.std.proofs.Common.{List, ap, sym, [], ◌++◌, ◌∙◌, ◌∷◌, ◌≡◌}
use Rattle.job_model.proofs.attempts.Attempts.add_file.Goals as goal

pub add-requires : goal.add-requires
add-requires c =
    ap (λ (l : List File). has_path l c.args.path) (sym
    (last_known c.self.inside.declared.entries c.args.self.now c.in-Some.files.now c.self.view_is c.in-Some.ensures.value)) ∙ c.requires

pub returns-clause-ok : goal.returns-clause-ok
returns-clause-ok c =
    added_ok c.add.result _ _ (c.add.new.self ≡ c.in-Some.files.now ++ (c.args.path, c.args.bytes) ∷ []) c.add.ensures.ok
    (added_known c.self.inside.declared.entries c.args.self.now c.in-Some.files.now c.add.new.self c.args.path c.args.bytes c.self.view_is
    c.in-Some.ensures.value)

pub returns-clause-err : goal.returns-clause-err
returns-clause-err c =
    kept_err c.add.result _ _ (c.add.new.self ≡ c.in-Some.files.now) c.add.ensures.err
    (kept_known c.self.inside.declared.entries c.args.self.now c.in-Some.files.now c.add.new.self c.self.view_is c.in-Some.ensures.value)
