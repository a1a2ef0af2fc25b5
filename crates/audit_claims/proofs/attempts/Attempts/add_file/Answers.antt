use Rattle.std.proofs.Common.{◌∙◌, ap, sym, ◌≡◌, ◌++◌, ◌∷◌, [], is_some}
use Rattle.soundness.specs.Claims.{Files, file_at}
use Rattle.audit_claims.specs.Claims.{Tags}
use Rattle.audit_claims.proofs.Entries.{last_known, added_known, kept_known, on_ok, on_err}
use Rattle.audit_claims.proofs.attempts.Attempts.add_file.Goals as goal

pub add-requires : goal.add-requires
add-requires c = record {
  other =
      ap (λ (l : Files Tags). is_some (file_at l c.args.path)) (sym (last_known c.self.inside.attempts.entries c.args.self.now
      c.in-Some.files.now c.self.view_is c.in-Some.ensures.value))
      ∙ c.requires.other;
}

pub returns-clause-ok : goal.returns-clause-ok
returns-clause-ok c =
    on_ok c.add.result (c.add.new.self ≡ c.in-Some.files.now ++ (c.args.path, c.args.etags) ∷ []) _ c.add.ensures.ok
    (added_known c.self.inside.attempts.entries c.args.self.now c.in-Some.files.now c.add.new.self c.args.path c.args.etags c.self.view_is
    c.in-Some.ensures.value)

pub returns-clause-err : goal.returns-clause-err
returns-clause-err c =
    on_err c.add.result (c.add.new.self ≡ c.in-Some.files.now) _ c.add.ensures.err
    (kept_known c.self.inside.attempts.entries c.args.self.now c.in-Some.files.now c.add.new.self c.self.view_is c.in-Some.ensures.value)
