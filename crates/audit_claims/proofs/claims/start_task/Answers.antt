use Rattle.std.proofs.Common.{◌∙◌, ap, refl, nat_eq, [], ◌∷◌, ◌++◌}
use Rattle.text_and_lists.proofs.Options.{none_is}
use Rattle.indexmap.specs.IndexMap.{insert_entry}
use Rattle.judging.specs.Listed.{Numbered}
use Rattle.audit_claims.specs.Claims.{Tags}
use Rattle.audit_claims.proofs.Entries.{insert_new}
use Rattle.audit_claims.proofs.Owned.{attempt_new}
use Rattle.audit_claims.proofs.claims.start_task.Goals as goal

pub returns-in-Ok-clause-ok : goal.returns-in-Ok-clause-ok
returns-in-Ok-clause-ok c =
    c.in-Ok.ensures.entries
    ∙ ap (insert_entry nat_eq c.args.tasks.now.entries c.args.task) (c.in_ok-add.ensures.ok
    ∙ ap (λ (l : Numbered Tags). l ++ (c.args.attempt, []) ∷ []) c.new-attempts.ensures.empty)
    ∙ insert_new nat_eq c.args.tasks.now c.args.task ((c.args.attempt, []) ∷ []) c.args.tasks.now.entries refl c.requires.other
    ∙ attempt_new c.args.task c.args.attempt c.args.tasks.now.entries (none_is _ c.requires.other)
