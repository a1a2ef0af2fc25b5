use Rattle.std.proofs.Common.{◌≡◌, ◌∙◌, ap, sym, refl, is_some, nat_eq, [], ◌∷◌, ◌++◌}
use Rattle.std.specs.Map.{lookup, set_value}
use Rattle.judging.specs.Listed.{Numbered}
use Rattle.audit_claims.specs.Claims.{Tags}
use Rattle.audit_claims.proofs.Entries.{on_ok, on_err}
use Rattle.audit_claims.proofs.Owned.{attempt_set, value_set, numbered_some}
use Rattle.audit_claims.proofs.claims.put_attempt.Goals as goal

pub add-requires : goal.add-requires
add-requires c = record {
  other =
      ap (λ (l : Numbered Tags). is_some (lookup (nat_eq c.args.attempt) l)) (numbered_some c.args.task c.args.tasks.now.entries
      c.args.tasks.now.entries c.in-Some.attempts.now refl c.in-Some.ensures.value)
      ∙ c.requires.other;
}

pub returns-in-Some-clause-ok : goal.returns-in-Some-clause-ok
returns-in-Some-clause-ok c =
    on_ok c.add.result (c.add.new.self ≡ c.in-Some.attempts.now ++ (c.args.attempt, []) ∷ []) _ c.add.ensures.ok (λ e.
    (c.get_mut.follows.holds c.add.new.self).0
    ∙ ap (set_value (nat_eq c.args.task) c.args.tasks.now.entries) e
    ∙ attempt_set c.args.task c.args.attempt c.args.tasks.now.entries c.in-Some.attempts.now (sym c.in-Some.ensures.value))

pub returns-in-Some-clause-err : goal.returns-in-Some-clause-err
returns-in-Some-clause-err c =
    on_err c.add.result (c.add.new.self ≡ c.in-Some.attempts.now) _ c.add.ensures.err (λ e.
    (c.get_mut.follows.holds c.add.new.self).0
    ∙ ap (set_value (nat_eq c.args.task) c.args.tasks.now.entries) e
    ∙ value_set c.args.task c.args.tasks.now.entries c.in-Some.attempts.now (sym c.in-Some.ensures.value))
