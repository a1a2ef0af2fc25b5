use Rattle.std.proofs.Common.{◌≡◌, ◌∙◌, ap, sym, nat_eq}
use Rattle.std.specs.Map.{set_value}
use Rattle.judging.specs.Listed.{with_last}
use Rattle.audit_claims.proofs.Entries.{on_ok, on_err}
use Rattle.audit_claims.proofs.Owned.{file_set, value_set}
use Rattle.audit_claims.proofs.claims.put_last.Goals as goal

pub returns-clause-ok : goal.returns-clause-ok
returns-clause-ok c =
    on_ok c.add_file.result (c.add_file.new.self ≡ with_last c.args.path c.args.etags c.in-Some.attempts.now) _ c.add_file.ensures.ok (λ e.
    (c.get_mut.follows.holds c.add_file.new.self).0
    ∙ ap (set_value (nat_eq c.args.task) c.args.tasks.now.entries) e
    ∙ file_set c.args.task c.args.path c.args.etags c.args.tasks.now.entries c.in-Some.attempts.now (sym c.in-Some.ensures.value))

pub returns-clause-err : goal.returns-clause-err
returns-clause-err c =
    on_err c.add_file.result (c.add_file.new.self ≡ c.in-Some.attempts.now) _ c.add_file.ensures.err (λ e.
    (c.get_mut.follows.holds c.add_file.new.self).0
    ∙ ap (set_value (nat_eq c.args.task) c.args.tasks.now.entries) e
    ∙ value_set c.args.task c.args.tasks.now.entries c.in-Some.attempts.now (sym c.in-Some.ensures.value))
