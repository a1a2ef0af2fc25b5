use Rattle.text_and_lists.proofs.Tree.{filter_all}
use Rattle.object_store.proofs.Next.{is_next}
use Rattle.object_store.specs.Objects.{IsNext, next_of}
use Rattle.s3_types.specs.declared.object.Object.{Object}
use Rattle.std.proofs.Common.{List, ap, rules, subst, sym, ℕ, ◌∙◌, ◌≡◌}
use Rattle.std.specs.List.{slice_get}
use Rattle.std.specs.Option.{option_copied, option_map}
use Rattle.std.specs.FinMap as map
use Rattle.object_store.proofs.objects.Objects.next.Goals as goal

pub returns-in-Some-clause-rest : goal.returns-in-Some-clause-rest
returns-in-Some-clause-rest c =
    let next : option_map (λ p. (p.0.now, p.1.now)) c.first_from.result ≡ next_of (option_copied c.args.after) c.args.self.now = search
    rules in
    subst (IsNext (option_copied c.args.after) c.args.self.now) (sym next) (is_next (option_copied c.args.after) c.args.self.now)

pub returns-in-None-clause-next : goal.returns-in-None-clause-next
returns-in-None-clause-next c =
    c.first_from-in-None.ensures
    ∙ ap (λ (l : List (List ℕ × Object)). slice_get l 0) (filter_all (map.entries c.args.self.now))
    ∙ ap (λ o. next_of (option_copied o) c.args.self.now) (sym c.in-None.is)

pub returns-in-None-clause-rest : goal.returns-in-None-clause-rest
returns-in-None-clause-rest c =
    subst (IsNext (option_copied c.args.after) c.args.self.now) (sym (returns-in-None-clause-next c))
    (is_next (option_copied c.args.after) c.args.self.now)
