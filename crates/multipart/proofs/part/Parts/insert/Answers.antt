use Rattle.multipart.proofs.Numbered.{numbered_insert}
use Rattle.multipart.proofs.Rows.{insert_is, put_made, put_sorted, set_is}
use Rattle.multipart.specs.inner.Numbers.{AreNumbered, IsPlace, is_number_at}
use Rattle.std.proofs.Common.{List, ap, set, subst, sym, ℕ, ◌∙◌}
use Rattle.std.specs.FinMap as fin
use Rattle.multipart.proofs.part.Parts.insert.Goals as goal

pub invariant_of-self : goal.invariant_of-self
invariant_of-self c =
    let is = set_is c.args.number c.args.part c.self.inside.held.items c.in-Ok.at
    (subst (λ (l : List (ℕ × List ℕ)). IsPlace c.args.number l c.in-Ok.at) c.as_slice.ensures.value c.in-Ok.ensures.found.0)
    (ap (λ (l : List (ℕ × List ℕ)). is_number_at l c.in-Ok.at c.args.number) (sym c.as_slice.ensures.value) ∙ c.in-Ok.ensures.found.1)
    in (
      put_sorted c.self.inside.held.items (set c.self.inside.held.items c.in-Ok.at (c.args.number, c.args.part)) c.args.number c.args.part
          c.self.invariant.0 is,
      subst AreNumbered (sym (put_made c.self.inside.held.items (set c.self.inside.held.items c.in-Ok.at (c.args.number, c.args.part))
          c.args.number c.args.part c.self.invariant.0 is)) (numbered_insert (fin.from_entries c.self.inside.held.items) c.args.number
          c.args.part c.self.invariant.1 c.requires),
    )

pub returns-in-Ok-clause-ok : goal.returns-in-Ok-clause-ok
returns-in-Ok-clause-ok c =
    let is = set_is c.args.number c.args.part c.self.inside.held.items c.in-Ok.at
    (subst (λ (l : List (ℕ × List ℕ)). IsPlace c.args.number l c.in-Ok.at) c.as_slice.ensures.value c.in-Ok.ensures.found.0)
    (ap (λ (l : List (ℕ × List ℕ)). is_number_at l c.in-Ok.at c.args.number) (sym c.as_slice.ensures.value) ∙ c.in-Ok.ensures.found.1)
    in
    put_made c.self.inside.held.items (set c.self.inside.held.items c.in-Ok.at (c.args.number, c.args.part)) c.args.number c.args.part
    c.self.invariant.0 is ∙ ap (λ m. fin.insert m c.args.number c.args.part) c.self.view_is

pub invariant_of-self-in-Err : goal.invariant_of-self-in-Err
invariant_of-self-in-Err c =
    let is = c.in_ok-insert-in-Err.ensures.items ∙ insert_is c.args.number c.args.part c.self.inside.held.items c.in-Err.at
    (subst (λ (l : List (ℕ × List ℕ)). IsPlace c.args.number l c.in-Err.at) c.as_slice.ensures.value c.in-Err.ensures.absent.0)
    (ap (λ (l : List (ℕ × List ℕ)). is_number_at l c.in-Err.at c.args.number) (sym c.as_slice.ensures.value) ∙
    c.in-Err.ensures.absent.1) in (
      put_sorted c.self.inside.held.items c.insert.new.self.items c.args.number c.args.part c.self.invariant.0 is,
      subst AreNumbered (sym (put_made c.self.inside.held.items c.insert.new.self.items c.args.number c.args.part c.self.invariant.0 is))
          (numbered_insert (fin.from_entries c.self.inside.held.items) c.args.number c.args.part c.self.invariant.1 c.requires),
    )

pub returns-in_ok-insert-in-Err-clause-ok : goal.returns-in_ok-insert-in-Err-clause-ok
returns-in_ok-insert-in-Err-clause-ok c =
    let is = c.in_ok-insert-in-Err.ensures.items ∙ insert_is c.args.number c.args.part c.self.inside.held.items c.in-Err.at
    (subst (λ (l : List (ℕ × List ℕ)). IsPlace c.args.number l c.in-Err.at) c.as_slice.ensures.value c.in-Err.ensures.absent.0)
    (ap (λ (l : List (ℕ × List ℕ)). is_number_at l c.in-Err.at c.args.number) (sym c.as_slice.ensures.value) ∙
    c.in-Err.ensures.absent.1) in
    put_made c.self.inside.held.items c.insert.new.self.items c.args.number c.args.part c.self.invariant.0 is ∙ ap
    (λ m. fin.insert m c.args.number c.args.part) c.self.view_is
