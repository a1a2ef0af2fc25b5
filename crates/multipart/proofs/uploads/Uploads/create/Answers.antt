use Rattle.text_and_lists.proofs.Tree.{insert_remove}
use Rattle.multipart.proofs.Keyed.{keyed_insert}
use Rattle.multipart.specs.inner.Index.{keyed}
use Rattle.std.proofs.Common.{None, ap, arith, sym, ◌∙◌, ◌≡◌, ◌≤◌}
use Rattle.std.proofs.lemmas.Map.Lookups.{exact_unsigned}
use Rattle.std.specs.Cmp.{nat_cmp_total}
use Rattle.std.specs.FinMap as fin
use Rattle.multipart.proofs.uploads.Uploads.create.Goals as goal

pub invariant_of-self-in_default-insert : goal.invariant_of-self-in_default-insert
invariant_of-self-in_default-insert c =
    let le : c.args.upload ≤ c.args.upload = omega arith in
    let none : fin.get c.self.inside.lives c.args.upload ≡ None = ap (λ m. fin.get m c.args.upload) c.self.view_is ∙ c.requires
    c.args.upload le in
    let e = keyed_insert c.self.inside.lives c.args.upload (record { key = c.args.key; parts = fin.empty }) none in
    c.in_default-insert.ensures.ok
    ∙ (λ i. fin.insert (c.self.invariant i) (c.in-Ok.ensures.place i) (c.in-Ok.ensures.key i))
    ∙ sym e ∙ ap keyed (sym c.in-Ok-begin.ensures.ok)

pub invariant_of-self-2 : goal.invariant_of-self-2
invariant_of-self-2 c =
    let le : c.args.upload ≤ c.args.upload = omega arith in
    let none : fin.get c.self.inside.lives c.args.upload ≡ None = ap (λ m. fin.get m c.args.upload) c.self.view_is ∙ c.requires
    c.args.upload le in
    c.in-Err.ensures.err ∙ c.self.invariant
    ∙ ap keyed (sym (c.remove.ensures.removed ∙ ap (λ m. fin.remove m c.args.upload) c.in-Ok-begin.ensures.ok ∙ insert_remove nat_cmp_total
    exact_unsigned c.self.inside.lives c.args.upload _ none))

pub returns-clause-err : goal.returns-clause-err
returns-clause-err c =
    let le : c.args.upload ≤ c.args.upload = omega arith in
    let none : fin.get c.self.inside.lives c.args.upload ≡ None = ap (λ m. fin.get m c.args.upload) c.self.view_is ∙ c.requires
    c.args.upload le in
    c.remove.ensures.removed ∙ ap (λ m. fin.remove m c.args.upload) c.in-Ok-begin.ensures.ok ∙ insert_remove nat_cmp_total exact_unsigned
    c.self.inside.lives c.args.upload _ none ∙ c.self.view_is
