use Rattle.multipart.proofs.Keyed.{keyed_remove}
use Rattle.multipart.specs.inner.Index.{keyed}
use Rattle.std.proofs.Common.{ap, sym, ◌∙◌}
use Rattle.std.specs.FinMap as fin
use Rattle.multipart.proofs.uploads.Uploads.remove.Goals as goal

pub invariant_of-self : goal.invariant_of-self
invariant_of-self c =
    c.remove-in-Some.ensures
    ∙ (λ i. fin.remove (c.self.invariant i) (record { key = c.into_text-text.ensures i; upload = c.args.upload }))
    ∙ sym (keyed_remove c.self.inside.lives c.args.upload c.in-Some.found (sym c.in-Some.ensures.value))
    ∙ ap keyed (sym c.remove.ensures.removed)
