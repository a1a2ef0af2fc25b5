use Rattle.std.proofs.Common.{◌∙◌, sym, length}
use Rattle.object_store.proofs.Scan.{stem_none, stem_split, from}
use Rattle.object_store.proofs.page.stem_of.Goals as goal

pub returns-then-not-starts_with : goal.returns-then-not-starts_with
returns-then-not-starts_with c = sym (stem_none c.args.prefix.now c.args.text.now (sym c.starts_with.ensures ∙ c.if-not-starts_with.true))

pub loop-i-init : goal.loop-i-init
loop-i-init c =
    stem_split c.args.prefix.now c.args.text.now (sym c.starts_with.ensures ∙ c.if-not-starts_with.false)
    ∙ sym (λ i. from (c.as_str-whole.ensures i) (length (c.as_str-i.ensures i)))
