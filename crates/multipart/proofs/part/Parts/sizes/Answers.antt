use Rattle.text_and_lists.proofs.Tree.{entries_made}
use Rattle.s3_types.specs.Multipart.{size_of}
use Rattle.std.proofs.Common.{ap, map, sym, ◌∙◌}
use Rattle.std.proofs.lemmas.List.{take_all}
use Rattle.std.specs.Cmp.{nat_cmp_total}
use Rattle.std.specs.FinMap as fin
use Rattle.multipart.proofs.part.Parts.sizes.Goals as goal

pub returns : goal.returns
returns c =
    c.from_vec.ensures ∙ c.loop-entry.invariant
    ∙ ap (map size_of) (take_all c.loop-entry.entry-index c.as_slice-held.result.now c.loop-entry-test.false ∙ c.as_slice-held.ensures.value
    ∙ sym (entries_made nat_cmp_total c.self.inside.held.items c.self.invariant.0) ∙ ap fin.entries c.self.view_is)
