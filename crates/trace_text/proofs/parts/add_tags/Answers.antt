use Rattle.std.proofs.Common.{◌++◌, ◌∷◌, [], ◌∙◌, ap}
use Rattle.s3_types.specs.Tags.{Spelled}
use Rattle.trace_text.proofs.Cutting.{last_tag, one_tag}
use Rattle.trace_text.proofs.parts.add_tags.Goals as goal

pub parts-preserved : goal.parts-preserved
parts-preserved c =
    let grown = c.in_ok-push.ensures.items ∙ ap (λ (t : Spelled). c.parts.tags.items ++ t ∷ []) c.part_tag.ensures in
    let part = c.split_at.result.0.now in
    let others = c.split_at.result.1.now in
    one_tag c.args.size c.parts.rest.now part others _ _ _ c.requires c.parts-test.true c.split_at.ensures.front
    c.split_at.ensures.back grown c.parts.invariant

pub returns : goal.returns
returns c =
    let grown = c.in_ok-push-2.ensures.items ∙ ap (λ (t : Spelled). c.parts.tags.items ++ t ∷ []) c.part_tag-2.ensures in
    last_tag c.args.size c.parts.rest.now _ _ _ c.requires c.parts-test.false grown c.parts.invariant
