use Rattle.magic_paths.proofs.Elements.{dest_elements, set_key_elements}
use Rattle.magic_paths.proofs.Lengths.{set_key_short}
use Rattle.magic_paths.specs.Layout.{set_key}
use Rattle.path_keys.proofs.Beneath.{key_path_from}
use Rattle.path_keys.specs.Paths.{is_key}
use Rattle.s3_types.specs.Names.{is_key_path}
use Rattle.std.proofs.Common.{ap, arith, sym, ◌∙◌}
use Rattle.magic_paths.proofs.layout.set_key.Goals as goal

pub new-requires-2 : goal.new-requires-2
new-requires-2 c =
    let dest = c.args.dest.now.key in
    let id = c.args.job.now in
    let elements = set_key_elements dest id c.args.task (dest_elements dest c.requires.some
    (ap is_key (sym c.key.ensures.text) ∙ c.key.ensures.key)) c.requires.id (omega arith) in
    ap is_key_path (c.in_ok-new.ensures ∙ c.in_ok-text.ensures ∙ (λ i. set_key ((c.as_str.ensures ∙ c.key.ensures.text) i)
    (c.as_str-2.ensures i) c.args.task))
    ∙ key_path_from (set_key dest id c.args.task) elements (set_key_short dest id c.args.task c.requires.most c.requires.id
    c.ranges.task.fits)
