use Rattle.magic_paths.proofs.Elements.{dest_elements, success_key_elements}
use Rattle.magic_paths.proofs.Lengths.{success_key_short}
use Rattle.magic_paths.specs.Layout.{success_key}
use Rattle.path_keys.proofs.Beneath.{key_path_from}
use Rattle.path_keys.specs.Paths.{is_key}
use Rattle.s3_types.specs.Names.{is_key_path}
use Rattle.std.proofs.Common.{ap, sym, ◌∙◌}
use Rattle.magic_paths.proofs.layout.success_key.Goals as goal

pub new-requires-2 : goal.new-requires-2
new-requires-2 c =
    let dest = c.args.dest.now.key in
    let elements = success_key_elements dest (dest_elements dest c.requires.some (ap is_key (sym c.key.ensures.text) ∙ c.key.ensures.key))
    in
    ap is_key_path (c.in_ok-new.ensures ∙ c.in_ok-text.ensures ∙ ap success_key (c.as_str.ensures ∙ c.key.ensures.text))
    ∙ key_path_from (success_key dest) elements (success_key_short dest c.requires.most)
