use Rattle.path_keys.proofs.Beneath.{below_elements, key_path_from}
use Rattle.path_keys.specs.Paths.{below}
use Rattle.s3_types.specs.Names.{is_key_path}
use Rattle.std.proofs.Common.{ap, ◌∙◌}
use Rattle.magic_paths.proofs.layout.file_key.Goals as goal

pub new-requires-2 : goal.new-requires-2
new-requires-2 c =
    let dir = c.args.dir.now.key in
    let path = c.args.path.now in
    ap is_key_path (c.in_ok-new.ensures ∙ c.in_ok-text.ensures.text ∙ ap (below dir) c.as_str.ensures)
    ∙ key_path_from (below dir path) (below_elements dir path c.text_below.ensures.key c.requires.elements) c.requires.most
