use Rattle.copy_tree.specs.code.Copy.{CopyPaths}
use Rattle.fs_ops.specs.Places.{prefix_of}
use Rattle.fs_rename.proofs.Places.{place_marker}
use Rattle.fs_tree.specs.Tree.{is_marker}
use Rattle.std.proofs.Common.{ap, sym, ◌∙◌}
use Rattle.std.specs.Option.{option_copied}
use Rattle.copy_tree.proofs.names.CopyNames.placed.Goals as goal

pub new_keys-requires : goal.new_keys-requires
new_keys-requires c =
    ap is_marker (c.prefix.ensures ∙ ap (λ (o : CopyPaths). prefix_of o.source) c.self.view_is)
    ∙ place_marker c.args.self.now.source c.args.self.now.target c.in-Some.base.now (sym c.place.ensures ∙ ap option_copied c.in-Some.is)
