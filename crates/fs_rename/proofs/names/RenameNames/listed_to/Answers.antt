use Rattle.fs_ops.specs.Places.{prefix_of}
use Rattle.fs_rename.proofs.Inside.{place_marker}
use Rattle.fs_rename.specs.code.Rename.{Renaming}
use Rattle.fs_tree.specs.Tree.{is_marker}
use Rattle.std.proofs.Common.{ap, sym, ◌∙◌}
use Rattle.std.specs.Option.{option_copied}
use Rattle.fs_rename.proofs.names.RenameNames.listed_to.Goals as goal

pub new_keys-requires : goal.new_keys-requires
new_keys-requires c =
    ap is_marker (c.prefix.ensures ∙ ap (λ (o : Renaming). prefix_of o.source) c.self.view_is)
    ∙ place_marker c.args.self.now.source c.args.self.now.target c.in-Some.base.now c.args.inside
    (sym c.place.ensures ∙ ap option_copied c.in-Some.is)
