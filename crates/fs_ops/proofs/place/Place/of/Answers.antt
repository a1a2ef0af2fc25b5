use Rattle.fs_ops.proofs.Names.{is_place, kept_as, path_key}
use Rattle.path_keys.specs.Paths.{is_key}
use Rattle.s3_types.specs.Names.{is_key_path}
use Rattle.std.proofs.Common.{ap, sym, ◌∙◌}
use Rattle.fs_ops.proofs.place.Place.of.Goals as goal

pub new-requires : goal.new-requires
new-requires c =
    ap is_key_path (c.in-Ok.ensures.cases ∙ c.in_ok-text.ensures.cases ∙ c.key.ensures.text)
    ∙ path_key c.args.path.now.key (is_place c.args.path.now.key c.is_root.result c.is_root.ensures c.if-is_root.false).some
    (ap is_key (sym c.key.ensures.text) ∙ c.key.ensures.key)

pub invariant_of-result-2 : goal.invariant_of-result-2
invariant_of-result-2 c =
    kept_as c.args.path.now.key c.in_ok-text.text c.new.result c.in-Ok-marker_key.marker
    (is_place c.args.path.now.key c.is_root.result c.is_root.ensures c.if-is_root.false)
    (ap is_key (sym c.key.ensures.text) ∙ c.key.ensures.key)
    (c.in_ok-text.ensures.cases ∙ c.key.ensures.text) (c.new.ensures ∙ c.in-Ok.ensures.cases) c.in-Ok-marker_key.ensures
