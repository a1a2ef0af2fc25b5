use Rattle.dir_markers.specs.Markers.{marker_of}
use Rattle.fs_ops.specs.code.List.{rest_of}
use Rattle.fs_rename.proofs.NewKeys.{new_legal}
use Rattle.std.proofs.Common.{Some, rules, ◌++◌, ◌≡◌}
use Rattle.fs_rename.proofs.base.Base.new_key.Goals as goal

pub fitting-requires : goal.fitting-requires
fitting-requires c f =
    let found : rest_of c.args.from.now c.args.key.now ≡ Some c.in-Some.rest.now = search rules in
    let behind : c.as_str-in-Some.result.now ≡ marker_of c.self.inside.path = search rules in
    let text : c.in_ok-joined-in-Some.field-0 ≡ c.as_str-in-Some.result.now ++ c.in-Some.rest.now = search rules in
    new_legal c.self.inside.path c.args.from.now c.args.key.now c.in-Some.rest.now c.as_str-in-Some.result.now
    c.in_ok-joined-in-Some.field-0 c.self.invariant.1 c.requires c.as_text.ensures.key found behind text f
