use Rattle.std.proofs.Common.{[], ◌++◌, ◌∙◌, ap, map}
use Rattle.path_keys.proofs.Last.{cut_last, no_slash}
use Rattle.dir_markers.specs.Markers.{marker_of, keys_above}
use Rattle.dir_markers.proofs.Above.{none_above, one_above, parent_key}
use Rattle.dir_markers.proofs.marker.markers_above.Goals as goal

pub returns-in_default : goal.returns-in_default
returns-in_default c =
    c.new-markers.ensures ∙ none_above c.path_in.result.now [] (no_slash c.path_in.result.now c.in_default.ensures.cases)
    ∙ ap (λ p. map marker_of (keys_above p)) c.path_in.ensures.path

pub add_above-requires : goal.add_above-requires
add_above-requires c =
    let cut = cut_last c.path_in.result.now c.in-Some.front.now c.in-Some.field-0-1.now c.in-Some.ensures.cases in
    (parent_key c.args.key.now c.path_in.result.now c.in-Some.front.now c.in-Some.field-0-1.now c.path_in.ensures.key c.path_in.ensures.path
    cut.0 cut.1).1

pub marker-requires-clause-some : goal.marker-requires-clause-some
marker-requires-clause-some c =
    let cut = cut_last c.path_in.result.now c.in-Some.front.now c.in-Some.field-0-1.now c.in-Some.ensures.cases in
    (parent_key c.args.key.now c.path_in.result.now c.in-Some.front.now c.in-Some.field-0-1.now c.path_in.ensures.key c.path_in.ensures.path
    cut.0 cut.1).0

pub marker-requires-clause-key : goal.marker-requires-clause-key
marker-requires-clause-key c =
    let cut = cut_last c.path_in.result.now c.in-Some.front.now c.in-Some.field-0-1.now c.in-Some.ensures.cases in
    (parent_key c.args.key.now c.path_in.result.now c.in-Some.front.now c.in-Some.field-0-1.now c.path_in.ensures.key c.path_in.ensures.path
    cut.0 cut.1).1

pub returns : goal.returns
returns c =
    let cut = cut_last c.path_in.result.now c.in-Some.front.now c.in-Some.field-0-1.now c.in-Some.ensures.cases in
    c.in_ok-push.ensures.ok
    ∙ one_above c.path_in.result.now c.in-Some.front.now c.in-Some.field-0-1.now c.in_ok-parent.parent [] c.add_above.new.markers cut.0
    cut.1
    (c.in_ok-add_above.ensures ∙ ap (λ l. l ++ map marker_of (keys_above c.in-Some.front.now)) c.new-markers.ensures) c.in_ok-parent.ensures
    ∙ ap (λ p. map marker_of (keys_above p)) c.path_in.ensures.path
