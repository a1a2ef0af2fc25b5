use Rattle.text_and_lists.proofs.Reading.{with_front}
use Rattle.pending_json.proofs.Loop.{one_more}
use Rattle.pending_json.specs.Pending.{Pending}
use Rattle.pending_json.specs.Reading.{pendings_in}
use Rattle.serde_json.specs.View.{items_view, view}
use Rattle.serde_json.specs.declared.value.Value.{Value}
use Rattle.std.proofs.Common.{List, ap, drop, subst, sym, ◌+◌, ◌∙◌, ◌∷◌, ◌≡◌}
use Rattle.std.proofs.lemmas.List.{drop_more}
use Rattle.pending_json.proofs.set_reading.pendings_in.Goals as goal

pub loop-value-preserved : goal.loop-value-preserved
loop-value-preserved c =
    let i = c.loop-value.value-index in
    let all = c.args.list.now in
    let v = c.value-item.result in
    let is : drop i all ≡ v ∷ drop (i + 1) all = drop_more all i v c.loop-value-test.true ∙ ap (λ (x : Value). x ∷ drop (i + 1) all)
    (sym c.value-item.is) in
    let so_far = subst (λ (vs : List Value). with_front c.loop-value.commits (pendings_in (items_view vs)) ≡ pendings_in (items_view all))
    is c.loop-value.invariant in
    subst (λ (cs : List Pending). with_front cs (pendings_in (items_view (drop (i + 1) all))) ≡ pendings_in (items_view all))
    (sym c.in_ok-push.ensures.ok)
    (one_more c.loop-value.commits (view v) (items_view (drop (i + 1) all)) c.in_ok-pending.pending _ c.in_ok-pending.ensures so_far)
