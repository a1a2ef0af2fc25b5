use Rattle.dir_markers.specs.Markers.{marker_of}
use Rattle.fs_rename.proofs.NewKeys.{one_more}
use Rattle.fs_rename.specs.Keys.{new_keys, with_front}
use Rattle.std.proofs.Common.{List, ap, drop, sym, ℕ, ◌+◌, ◌∙◌, ◌∷◌}
use Rattle.std.proofs.lemmas.List.{drop_more}
use Rattle.fs_rename.proofs.base.Base.new_keys.Goals as goal

pub loop-key-preserved : goal.loop-key-preserved
loop-key-preserved c =
    let from = c.args.from.now in
    let to = marker_of c.args.self.now in
    let keys = c.args.keys.now in
    let i = c.loop-key.key-index in
    let front = drop_more keys i _ c.loop-key-test.true ∙ ap (λ (k : List ℕ). k ∷ drop (i + 1) keys) (sym c.key-item.is) in
    ap (λ l. with_front l (new_keys from to (drop (i + 1) keys))) c.in_ok-push-in-Some.ensures.ok
    ∙ sym (one_more from to c.loop-key.new _ c.in-Some.place _ (sym c.in_ok-place.ensures ∙ c.in-Some.is))
    ∙ ap (λ ks. with_front c.loop-key.new (new_keys from to ks)) (sym front)
    ∙ c.loop-key.invariant
