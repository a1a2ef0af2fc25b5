use Rattle.pending_json.specs.Fields.{all_of, as_whole}
use Rattle.serde_json.specs.View.{items_view}
use Rattle.std.proofs.Common.{drop, option_map, ◌++◌, ◌≡◌}
use Rattle.pending_json.proofs.sizes.sizes.Given as goal

abbrev pub invariant-loop-value : goal.invariant-loop-value
invariant-loop-value l = option_map (λ ns. l.sizes ++ ns) (all_of as_whole (items_view (drop l.value-index l.list))) ≡ all_of as_whole
    (items_view l.list)
