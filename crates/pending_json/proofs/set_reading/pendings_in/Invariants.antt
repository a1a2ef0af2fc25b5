use Rattle.text_and_lists.proofs.Reading.{with_front}
use Rattle.pending_json.specs.Reading.{pendings_in}
use Rattle.serde_json.specs.View.{items_view}
use Rattle.std.proofs.Common.{drop, ◌≡◌}
use Rattle.pending_json.proofs.set_reading.pendings_in.Given as goal

abbrev pub invariant-loop-value : goal.invariant-loop-value
invariant-loop-value l = with_front l.commits (pendings_in (items_view (drop l.value-index l.list))) ≡ pendings_in (items_view l.list)
