use Rattle.text_and_lists.specs.Order.{text_eq}
use Rattle.commit_lanes.specs.Clashes.{Item}
use Rattle.commit_lanes.specs.inner.Clashes.{Finds}
use Rattle.job_protocol.specs.LaneTable.{In}
use Rattle.std.proofs.Common.{List, map, take, ℕ, ◌++◌, ◌≤◌}
use Rattle.std.specs.HashMap.{get}
use Rattle.commit_lanes.proofs.sharing.add_all.Given as goal

abbrev pub invariant-loop-upload : goal.invariant-loop-upload
invariant-loop-upload l = (items : List Item) → ((k : List ℕ) (v : ℕ) → In (k, v) items → v ≤ l.task)
    → Finds items (get text_eq l.initial.search.owners) l.initial.search.best
    → Finds (items ++ map (λ c. (c.destination, l.task)) (take l.upload-index l.uploads)) (get text_eq l.search.owners) l.search.best
