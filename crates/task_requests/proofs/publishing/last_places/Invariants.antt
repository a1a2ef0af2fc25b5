use Rattle.text_and_lists.specs.Order.{text_eq}
use Rattle.indexmap.specs.IndexMap.{get}
use Rattle.std.proofs.Common.{List, take, ℕ}
use Rattle.task_requests.specs.inner.Publishing.{IsLastAt}
use Rattle.task_requests.proofs.publishing.last_places.Given as goal

abbrev pub invariant-loop-place : goal.invariant-loop-place
invariant-loop-place l = (key : List ℕ) → IsLastAt (take l.place l.made) key (get text_eq l.places key)
