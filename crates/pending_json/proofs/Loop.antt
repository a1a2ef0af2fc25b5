-- One more pending upload of a list.
use Rattle.text_and_lists.proofs.Reading.{with_front}
use Rattle.text_and_lists.specs.Reading.{Fails}
use Rattle.pending_json.specs.Fault.{wanting}
use Rattle.pending_json.specs.Pending.{Pending}
use Rattle.pending_json.specs.Reading.{pending_in, pendings_in}
use Rattle.pending_json.specs.declared.fault.RecordFault.{RecordFault}
use Rattle.serde_json.specs.Data.{Data, Items, item}
use Rattle.std.proofs.Common.{List, Ok, Result, [], ◌++◌, ◌∷◌, ◌≡◌}
use Rattle.text_and_lists.proofs.Reading as reading

pub one_more : (front : List Pending) (d : Data) (ds : Items) (p : Pending) (total : Result (List Pending) RecordFault)
    → pending_in d ≡ Ok p
    → with_front front (pendings_in (item d ds)) ≡ total → with_front (front ++ p ∷ []) (pendings_in ds) ≡ total
unfolding pendings_in
one_more front d ds p total h so_far = reading.one_more front (pending_in d) p (pendings_in ds) total h so_far

pub ends : (fault : RecordFault) (front : List Pending) (d : Data) (ds : Items) (total : Result (List Pending) RecordFault)
    → Fails wanting fault (pending_in d)
    → with_front front (pendings_in (item d ds)) ≡ total → Fails wanting fault total
unfolding pendings_in
ends fault front d ds total h so_far = reading.ends wanting fault front (pending_in d) (pendings_in ds) total h so_far
