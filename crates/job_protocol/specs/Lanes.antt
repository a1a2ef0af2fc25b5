-- The table of lanes in which a job's uploads are completed.
use Rattle.pending_json.specs.Pending.{Pending}
use Rattle.s3_types.specs.Blocks.{named_from}
use Rattle.s3_types.specs.declared.request.Request.{Request}
use Rattle.s3_types.specs.declared.request.Request.TheVariants.{AbortUpload, CompleteUpload, DeleteObject}
use Rattle.std.specs.Prelude.{Bool, List, None, cond, false, map, min, nat_eq, nat_lt, not, suc, zero, ℕ, [], ◌&&◌, ◌++◌, ◌+◌, ◌||◌, ◌∷◌}

-- A lane with uploads to complete: the number of its first upload that is not answered, how many sends of it got no answer, and whether
-- one of these was lost and not merely slow. The lane's later uploads are `lanes` numbers apart.
pub record Turn : Type 0 where
  pub number : ℕ
  pub missed : ℕ
  pub lost : Bool

-- A turn of an upload that was not sent yet.
abbrev pub fresh_turn : ℕ → Turn
fresh_turn n = record { number = n; missed = 0; lost = false }

-- The turn after one more send without an answer.
abbrev pub again : Turn → Bool → Turn
again x lost = record { number = x.number; missed = x.missed + 1; lost = x.lost || lost }

-- The turn of the lane's next upload, if there is one.
abbrev pub follow : ℕ → ℕ → ℕ → List Turn
follow lanes total n = cond (nat_lt (n + lanes) total) (fresh_turn (n + lanes) ∷ []) []

-- The turns of the first n lanes, each at its first upload.
abbrev pub first_turns : ℕ → List Turn
first_turns zero = []
first_turns (suc n) = first_turns n ++ fresh_turn n ∷ []

-- The turns at the start: lane i begins with upload i.
abbrev pub dealt : ℕ → ℕ → List Turn
dealt lanes total = first_turns (min lanes total)

-- ---- uploads by their numbers

-- A placeholder for a pending upload that does not exist.
abbrev pub nothing_pending : Pending
nothing_pending = record { task = 0; attempt = 0; bucket = []; destination = []; upload = 0; length = 0; tags = []; sizes = None }

-- The upload with this number.
abbrev pub nth : List Pending → ℕ → Pending
nth [] n = nothing_pending
nth (p ∷ ps) zero = p
nth (p ∷ ps) (suc n) = nth ps n

-- The CompleteUpload of a pending upload.
abbrev pub completion : Pending → Request
completion p = CompleteUpload p.bucket p.destination p.upload (named_from 1 p.tags)

-- The AbortUpload of a pending upload.
abbrev pub abort : Pending → Request
abort p = AbortUpload p.bucket p.destination p.upload

-- The deletion of a pending upload's key.
abbrev pub deletion : Pending → Request
deletion p = DeleteObject p.bucket p.destination

-- ---- the revert

-- True if some turn is at this upload and has sent its completion.
abbrev pub is_tried : List Turn → ℕ → Bool
is_tried [] n = false
is_tried (x ∷ xs) n = (nat_eq n x.number && nat_lt 0 x.missed) || is_tried xs n

-- True if the number is in the list.
abbrev pub is_in : List ℕ → ℕ → Bool
is_in [] n = false
is_in (m ∷ ms) n = nat_eq n m || is_in ms n

-- The uploads that pass the test, which takes their numbers; the first upload has number n.
abbrev pub chosen : (ℕ → Bool) → ℕ → List Pending → List Pending
chosen test n [] = []
chosen test n (p ∷ ps) = cond (test n) (p ∷ chosen test (n + 1) ps) (chosen test (n + 1) ps)

-- The requests that abort each of these uploads and delete its key.
abbrev pub undo : List Pending → List Request
undo [] = []
undo (p ∷ ps) = abort p ∷ deletion p ∷ undo ps

-- The completed uploads in the order of their completion; the list of their numbers has the last one first.
abbrev pub in_turn : List Pending → List ℕ → List Pending
in_turn all [] = []
in_turn all (n ∷ ns) = in_turn all ns ++ nth all n ∷ []

-- True if no completion of this upload was ever sent.
abbrev pub is_unsent : ℕ → List Turn → List ℕ → ℕ → Bool
is_unsent worn xs finished n = not (nat_eq n worn || (is_tried xs n || is_in finished n))

-- The requests of the revert, in this order:
-- 1. the upload that ran out of retries is aborted and its key deleted
-- 2. so is each other one that was sent and not answered, by number
-- 3. each completed key is deleted, in the order of completion
-- 4. each upload that was never sent is aborted, by number
abbrev pub revert : List Pending → ℕ → List Turn → List ℕ → List Request
revert all worn xs finished = abort (nth all worn) ∷ deletion (nth all worn) ∷
    (undo (chosen (is_tried xs) 0 all) ++ (map deletion (in_turn all finished) ++ map abort (chosen (is_unsent worn xs finished) 0 all)))
