-- The requests of a revert, by the numbers of their uploads.
use Rattle.commit_lanes.specs.declared.undo.Undo.{Undo}
use Rattle.job_protocol.specs.LaneTable.{In}
use Rattle.job_protocol.specs.Lanes.{Turn, abort, deletion, nth, revert}
use Rattle.pending_json.specs.Pending.{Pending}
use Rattle.s3_types.specs.declared.request.Request.{Request}
use Rattle.std.specs.Prelude.{List, length, map, ℕ, ◌<◌, ◌≡◌}
use Rattle.commit_lanes.specs.declared.undo.Undo.TheVariants as undos

-- The request of S3 for a step of a revert, by the number of its upload.
abbrev pub undo_request : List Pending → Undo → Request
undo_request all (undos.Abort n) = abort (nth all n)
undo_request all (undos.Delete n) = deletion (nth all n)

-- The list contains the requests of the revert after the completion of upload `worn` exhausted its retries.
abbrev pub IsRevert : ℕ → ℕ → List Turn → List ℕ → List Undo → Type 0
IsRevert total worn xs finished u = (all : List Pending) → length all ≡ total → map (undo_request all) u ≡ revert all worn xs finished

-- The number of the upload of a step.
abbrev pub number_in : Undo → ℕ
number_in (undos.Abort n) = n
number_in (undos.Delete n) = n

-- Each step is about one of the `total` uploads.
abbrev pub NumbersWithin : ℕ → List Undo → Type 0
NumbersWithin total u = (x : Undo) → In x u → number_in x < total
