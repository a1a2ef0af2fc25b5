-- The set that publishes an attempt's files, and what the attempt knows of their uploads.
use Rattle.job_model.specs.Attempts.{Who}
use Rattle.job_model.specs.Files.{File}
use Rattle.job_model.specs.JobScript.{Script}
use Rattle.job_model.specs.Jobs.{Task}
use Rattle.job_model.specs.Known.{Drawn, Known}
use Rattle.job_protocol.specs.AtWork.{task_script}
use Rattle.job_protocol.specs.Knowledge.{drawn_for}
use Rattle.job_protocol.specs.Records.{file_key, record_text}
use Rattle.pending_json.specs.Pending.{are_sizes, are_tags}
use Rattle.s3_types.specs.declared.reply.Refusal.TheVariants.{NoSuchKey}
use Rattle.s3_types.specs.declared.reply.Reply.{Reply}
use Rattle.s3_types.specs.declared.reply.Reply.TheVariants.{Object, Refused}
use Rattle.std.specs.List.{AllByRecursion, list_all}
use Rattle.std.specs.Prelude.{Bool, List, Some, get_or, length, map, nat_lt, true, ℕ, [], ◌≡◌}

-- The files at these places.
abbrev pub picked : List File → List ℕ → List File
picked fs places = map (λ i. get_or fs i ([], [])) places

-- The newest known upload for a file's key.
abbrev pub drawn_of : Script → Known → File → Drawn
drawn_of w k f = drawn_for k (file_key w f)

-- The upload's tags and sizes can be those of the record of a file of this length.
abbrev pub IsPending : Drawn → ℕ → Type 0
IsPending d length = (are_tags d.tags ≡ true) × (are_sizes (Some d.sizes) d.tags length ≡ true)

-- For each of these files, the attempt knows an upload that can become a record.
abbrev pub AreReady : Task → List File → Type 0
AreReady t fs = AllByRecursion (λ f. IsPending (drawn_of (task_script t) t.known f) (length f.1)) fs

-- True if all these places are below `count`.
abbrev pub are_places : ℕ → List ℕ → Bool
are_places count places = list_all (λ i. nat_lt i count) places

-- The reply to reading a file's record: the record's text, or that the key does not exist.
abbrev pub FitsRecord : Script → Who → Known → File → Reply → Type 0
FitsRecord w a k f (Object bytes header) = (bytes ≡ record_text w a f (drawn_of w k f)) × IsPending (drawn_of w k f) (length f.1)
FitsRecord w a k f (Refused NoSuchKey) = Unit {0}
FitsRecord w a k f _ = ⊥
