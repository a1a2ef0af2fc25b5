-- Definitions beside those of `Publishing` that no public contract cites.
use Rattle.job_model.specs.Files.{File}
use Rattle.job_model.specs.Jobs.{Task}
use Rattle.job_model.specs.Known.{Drawn}
use Rattle.job_protocol.specs.AtWork.{task_script, who_of}
use Rattle.job_protocol.specs.Knowledge.{drawn_in, nothing_drawn}
use Rattle.job_protocol.specs.Records.{file_record}
use Rattle.pending_json.specs.Pending.{Pending}
use Rattle.std.specs.Prelude.{List, None, Option, Some, map, reverse, slice_get, ℕ, ◌≡◌}
use Rattle.task_requests.specs.Publishing.{drawn_of}

-- The records of these files.
abbrev pub records_of : Task → List File → List Pending
records_of t fs = map (λ f. file_record (task_script t) (who_of t) f (drawn_of (task_script t) t.known f)) fs

-- The place of a key's newest upload among the uploads, oldest first, or None if the key has no upload.
abbrev pub IsLastAt : List Drawn → List ℕ → Option ℕ → Type 0
IsLastAt made key None = drawn_in (reverse made) key ≡ nothing_drawn
IsLastAt made key (Some i) = slice_get made i ≡ Some (drawn_in (reverse made) key)
