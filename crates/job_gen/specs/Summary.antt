-- The line that sums up the run of a made job.
use Rattle.job_model.specs.Attempts.{Who}
use Rattle.job_model.specs.JobScript.{Script}
use Rattle.job_model.specs.Legal.{bytes_of}
use Rattle.job_model.specs.declared.ends.Pick.{Pick}
use Rattle.job_protocol.specs.Outputs.{files}
use Rattle.job_spec.specs.ReportText.{line}
use Rattle.std.specs.Fmt.{decimal}
use Rattle.std.specs.Prelude.{List, codes, if◌then◌else◌, sum_by, ℕ, [], ◌*◌, ◌==◌, ◌∷◌}

-- The name of the chosen attempt.
abbrev pub picked : Pick → Who
picked p = record { task = p.task; attempt = p.attempt }

-- The number of bytes of a chosen attempt's files.
abbrev pub pick_bytes : Script → Pick → ℕ
pick_bytes w p = bytes_of (files w (picked p))

-- The number of bytes of the chosen attempts' files, or 0 if the status is not 0.
abbrev pub shown_bytes : (due : ℕ) → List Pick → Script → ℕ
shown_bytes due picks w = if due == 0 then sum_by (pick_bytes w) picks else 0

-- The line that sums up a made job: its tasks and files, the bytes published, the number of sends, and the status.
unfoldable pub summary : (tasks files due sent : ℕ) → List Pick → Script → List ℕ
summary tasks files due sent picks w = line (
    codes "tasks" ∷ decimal tasks
    ∷ codes "files" ∷ decimal (tasks * files)
    ∷ codes "bytes" ∷ decimal (shown_bytes due picks w)
    ∷ codes "sent" ∷ decimal sent
    ∷ codes "status" ∷ decimal due ∷ []
    )
