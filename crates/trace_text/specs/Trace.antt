-- The trace of a job's run whose events have all ended.
use Rattle.std.specs.Prelude.{ℕ, ◌+◌, false, List, [], ◌∷◌, ◌++◌, codes, length, nat_lt, None}
use Rattle.std.specs.List.{count_by, flat_map, zip}
use Rattle.std.specs.FinMap as fin
use Rattle.serde_json.specs.Data.{string}
use Rattle.s3_types.specs.Fates.{FateMap}
use Rattle.s3_types.specs.Store.{Content, opening}
use Rattle.s3_types.specs.declared.journal.Entry.{Entry}
use Rattle.job_model.specs.JobScript.{Script}
use Rattle.job_model.specs.Words.{event_text}
use Rattle.job_model.specs.declared.ends.EventEnd.{EventEnd}
use Rattle.job_model.specs.declared.events.Event.{Event}
use Rattle.job_spec.specs.ReportText.{end_text}
use Rattle.job_spec.specs.States.{commit_event, is_refused, verdict}
use Rattle.trace_lines.specs.Lines.{line, whole}
use Rattle.trace_text.specs.Heads.{head_lines}
use Rattle.trace_text.specs.Sends.{Send, behind_event, send_lines, sends_from, until_event}

-- The line of an event that has ended, by its number, its text and its end.
abbrev pub event_words : ℕ → (event end : List ℕ) → List ℕ
event_words n event end = line (
    (codes "op", string (codes "Event")) ∷ (codes "event", whole n) ∷ (codes "text", string event) ∷ (codes "end", string end) ∷ [])

-- The line of an event, with its text and end as a report has them.
abbrev pub event_line : ℕ → Event × EventEnd → List ℕ
event_line n e = event_words n (event_text e.0) (end_text e.1)

-- For each of these events, which are numbered from n on, the lines of its sends and then its own line.
abbrev pub event_lines : ℕ → List (Event × EventEnd) → List Send → List ℕ
event_lines n [] sends = []
event_lines n (e ∷ es) sends =
    flat_map send_lines (until_event n sends) ++ (event_line n e ++ event_lines (n + 1) es (behind_event n sends))

-- How many sends that a script's `loss` lines name were never sent in a run of `sent` sends.
abbrev pub unsent : FateMap → ℕ → ℕ
unsent fates sent = count_by (λ loss. nat_lt sent loss.0) (fin.entries fates)

-- The last line: how many requests were sent, the exit status, how many events were refused, and how many planned losses were never
-- reached.
abbrev pub end_line : Script → (sent : ℕ) → List EventEnd → List ℕ
end_line w sent ends = line (
    (codes "op", string (codes "End"))
    ∷ (codes "sent", whole sent)
    ∷ (codes "status", whole (verdict w ends))
    ∷ (codes "refused", whole (count_by is_refused ends))
    ∷ (codes "unsent", whole (unsent w.fates sent))
    ∷ [])

-- The trace of a run of a job over a store, by the journal of its sends and the ends of the events.
unfoldable pub trace_text : Script → Content → List Entry → List EventEnd → List ℕ
trace_text w c journal ends =
    head_lines w c
    ++ (event_lines 1 (zip w.events ends) (sends_from (commit_event w ends) 1 false (opening c) journal)
    ++ end_line w (length journal) ends)

-- The trace of a command's requests alone, over a store.
unfoldable pub requests_text : Content → List Entry → List ℕ
requests_text c journal = flat_map send_lines (sends_from None 1 false (opening c) journal)
