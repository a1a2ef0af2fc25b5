-- The sends of a run, as its trace shows them.
use Rattle.std.specs.Prelude.{ℕ, ◌+◌, Bool, not, ◌&&◌, ◌||◌, List, [], ◌∷◌, ◌++◌, codes, cond, Option, nat_le}
use Rattle.serde_json.specs.Data.{string}
use Rattle.s3_types.specs.Answer.{answer}
use Rattle.s3_types.specs.Moment.{effect}
use Rattle.s3_types.specs.Store.{Scene}
use Rattle.s3_types.specs.declared.journal.Entry.{Entry}
use Rattle.s3_types.specs.declared.reply.Reply.{Reply}
use Rattle.job_protocol.specs.Seen.{is_begun}
use Rattle.job_spec.specs.Ends.{is_driver}
use Rattle.trace_lines.specs.Lines.{line}
use Rattle.trace_lines.specs.Requests.{request_line}

-- One send: its number, its entry in the journal, the reply that S3 must give, and whether the job's commit begins with it.
pub record Send : Type 0 where
  pub number : ℕ
  pub entry : Entry
  pub due : Reply
  pub begins : Bool

-- True for a send of the driver in the event of the job's commit or in a later one.
abbrev pub is_of_commit : Option ℕ → Entry → Bool
is_of_commit commit e = is_driver e.actor && is_begun commit e.event

-- Sends that are numbered from n on, over this store and cluster. `begun` says whether the commit has begun; it begins with its first
-- send.
abbrev pub sends_from : (commit : Option ℕ) → ℕ → (begun : Bool) → Scene → List Entry → List Send
sends_from commit n begun z [] = []
sends_from commit n begun z (e ∷ es) =
    record { number = n; entry = e; due = answer z e.request; begins = not begun && is_of_commit commit e }
    ∷ sends_from commit (n + 1) (begun || is_of_commit commit e) (effect z e.request e.outcome) es

-- The line before the first request of the job's commit.
abbrev pub commit_line : List ℕ
commit_line = line ((codes "op", string (codes "Commit")) ∷ [])

-- The lines of a send: its own line, after that of the commit if the commit begins with it.
abbrev pub send_lines : Send → List ℕ
send_lines s = cond s.begins commit_line [] ++ request_line s.number s.entry s.due

-- True for a send of this event or of one before it.
abbrev pub is_until : ℕ → Send → Bool
is_until event s = nat_le s.entry.event event

-- The first sends, up to the last of an event.
abbrev pub until_event : ℕ → List Send → List Send
until_event event [] = []
until_event event (s ∷ ss) = cond (is_until event s) (s ∷ until_event event ss) []

-- The sends after those.
abbrev pub behind_event : ℕ → List Send → List Send
behind_event event [] = []
behind_event event (s ∷ ss) = cond (is_until event s) (behind_event event ss) (s ∷ ss)
