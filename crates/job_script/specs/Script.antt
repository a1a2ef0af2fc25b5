-- The script that bytes mean.
use Rattle.job_model.specs.JobScript.{Script}
use Rattle.job_script.specs.AttemptLines.{attempt_at, file_at}
use Rattle.job_script.specs.EventLines.{event_line_at}
use Rattle.job_script.specs.HeadLines.{head_at, head_words, loss_at, no_head}
use Rattle.job_script.specs.Kinds.{Names, event_words, named}
use Rattle.job_script.specs.declared.draft.Draft.{Draft}
use Rattle.job_script.specs.declared.draft.Group.{Group}
use Rattle.job_script.specs.declared.fault.ScriptFault.{ScriptFault}
use Rattle.job_script.specs.declared.fault.ScriptFault.TheVariants.{BadLine, MissingHead, NotUtf8, TooLarge, UnknownActor, UnknownWord}
use Rattle.job_script.specs.declared.kinds.Kind.{Kind}
use Rattle.s3_types.specs.declared.limits.TheConstants.{MOST_SCRIPT_BYTES}
use Rattle.s3_types.specs.declared.request.Committer.{Committer}
use Rattle.s3_types.specs.declared.request.Mode.{Mode}
use Rattle.std.specs.Option.{option_or, unwrap_or}
use Rattle.std.specs.Prelude.{Bool, Err, List, None, Ok, Option, Result, Some, codes, false, if◌then◌else◌, length, nat_le, option_map}
use Rattle.std.specs.Prelude.{true, ℕ, [], ⊤, ◌+◌, ◌==◌, ◌∷◌}
use Rattle.std.specs.Str.{is_utf8}
use Rattle.text_and_lists.specs.Lines.{lines_of}
use Rattle.text_and_lists.specs.Reading.{check, need, ◌>>=◌}
use Rattle.text_and_lists.specs.Words.{words_of}
use Rattle.s3_types.specs.declared.request.Committer.TheVariants as committer
use Rattle.s3_types.specs.declared.request.Mode.TheVariants as mode
use Rattle.job_script.specs.declared.draft.Group.TheVariants as group
use Rattle.job_script.specs.declared.kinds.Kind.TheVariants as kind

-- The words of the lines that are no head line with one value and no event.
abbrev pub lone_words : Names Kind
lone_words = (codes "loss", kind.Loss) ∷ (codes "attempt", kind.Attempt) ∷ (codes "file", kind.File) ∷ []

-- The kind of a line that begins with this word, or none.
abbrev pub kind_of : List ℕ → Option Kind
kind_of word = option_or (option_map kind.Head (named head_words word)) (option_or (named lone_words word)
    (option_map kind.Event (named event_words word)))

-- The group after a line of this kind, or none if the line is not allowed in this group.
abbrev pub enters : Kind → Group → Option Group
enters (kind.Head w) group.Head = Some group.Head
enters kind.Loss group.Head = Some group.Head
enters kind.Attempt group.Events = None
enters kind.Attempt g = Some group.Attempts
enters kind.File group.Attempts = Some group.Attempts
enters (kind.Event w) g = Some group.Events
enters k g = None

-- True for an empty line, and for one that begins with #.
abbrev pub is_skipped : List ℕ → Bool
is_skipped [] = true
is_skipped (x ∷ xs) = x == 35

-- The draft after a line of this kind, with these words after its first one.
unfoldable pub said_at : ℕ → Kind → Draft → List (List ℕ) → Result Draft ScriptFault
said_at n (kind.Head word) d values = head_at n word d.head values >>= λ head. Ok (record d { head = head })
said_at n kind.Loss d values = loss_at n d.head values >>= λ head. Ok (record d { head = head })
said_at n kind.Attempt d values = attempt_at n d values
said_at n kind.File d values = file_at n d values
said_at n (kind.Event word) d values = event_line_at n word d values

-- The draft after a line of words. The line's kind is checked first, then its group, then the other words.
unfoldable pub words_at : ℕ → Draft → List (List ℕ) → Result Draft ScriptFault
words_at n d [] = Err (UnknownWord n)
words_at n d (word ∷ values) = do
  kind ← need (kind_of word) (UnknownWord n)
  group ← need (enters kind d.group) (BadLine n)
  said_at n kind (record d { group = group }) values

-- The draft after a line.
abbrev pub line_at : ℕ → Draft → List ℕ → Result Draft ScriptFault
line_at n d text = if is_skipped text then Ok d else words_at n d (words_of text)

-- The draft after these lines, numbered from n on, or the fault of the first faulty one.
unfoldable pub lines_at : ℕ → Draft → List (List ℕ) → Result Draft ScriptFault
lines_at n d [] = Ok d
lines_at n d (text ∷ texts) = do
  next ← line_at n d text
  lines_at (n + 1) next texts

-- The draft before the first line. At most `losses` lines `loss` may come.
abbrev pub nothing : ℕ → Draft
nothing losses = record { group = group.Head; head = no_head losses; attempts = []; outside = None; files = 0; bytes = 0; events = [] }

-- The mode. It is `append` if no line gives one, and must be `append` with `magic`.
abbrev pub mode_in : Committer → Option (ℕ × Mode) → Result Mode ScriptFault
mode_in c None = Ok mode.Append
mode_in committer.Magic (Some (n, mode.Append)) = Ok mode.Append
mode_in committer.Magic (Some (n, m)) = Err (BadLine n)
mode_in c (Some (n, m)) = Ok m

-- True if names are made unique. It is false if no line says so, and must be false with `magic`.
abbrev pub unique_in : Committer → Option (ℕ × Bool) → Result Bool ScriptFault
unique_in c None = Ok false
unique_in committer.Magic (Some (n, true)) = Err (BadLine n)
unique_in c (Some (n, unique)) = Ok unique

-- The fault of the first attempt whose task is not below the number of tasks.
abbrev pub all_inside : Option ℕ → Result ⊤ ScriptFault
all_inside None = Ok tt
all_inside (Some n) = Err (UnknownActor n)

-- The script after the checks that follow the last line, or their first fault.
unfoldable pub complete : Draft → Result Script ScriptFault
complete d = do
  job ← need d.head.job MissingHead
  dest ← need d.head.dest MissingHead
  committer ← need d.head.committer MissingHead
  tasks ← need d.head.tasks MissingHead
  mode ← mode_in committer d.head.mode
  unique ← unique_in committer d.head.unique
  inside ← all_inside d.outside
  Ok (record {
    job = job;
    dest = dest;
    committer = committer;
    mode = mode;
    unique = unique;
    tasks = tasks;
    retries = unwrap_or
        d.head.retries 3;
    block = unwrap_or d.head.block 0;
    lanes = unwrap_or d.head.lanes 1;
    stamp = d.head.stamp;
    fates = d.head.fates;
    attempts = d.attempts;
    events = d.events;
  })

-- The script that the bytes mean, or the first fault. It may have at most `losses` lines `loss`, and `size` bytes.
abbrev pub script_within : ℕ → ℕ → List ℕ → Result Script ScriptFault
script_within losses size bytes = do
  small ← check (nat_le (length bytes) size) TooLarge
  text ← check (is_utf8 bytes) NotUtf8
  d ← lines_at 1 (nothing losses) (lines_of bytes)
  complete d

-- The script that the bytes mean, or the first fault. It may have at most 10,000 lines `loss`, and MOST_SCRIPT_BYTES bytes.
unfoldable pub script_of : List ℕ → Result Script ScriptFault
script_of bytes = script_within 10000 MOST_SCRIPT_BYTES bytes
