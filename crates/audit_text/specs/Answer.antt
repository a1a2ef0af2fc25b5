-- The text that reports the answer of an audit.
use Rattle.std.specs.Prelude.{ℕ, List, [], ◌∷◌, ◌++◌, codes, decimal}
use Rattle.std.specs.List.{flat_map}
use Rattle.serde_json.specs.Data.{string}
use Rattle.serde_json.specs.Written.{compact_text}
use Rattle.soundness.specs.declared.marker.Marker.{Marker}
use Rattle.soundness.specs.declared.marker.Marker.TheVariants.{Absent, Old, New}
use Rattle.trace_reader.specs.Reading.{name_of}
use Rattle.trace_reader.specs.declared.fault.TraceFault.{TraceFault}
use Rattle.trace_reader.specs.declared.fault.TraceFault.TheVariants as fault
use Rattle.audit_judge.specs.declared.reason.Reason.{Reason}
use Rattle.audit_judge.specs.declared.reason.Reason.TheVariants.{Early, Missing, Foreign, Lost, Torn, Stale, Half, Left}
use Rattle.audit_text.specs.declared.sound.Pick.{Pick}

-- ---- readers were safe

-- The word for the success marker that exists at the end.
abbrev pub marker_word : Marker → List ℕ
marker_word Absent = codes "none"
marker_word Old = codes "old"
marker_word New = codes "new"

-- A task with the attempt that is its choice: `pick T A`.
abbrev pub pick_line : Pick → List ℕ
pick_line p = codes "pick " ++ (decimal p.task ++ (codes " " ++ (decimal p.attempt ++ 10 ∷ [])))

-- How many lines the trace has, how many of them changed something, which marker exists, and the picks.
unfoldable pub sound_text : (lines changes : ℕ) → Marker → (picks : List Pick) → List ℕ
sound_text lines changes marker picks =
    codes "sound\nlines "
    ++ (decimal lines
    ++ (codes "\nchanges " ++ (decimal changes ++ (codes "\nmarker " ++ (marker_word marker ++ (10 ∷ [] ++ flat_map pick_line picks))))))

-- ---- readers were not safe

-- A path as a JSON string.
abbrev pub path_text : List ℕ → List ℕ
path_text path = compact_text (string path)

-- A reason: its word, a blank, and its path or the number of its task.
abbrev pub reason_text : Reason → List ℕ
reason_text (Early path) = codes "early " ++ path_text path
reason_text (Missing task) = codes "missing " ++ decimal task
reason_text (Foreign path) = codes "foreign " ++ path_text path
reason_text (Lost path) = codes "lost " ++ path_text path
reason_text (Torn task) = codes "torn " ++ decimal task
reason_text (Stale path) = codes "stale " ++ path_text path
reason_text (Half task) = codes "half " ++ decimal task
reason_text (Left path) = codes "left " ++ path_text path

-- The text says that the line with this number is the first with which readers were not safe, and why.
unfoldable pub unsound_text : (number : ℕ) → Reason → List ℕ
unsound_text number reason = codes "unsound at line " ++ (decimal number ++ (codes ": " ++ (reason_text reason ++ 10 ∷ [])))

-- ---- the trace has a fault

-- The word of a fault. NoMemory is no fault of a trace, and has none.
abbrev pub fault_word : TraceFault → List ℕ
fault_word fault.TooLong = codes "too-long"
fault_word fault.NotJson = codes "not-json"
fault_word (fault.MissingField field) = codes "missing-field"
fault_word (fault.WrongKind field) = codes "wrong-kind"
fault_word fault.UnknownOp = codes "unknown-op"
fault_word fault.OutOfOrder = codes "out-of-order"
fault_word fault.Repeated = codes "repeated"
fault_word fault.SamePath = codes "same-path"
fault_word fault.NoSource = codes "no-source"
fault_word fault.NoMemory = []

-- If a fault is about a member of the line, a blank and the member's name.
abbrev pub member_text : TraceFault → List ℕ
member_text (fault.MissingField field) = codes " " ++ name_of field
member_text (fault.WrongKind field) = codes " " ++ name_of field
member_text _ = []

-- The text says that the line with this number is the first with a fault.
unfoldable pub fault_text : (number : ℕ) → TraceFault → List ℕ
fault_text number fault =
    codes "trace fault "
    ++ (fault_word fault ++ (member_text fault ++ (codes " at line " ++ (decimal number ++ 10 ∷ []))))
