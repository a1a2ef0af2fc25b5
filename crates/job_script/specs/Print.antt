-- The text of a script as it is printed.
use Rattle.text_and_lists.specs.Words.{text_of}
use Rattle.hex.specs.Hex.{encode_lower}
use Rattle.job_model.specs.Attempts.{Declared}
use Rattle.job_model.specs.Files.{File}
use Rattle.job_model.specs.JobScript.{Script}
use Rattle.job_model.specs.Words.{op_word}
use Rattle.job_model.specs.declared.events.Event.{Event}
use Rattle.job_model.specs.declared.events.Event.TheVariants.{Do, Kill, Mix, Recover, Restart, Run, Start, Step}
use Rattle.job_script.specs.HeadLines.{head_lines}
use Rattle.job_script.specs.Kinds.{Line}
use Rattle.s3_types.specs.Spelling.{actor_text}
use Rattle.s3_types.specs.declared.request.Actor.TheVariants.{Attempt}
use Rattle.std.specs.Fmt.{decimal}
use Rattle.std.specs.List.{flat_map}
use Rattle.std.specs.Prelude.{List, codes, map, ℕ, [], ◌++◌, ◌∷◌}

-- The hex digits of bytes, in lower case, two digits a byte; `-` means none.
abbrev pub hex_word : List ℕ → List ℕ
hex_word [] = codes "-"
hex_word (b ∷ bytes) = encode_lower (b ∷ bytes)

-- The line `file PATH hex DIGITS`.
abbrev pub file_line : File → Line
file_line f = codes "file" ∷ f.0 ∷ codes "hex" ∷ hex_word f.1 ∷ []

-- The line `attempt T.A`, and those of its files.
abbrev pub attempt_lines : Declared → List Line
attempt_lines a = (codes "attempt" ∷ actor_text (Attempt a.0.task a.0.attempt) ∷ []) ∷ map file_line a.1

-- The line of an event.
abbrev pub event_line : Event → Line
event_line (Do actor op) = codes "do" ∷ actor_text actor ∷ op_word op ∷ []
event_line (Start actor op) = codes "start" ∷ actor_text actor ∷ op_word op ∷ []
event_line (Step actor count) = codes "step" ∷ actor_text actor ∷ decimal count ∷ []
event_line (Run actor) = codes "run" ∷ actor_text actor ∷ []
event_line (Kill actor) = codes "kill" ∷ actor_text actor ∷ []
event_line (Mix seed) = codes "mix" ∷ decimal seed ∷ []
event_line Restart = codes "restart" ∷ codes "driver" ∷ []
event_line (Recover actor) = codes "recover" ∷ actor_text actor ∷ []

-- The lines of a script: its head, its attempts with their files, and its events.
abbrev pub script_lines : Script → List Line
script_lines s = head_lines s ++ (flat_map attempt_lines s.attempts ++ map event_line s.events)

-- The text of a script: one blank separates two words, and LF ends each line.
unfoldable pub script_text : Script → List ℕ
script_text s = text_of (script_lines s)
