-- The words of a script and their meanings.
use Rattle.job_model.specs.declared.events.Op.{Op}
use Rattle.job_script.specs.declared.kinds.EventWord.{EventWord}
use Rattle.pending_json.specs.Committers.{committer_word}
use Rattle.s3_types.specs.declared.fates.Fate.{Fate}
use Rattle.s3_types.specs.declared.request.Committer.{Committer}
use Rattle.s3_types.specs.declared.request.Mode.{Mode}
use Rattle.std.specs.Prelude.{Bool, List, None, Option, Some, bytes_eq, codes, false, if◌then◌else◌, map, true, ℕ, [], ◌∷◌}
use Rattle.job_script.specs.declared.kinds.EventWord.TheVariants as event
use Rattle.pending_json.specs.Committers as all
use Rattle.s3_types.specs.declared.request.Mode.TheVariants as mode
use Rattle.s3_types.specs.declared.fates.Fate.TheVariants as fate
use Rattle.job_model.specs.declared.events.Op.TheVariants as op

-- A line as a list of its words.
abbrev pub Line : Type 0
Line = List (List ℕ)

-- A table of words and their meanings.
abbrev pub Names : Type 0 → Type 0
Names A = List (List ℕ × A)

-- The meaning of a word in a table, or none.
abbrev pub named : {A : Type 0} → Names A → List ℕ → Option A
named [] word = None
named (row ∷ rows) word = if bytes_eq word row.0 then Some row.1 else named rows word

-- The words of events.
abbrev pub event_words : Names EventWord
event_words =
    (codes "do", event.Do) ∷ (codes "start", event.Start) ∷ (codes "step", event.Step) ∷ (codes "run", event.Run) ∷
    (codes "kill", event.Kill) ∷ (codes "mix", event.Mix)
    ∷ (codes "restart", event.Restart) ∷ (codes "recover", event.Recover) ∷ []

-- The words of committers.
abbrev pub committers : Names Committer
committers = map (λ c. (committer_word c, c)) all.committers

-- The words of conflict modes.
abbrev pub modes : Names Mode
modes = (codes "fail", mode.Fail) ∷ (codes "append", mode.Append) ∷ (codes "replace", mode.Replace) ∷ []

-- The word of a conflict mode.
abbrev pub mode_word : Mode → List ℕ
mode_word mode.Fail = codes "fail"
mode_word mode.Append = codes "append"
mode_word mode.Replace = codes "replace"

-- The words of yes and no.
abbrev pub answers : Names Bool
answers = (codes "yes", true) ∷ (codes "no", false) ∷ []

-- The word of yes or no.
abbrev pub answer_word : Bool → List ℕ
answer_word true = codes "yes"
answer_word false = codes "no"

-- The words of fates.
abbrev pub fates : Names Fate
fates = (codes "slow", fate.Slow) ∷ (codes "before", fate.Before) ∷ (codes "after", fate.After) ∷ []

-- The word of a fate.
abbrev pub fate_word : Fate → List ℕ
fate_word fate.Answer = codes "answer"
fate_word fate.Slow = codes "slow"
fate_word fate.Before = codes "before"
fate_word fate.After = codes "after"

-- The words of the driver's operations.
abbrev pub driver_ops : Names Op
driver_ops = (codes "setup", op.Setup) ∷ (codes "commit", op.Commit) ∷ (codes "abort", op.Abort) ∷ (codes "clean", op.Clean) ∷ []

-- The words of an attempt's operations.
abbrev pub attempt_ops : Names Op
attempt_ops = (codes "write", op.Write) ∷ (codes "commit", op.Commit) ∷ (codes "abort", op.Abort) ∷ []
