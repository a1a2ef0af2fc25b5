-- The answer of an audit.
use Rattle.audit_judge.specs.declared.reason.Reason.{Reason}
use Rattle.audit_model.specs.Answers.{IsFaulty, IsLeast, IsSound, IsUnsound}
use Rattle.audit_model.specs.Moments.{marker_of}
use Rattle.audit_model.specs.Recorded.{Recorded}
use Rattle.audit_text.specs.Answer.{fault_text, sound_text, unsound_text}
use Rattle.audit_text.specs.declared.sound.Pick.{Pick}
use Rattle.exit_status.specs.Statuses.{memory_text, read_text}
use Rattle.exit_status.specs.declared.statuses.Status.{Status}
use Rattle.soundness.specs.declared.marker.Marker.{Marker}
use Rattle.std.specs.Prelude.{List, codes, length, min, ℕ, [], ◌++◌, ◌+◌, ◌-◌, ◌^◌, ◌∷◌, ◌≡◌}
use Rattle.trace_reader.specs.declared.fault.TraceFault.{TraceFault}
use Rattle.exit_status.specs.declared.statuses.Status.TheVariants as status
use Rattle.soundness.specs.declared.marker.Marker.TheVariants as marker

-- For each task from this one on, in order, the least attempt that explains what readers saw of it at each moment.
abbrev pub AreLeast : (lines : List (List ℕ)) → Recorded → (task : ℕ) → List Pick → Type 0
AreLeast lines r task [] = task ≡ r.tasks
AreLeast lines r task (p ∷ ps) = (p.task ≡ task) × IsLeast lines r task p.attempt × AreLeast lines r (task + 1) ps

-- If a new success marker exists at the end, these are the attempts that can be the job's choice; else there are none.
abbrev pub ArePicks : Marker → (lines : List (List ℕ)) → Recorded → List Pick → Type 0
ArePicks marker.Absent lines r picks = picks ≡ []
ArePicks marker.Old lines r picks = picks ≡ []
ArePicks marker.New lines r picks = AreLeast lines r 0 picks

-- Readers were safe, and this text reports it. Changes are counted up to 2^64 - 1.
pub record TellsSound (lines : List (List ℕ)) (text : List ℕ) : Type 0 where
  pub said : Recorded
  pub sound : IsSound lines said
  pub picks : List Pick
  pub are : ArePicks (marker_of said) lines said picks
  pub text_is : text ≡ sound_text (length lines) (min said.changes (2 ^ 64 - 1)) (marker_of said) picks

-- Readers were not safe, and this text reports it.
pub record TellsUnsound (lines : List (List ℕ)) (text : List ℕ) : Type 0 where
  pub number : ℕ
  pub reason : Reason
  pub unsound : IsUnsound lines number reason
  pub text_is : text ≡ unsound_text number reason

-- The trace has a fault, and this text reports it.
pub record TellsFault (lines : List (List ℕ)) (text : List ℕ) : Type 0 where
  pub number : ℕ
  pub fault : TraceFault
  pub faulty : IsFaulty lines number fault
  pub text_is : text ≡ fault_text number fault

-- The text is the answer to these lines with this status.
abbrev pub IsAnswer : Status → (text : List ℕ) → (lines : List (List ℕ)) → Type 0
IsAnswer status.Done text lines = TellsSound lines text
IsAnswer status.Refused text lines = TellsUnsound lines text
IsAnswer status.BadScript text lines = TellsFault lines text
IsAnswer status.ReadFault text lines = text ≡ read_text
IsAnswer status.NoMemory text lines = text ≡ memory_text
IsAnswer _ text lines = ⊥

-- The answer to a command line with words.
abbrev pub usage_text : List ℕ
usage_text = codes "usage: audit" ++ 10 ∷ []
