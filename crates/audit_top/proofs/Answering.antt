-- The answers to the results of a trace's lines.
use Rattle.std.proofs.Common.{Err, IfOk, List, None, Ok, OnErr, Option, Result, Some, [], ap, inl, length, min, refl, subst, sym}
use Rattle.std.proofs.Common.{ℕ, ◌+◌, ◌++◌, ◌-◌, ◌^◌, ◌∙◌, ◌∷◌, ◌≡◌}
use Rattle.std.proofs.lemmas.List.{append_assoc}
use Rattle.audit_judge.specs.declared.reason.Reason.{Reason}
use Rattle.audit_model.specs.Answers.{IsFaulty, IsLeast, IsUnsound}
use Rattle.audit_model.specs.Moments.{marker_of}
use Rattle.audit_model.specs.Recorded.{Recorded}
use Rattle.audit_text.specs.Answer.{fault_text, sound_text, unsound_text}
use Rattle.audit_text.specs.declared.sound.Pick.{Pick}
use Rattle.audit_top.specs.Answer.{AreLeast, ArePicks, IsAnswer, TellsFault, TellsSound, TellsUnsound}
use Rattle.audit_top.specs.Progress.{AreLines, OfLines}
use Rattle.auditor.proofs.Taking.{sound_so_far}
use Rattle.auditor.specs.AuditState.{AuditState, Tells}
use Rattle.auditor.specs.SoFar.{IsTold}
use Rattle.exit_status.specs.Statuses.{memory_text}
use Rattle.exit_status.specs.declared.statuses.Status.{Status}
use Rattle.exit_status.specs.declared.statuses.Status.TheVariants as status
use Rattle.line_input.specs.LinesOf.{lines_of}
use Rattle.soundness.specs.declared.marker.Marker.{Marker}
use Rattle.trace_reader.specs.declared.fault.TraceFault.{TraceFault}
use Rattle.trace_reader.specs.declared.fault.TraceFault.TheVariants.{OutOfOrder}

-- The input has some lines.
pub some_lines : (left : Option (List ℕ)) → (lines : List (List ℕ)) × AreLines left lines
some_lines None = ([], tt)
some_lines (Some text) = (lines_of text, refl)

-- A text that was composed is the right answer.
pub answered : {A E : Type 0} (bytes : A → List ℕ) (x : Result A E) (due given : Status) (text : List ℕ) (lines : List (List ℕ))
    → IfOk x (λ t. (given ≡ due) × (text ≡ bytes t)) → OnErr x ((given ≡ status.NoMemory) × (text ≡ memory_text))
    → IfOk x (λ t. IsAnswer due (bytes t) lines) → IsAnswer given text lines
answered bytes (Ok t) due given text lines ok err h =
    subst (λ d. IsAnswer d text lines) (sym ok.0) (subst (λ (l : List ℕ). IsAnswer due l lines) (sym ok.1) h)
answered bytes (Err e) due given text lines ok err h = subst (λ d. IsAnswer d text lines) (sym err.0) err.1

-- A fact about a text leads to another.
pub if_made : {A E : Type 0} (x : Result A E) (P Q : A → Type 0) → ((t : A) → P t → Q t) → IfOk x P → IfOk x Q
if_made (Ok t) P Q f h = f t h
if_made (Err e) P Q f h = tt

pub tells_sound : (h : AuditState) (all : List (List ℕ)) (t : IsTold h all) (n changes : ℕ) (marker : Marker) (picks : List Pick)
    (text : List ℕ)
    → n ≡ length all → changes ≡ min t.said.changes (2 ^ 64 - 1) → marker ≡ marker_of t.said → ArePicks marker all t.said picks
    → text ≡ sound_text n changes marker picks → TellsSound all text
tells_sound h all t n changes marker picks text count c m are is = record {
  said = t.said;
  sound = sound_so_far h all t;
  picks = picks;
  are = subst (λ k. ArePicks k all t.said picks) m are;
  text_is = is ∙ (λ i. sound_text (count i) (c i) (m i) picks);
}

pub tells_unsound : (lines : List (List ℕ)) (number : ℕ) (reason : Reason) (text : List ℕ) → IsUnsound lines number reason
    → text ≡ unsound_text number reason → TellsUnsound lines text
tells_unsound lines number reason text u is = record { number = number; reason = reason; unsound = u; text_is = is }

pub tells_fault : (lines : List (List ℕ)) (number : ℕ) (fault : TraceFault) (text : List ℕ) → IsFaulty lines number fault
    → text ≡ fault_text number fault → TellsFault lines text
tells_fault lines number fault text f is = record { number = number; fault = fault; faulty = f; text_is = is }

-- A trace without a line.
pub no_line : (lines : List (List ℕ)) → lines ≡ [] → IsFaulty lines 0 OutOfOrder
no_line lines none = subst (λ (l : List (List ℕ)). IsFaulty l 0 OutOfOrder) (sym none) (record {
  before = [];
  said = None;
  no_fault = refl;
  safe = tt;
  faulty = inl (refl, refl, refl, refl);
})

-- ---- the picks, task by task

-- The attempts so far are the least ones of the tasks before this one.
LeastSo : AuditState → (task : ℕ) → List Pick → Type 0
LeastSo h task picks = (lines : List (List ℕ)) (t : IsTold h lines) (rest : List Pick)
    → AreLeast lines t.said task rest → AreLeast lines t.said 0 (picks ++ rest)

pub one_pick : (h : AuditState) (lines : List (List ℕ)) (t : IsTold h lines) (task attempt : ℕ) (picks more : List Pick)
    → ((rest : List Pick) → AreLeast lines t.said task rest → AreLeast lines t.said 0 (picks ++ rest))
    → IsLeast lines t.said task attempt → more ≡ picks ++ record { task = task; attempt = attempt } ∷ []
    → (rest : List Pick) → AreLeast lines t.said (task + 1) rest → AreLeast lines t.said 0 (more ++ rest)
one_pick h lines t task attempt picks more so least is rest others =
    subst (λ (l : List Pick). AreLeast lines t.said 0 l)
    (sym (ap (λ (l : List Pick). l ++ rest) is ∙ append_assoc picks (record { task = task; attempt = attempt } ∷ []) rest))
    (so (record { task = task; attempt = attempt } ∷ rest) (refl, least, others))
