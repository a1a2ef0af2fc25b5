use Rattle.machine.specs.Tries.{IsFaultBy, Tried}
use Rattle.machine.specs.Turns.{retried}
use Rattle.machine.specs.declared.driving.DriveStop.{DriveStop}
use Rattle.machine.specs.declared.retrying.Retrying.{Retrying}
use Rattle.operations.proofs.Few.{few_of, none_few}
use Rattle.operations.proofs.Runs.{given, left_calm, literal_err, literal_ok, nothing_done, performed, ready_start, tried_err, tried_ok}
use Rattle.operations.specs.Operations.{after, wanted}
use Rattle.operations.specs.declared.operation.OperationStage.{OperationStage}
use Rattle.retries.specs.Operation.{Follows}
use Rattle.retries.specs.Retries.{Retried, fresh, step, wants_of}
use Rattle.s3_types.specs.declared.journal.Entry.{Entry}
use Rattle.std.proofs.Common.{Err, List, Ok, Result, ap, refl, subst, sym, ℕ, ◌∙◌, ◌≡◌}
use Rattle.operations.proofs.performing.perform.Goals as goal

pub returns-in-Err-clause-performed : goal.returns-in-Err-clause-performed
returns-in-Err-clause-performed g c = nothing_done c.laws.ensures.course c.args.plan _ _ c.args.actor c.args.event c.args.retries _ _ _ _
    c.requires.starts

pub drive-driven-requires-clause-ready : goal.drive-driven-requires-clause-ready
drive-driven-requires-clause-ready g c =
    ready_start c.laws.ensures.course c.args.plan _ c.requires.starts _ (ap (λ (t : Retried _). t.operation) c.new-retrying.ensures.unsent ∙
    c.in-Ok.ensures) _ refl _ (ap (λ (t : Retried _). t.repeated) c.new-retrying.ensures.unsent)

pub returns-in-Ok-answer_of-clause-given : goal.returns-in-Ok-answer_of-clause-given
returns-in-Ok-answer_of-clause-given g c =
    let d = c.drive-driven.ensures.drove in
    let h = rw c.in-Ok-answer_of.ensures.driven at d.ended in
    given c.laws.ensures.course c.args.plan _ c.new-retrying.result c.drive-driven.new.machine _ d.part _
    (ap (λ (t : Retried _). t.operation) c.new-retrying.ensures.unsent ∙ c.in-Ok.ensures)
    (ap (λ (t : Retried _). t.repeated) c.new-retrying.ensures.unsent) c.requires.starts d.is_run.follows d.is_run.honest h.there
    d.is_run.scene
    (sym c.into_inner.ensures ∙ sym c.into_stage-stage.ensures ∙ c.in-Ok-answer_of.ensures.answer)

pub returns-in-Ok-answer_of-clause-answered : goal.returns-in-Ok-answer_of-clause-answered
returns-in-Ok-answer_of-clause-answered g c = λ part e a.
    let d = c.drive-driven.ensures.drove in
    let h = rw c.in-Ok-answer_of.ensures.driven at d.ended in
    left_calm c.laws.ensures.calms c.args.plan _ c.new-retrying.result c.drive-driven.new.machine _ _ _ part d.part _
    (ap (λ (t : Retried _). t.operation) c.new-retrying.ensures.unsent ∙ c.in-Ok.ensures)
    (ap (λ (t : Retried _). t.repeated) c.new-retrying.ensures.unsent) c.requires.starts d.is_run.follows d.is_run.honest h.there
    d.is_run.scene
    (sym c.into_inner.ensures ∙ sym c.into_stage-stage.ensures ∙ c.in-Ok-answer_of.ensures.answer) d.appended e a

-- The machine that was driven is the new one.
tried_new : {P A : Type 0} (t : Retrying (OperationStage P A)) (m : OperationStage P A) (retries : ℕ) (part : List Entry)
    (r : Result (Unit {0}) DriveStop)
    → retried t ≡ fresh retries m → t.retries ≡ retries → Tried t.retries t.spare part r → Tried retries retries part r
tried_new {P = P} {A = A} t m retries part r e n h = subst (λ (k : ℕ). Tried retries k part r)
    (ap (λ (t : Retried (OperationStage P A)). t.spare) e)
    (subst (λ (k : ℕ). Tried k t.spare part r) n h)

literal_new : {P A : Type 0} (t : Retrying (OperationStage P A)) (m : OperationStage P A) (retries : ℕ) (part : List Entry)
    (r : Result (Unit {0}) DriveStop)
    → retried t ≡ fresh retries m → t.retries ≡ retries → (retried t ≡ fresh t.retries t.machine → IsFaultBy t.retries part r)
    → IsFaultBy retries part r
literal_new {P = P} {A = A} t m retries part r e n h =
    subst (λ (k : ℕ). IsFaultBy k part r) n (h (e ∙ ap (λ (k : ℕ). fresh k m) (sym n) ∙ ap (fresh t.retries)
    (sym (ap (λ (t : Retried (OperationStage P A)). t.operation) e))))

pub returns-in-Ok-answer_of-clause-performed : goal.returns-in-Ok-answer_of-clause-performed
returns-in-Ok-answer_of-clause-performed g c =
    let d = c.drive-driven.ensures.drove in
    performed c.laws.ensures.course c.args.plan _ g.P.Plan.sends c.laws.ensures.asked (Ok c.in-Ok-answer_of.answer) _ _ c.args.retries _ _ _
    _ d.part _ _ _ _ _ _ (ap (λ (t : Retried _). t.operation) c.new-retrying.ensures.unsent ∙ c.in-Ok.ensures)
    (ap (λ (t : Retried _). t.repeated) c.new-retrying.ensures.unsent) c.requires.starts d.is_run d.appended d.foretold
    (tried_ok c.args.retries c.args.retries d.part _ _ _ c.in-Ok-answer_of.ensures.driven
    (tried_new _ _ c.args.retries d.part _ c.new-retrying.ensures.unsent c.new-retrying.ensures.retries d.tried))
    (literal_ok c.args.retries d.part _ _ c.in-Ok-answer_of.answer c.in-Ok-answer_of.ensures.driven
    (literal_new _ _ c.args.retries d.part _ c.new-retrying.ensures.unsent c.new-retrying.ensures.retries d.literal))
    c.drive-driven.ensures.counts

pub returns-in-Err-answer_of-clause-performed : goal.returns-in-Err-answer_of-clause-performed
returns-in-Err-answer_of-clause-performed g c =
    let d = c.drive-driven.ensures.drove in
    performed c.laws.ensures.course c.args.plan _ g.P.Plan.sends c.laws.ensures.asked (Err c.in-Err-answer_of.stop) _ _ c.args.retries _ _ _
    _ d.part _ _ _ _ _ _ (ap (λ (t : Retried _). t.operation) c.new-retrying.ensures.unsent ∙ c.in-Ok.ensures)
    (ap (λ (t : Retried _). t.repeated) c.new-retrying.ensures.unsent) c.requires.starts d.is_run d.appended d.foretold
    (tried_err c.args.retries c.args.retries d.part _ _ (λ e. c.in-Err-answer_of.ensures.fault (ap Err e))
    (tried_new _ _ c.args.retries d.part _ c.new-retrying.ensures.unsent c.new-retrying.ensures.retries d.tried))
    (literal_err c.args.retries d.part _ _ (λ e. c.in-Err-answer_of.ensures.fault (ap Err e))
    (literal_new _ _ c.args.retries d.part _ c.new-retrying.ensures.unsent c.new-retrying.ensures.retries d.literal))
    c.drive-driven.ensures.counts

pub returns-in-Err-clause-few : goal.returns-in-Err-clause-few
returns-in-Err-clause-few g c = λ part e. none_few _ part _ e

pub returns-in-Ok-answer_of-clause-few : goal.returns-in-Ok-answer_of-clause-few
returns-in-Ok-answer_of-clause-few g c = λ part e.
    let d = c.drive-driven.ensures.drove in
    few_of c.laws.ensures.course c.args.plan _ c.args.retries _ c.in-Ok.ensures c.requires.starts _ c.new-retrying.ensures.unsent d.part
    (subst (λ (k : ℕ). Follows (wants_of (wanted g.P.Plan.asks)) (step k (after g.P.Plan.goes)) (retried c.new-retrying.result) d.part)
    c.new-retrying.ensures.retries d.is_run.follows) d.is_run.honest _ _ part d.appended e

pub returns-in-Err-answer_of-clause-few : goal.returns-in-Err-answer_of-clause-few
returns-in-Err-answer_of-clause-few g c = λ part e.
    let d = c.drive-driven.ensures.drove in
    few_of c.laws.ensures.course c.args.plan _ c.args.retries _ c.in-Ok.ensures c.requires.starts _ c.new-retrying.ensures.unsent d.part
    (subst (λ (k : ℕ). Follows (wants_of (wanted g.P.Plan.asks)) (step k (after g.P.Plan.goes)) (retried c.new-retrying.result) d.part)
    c.new-retrying.ensures.retries d.is_run.follows) d.is_run.honest _ _ part d.appended e
