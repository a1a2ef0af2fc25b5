use Rattle.durable_job.proofs.Paces.{adds_rest, falls, fault_is, lacks_at, left_none, pace_begins, pace_ends, pace_on, pace_stops}
use Rattle.durable_job.proofs.Paces.{sent_same, within}
use Rattle.durable_job.specs.Pace.{InPace}
use Rattle.s3_types.specs.declared.journal.Entry.{Entry}
use Rattle.std.proofs.Common.{Err, List, ap, drop, false, inl, inr, length, refl, rules, subst, sym, true, ◌∙◌, ◌≡◌}
use Rattle.durable_job.proofs.events.play_over.Goals as goal

pub steps-init : goal.steps-init
steps-init g c =
    let s = g.F.Shelf in
    let m = g.M.Moves in
    let world = c.args.world.now in
    record {
      origin = refl;
      keeps = g.met.M.Moves.laws.self world;
      pace = pace_begins s.sight (m.origin world) (m.sent world) c.args.shelf.now c.requires.sent c.requires.holds g.met.F.Shelf.timed
          c.requires.durable;
      takes = c.requires.appends;
      calm = refl;
    }

pub append_all-requires-clause-within : goal.append_all-requires-clause-within
append_all-requires-clause-within g c =
    let m = g.M.Moves in
    let is : c.in-Ok-true.field-0 ≡ true = cc in
    within m.sent m.left c.steps.world c.step.new.self c.in-Ok-true.field-0 c.in-Ok-true.ensures.ok is c.journal-journal.result.now.entries
    c.len-from.result (c.len-from.ensures.len ∙ ap length c.journal.ensures) c.journal-journal.ensures

pub steps-preserved : goal.steps-preserved
steps-preserved g c =
    let s = g.F.Shelf in
    let m = g.M.Moves in
    let k = c.steps.invariant in
    let t = c.in-Ok-true.ensures in
    let a = c.in_ok-append_all.ensures in
    let all = c.journal-journal.result.now.entries in
    let is : c.in-Ok-true.field-0 ≡ true = cc in
    let rest = adds_rest m.sent m.left c.steps.world c.step.new.self c.in-Ok-true.field-0 t.ok is all c.len-from.result
    (c.len-from.ensures.len ∙ ap length c.journal.ensures) c.journal-journal.ensures in
    record {
      origin = t.origin ∙ k.origin;
      keeps = g.met.M.Moves.laws.chain c.args.world.now c.steps.world c.step.new.self k.keeps t.keeps;
      pace = pace_on s.sight (m.origin c.args.world.now) (m.sent c.steps.world) (m.sent c.step.new.self) (drop c.len-from.result all)
          c.args.shelf.now c.steps.shelf c.append_all.new.shelf k.pace rest
          (record { grown = a.grown; durable = a.durable; answered = a.answered }) c.append_all.ensures.any_moment;
      takes = a.appends (λ e. cc);
      calm = a.calm (λ e. cc) ∙ k.calm;
    }

pub steps-smaller : goal.steps-smaller
steps-smaller g c =
    let m = g.M.Moves in
    let is : c.in-Ok-true.field-0 ≡ true = cc in
    falls m.sent m.left c.steps.world c.step.new.self c.in-Ok-true.field-0 c.in-Ok-true.ensures.ok is

pub returns-in-Ok-false-clause-ok : goal.returns-in-Ok-false-clause-ok
returns-in-Ok-false-clause-ok g c =
    let s = g.F.Shelf in
    let m = g.M.Moves in
    let is : c.in-Ok-false.field-0 ≡ false = cc in
    let same = sent_same m.sent m.left c.steps.world c.step.new.self c.in-Ok-false.field-0 c.in-Ok-false.ensures.ok is in
    subst (λ (l : List Entry). InPace s.sight (m.origin c.args.world.now) l c.args.shelf.now c.steps.shelf) (sym same)
    c.steps.invariant.pace

pub returns-in-Ok-false-clause-over : goal.returns-in-Ok-false-clause-over
returns-in-Ok-false-clause-over g c =
    let m = g.M.Moves in
    let is : c.in-Ok-false.field-0 ≡ false = cc in
    left_none m.sent m.left c.steps.world c.step.new.self c.in-Ok-false.field-0 c.in-Ok-false.ensures.ok is

pub returns-in-Err-clause-err : goal.returns-in-Err-clause-err
returns-in-Err-clause-err g c =
    let s = g.F.Shelf in
    let m = g.M.Moves in
    pace_stops s.sight (m.origin c.args.world.now) (m.sent c.steps.world) (m.sent c.step.new.self) c.args.shelf.now c.steps.shelf
    c.steps.invariant.pace c.in-Err.ensures.err

pub returns-in_err-append_all-clause-err : goal.returns-in_err-append_all-clause-err
returns-in_err-append_all-clause-err g c =
    let s = g.F.Shelf in
    let m = g.M.Moves in
    let all = c.journal-journal.result.now.entries in
    let is : c.in-Ok-true.field-0 ≡ true = cc in
    let rest = adds_rest m.sent m.left c.steps.world c.step.new.self c.in-Ok-true.field-0 c.in-Ok-true.ensures.ok is all c.len-from.result
    (c.len-from.ensures.len ∙ ap length c.journal.ensures) c.journal-journal.ensures in
    let fault = c.in_err-append_all.field-0.0 in
    let stop : c.from_residual.result ≡ Err fault = search rules in
    rw stop
    (pace_ends s.sight (m.origin c.args.world.now) (m.sent c.steps.world) (m.sent c.step.new.self) (drop c.len-from.result all)
    c.args.shelf.now c.steps.shelf c.append_all.new.shelf fault c.steps.invariant.pace rest
    c.in_err-append_all.ensures.stopped c.append_all.ensures.any_moment)

pub returns-in-Err-clause-short : goal.returns-in-Err-clause-short
returns-in-Err-clause-short g c = λ none. inl c.in-Err.ensures.short

pub returns-in_err-append_all-clause-short : goal.returns-in_err-append_all-clause-short
returns-in_err-append_all-clause-short g c = λ none.
    let s = g.F.Shelf in
    let m = g.M.Moves in
    let all = c.journal-journal.result.now.entries in
    let is : c.in-Ok-true.field-0 ≡ true = cc in
    let rest = adds_rest m.sent m.left c.steps.world c.step.new.self c.in-Ok-true.field-0 c.in-Ok-true.ensures.ok is all c.len-from.result
    (c.len-from.ensures.len ∙ ap length c.journal.ensures) c.journal-journal.ensures in
    let fault = c.in_err-append_all.field-0.0 in
    let stop : c.from_residual.result ≡ Err fault = search rules in
    inr (lacks_at s.sight (m.origin c.args.world.now) (m.sent c.steps.world) (m.sent c.step.new.self) (drop c.len-from.result all)
    c.args.shelf.now c.steps.shelf c.append_all.new.shelf fault (fault_is fault _ stop none) c.steps.invariant.pace rest
    c.in_err-append_all.ensures.stopped)
