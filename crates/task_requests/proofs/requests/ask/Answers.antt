use Rattle.s3_types.specs.declared.request.Request.{Request}
use Rattle.std.proofs.Common.{Some, ap, ◌∙◌}
use Rattle.task_requests.proofs.Steps.{creating_asked, marking_asked, nothing_asked, recording_asked, recording_sent, sending_asked}
use Rattle.task_requests.proofs.Steps.{sending_behind}
use Rattle.task_requests.proofs.requests.ask.Goals.{in-Creating+in_ok-asked-in-Creating, in-Marking+in_ok-asked-in-Marking}
use Rattle.task_requests.proofs.requests.ask.Goals.{in-Recording+in_ok-asked-in-Recording, in-Sending+in_ok-asked-in-Sending}
use Rattle.task_requests.proofs.requests.ask.Goals as goal

pub returns-in_default : goal.returns-in_default
returns-in_default c = nothing_asked c.args.plan.now c.args.place c.args.stage (λ f. (f.0.now, f.1.now)) c.file_at.result
    c.file_at.ensures.file c.in_default.not-Some

pub ask_behind-requires-clause-within : goal.ask_behind-requires-clause-within
ask_behind-requires-clause-within c = sending_behind c.args.plan.now c.args.place c.in-Sending.sent
    (c.in-Some.path.now, c.in-Some.bytes.now) c.args.stage c.in-Sending.is c.in-Some.ensures.file c.requires.holds

pub ask_record-requires-clause-sent : goal.ask_record-requires-clause-sent
ask_record-requires-clause-sent c = recording_sent c.args.plan.now c.args.place (c.in-Some.path.now, c.in-Some.bytes.now) c.args.stage
    c.in-Recording.is c.in-Some.ensures.file c.requires.holds

pub returns : goal.returns
returns c = elim c.match-stage.branch [
  | in-Creating+in_ok-asked-in-Creating w ↦ ap (λ (r : Request). Some r) (w.asked-is ∙ w.in_ok-asked-in-Creating.ensures) ∙ creating_asked
      c.args.plan.now c.args.place (c.in-Some.path.now, c.in-Some.bytes.now) c.args.stage w.in-Creating.is c.in-Some.ensures.file
  | in-Sending+in_ok-asked-in-Sending w ↦ ap (λ (r : Request). Some r) (w.asked-is ∙ w.in_ok-asked-in-Sending.ensures) ∙ sending_asked
      c.args.plan.now c.args.place w.in-Sending.sent (c.in-Some.path.now, c.in-Some.bytes.now) c.args.stage w.in-Sending.is
      c.in-Some.ensures.file c.requires.holds
  | in-Marking+in_ok-asked-in-Marking w ↦ ap (λ (r : Request). Some r) (w.asked-is ∙ w.in_ok-asked-in-Marking.ensures) ∙ marking_asked
      c.args.plan.now c.args.place (c.in-Some.path.now, c.in-Some.bytes.now) c.args.stage w.in-Marking.is c.in-Some.ensures.file
  | in-Recording+in_ok-asked-in-Recording w ↦ ap (λ (r : Request). Some r) (w.asked-is ∙ w.in_ok-asked-in-Recording.ensures) ∙
      recording_asked c.args.plan.now c.args.place (c.in-Some.path.now, c.in-Some.bytes.now) c.args.stage w.in-Recording.is
      c.in-Some.ensures.file
]
