use Rattle.job_model.specs.Files.{File}
use Rattle.std.proofs.Common.{ap, subst, sym}
use Rattle.task_requests.proofs.Steps.{file_is, ok_as}
use Rattle.task_requests.specs.Writing.{IsBehind, asks_behind, parts_in}
use Rattle.task_requests.specs.declared.stage.WriteStage.TheVariants as write_stages
use Rattle.task_staging.proofs.requests.part_request.Goals as goal

pub ask_next-requires-clause-within : goal.ask_next-requires-clause-within
ask_next-requires-clause-within c =
    let t = c.args.plan.now in
    subst (λ (f : File). IsBehind (parts_in t f) t.known.drawn (write_stages.Sending c.args.sent))
    (sym (file_is t c.args.place (c.in-Some.path.now, c.in-Some.bytes.now) c.in-Some.ensures.file)) c.requires.behind

pub returns : goal.returns
returns c =
    let t = c.args.plan.now in
    ok_as c.ask_next.result _ _ c.ask_next.ensures (ap (λ (f : File). asks_behind t f (write_stages.Sending c.args.sent))
    (file_is t c.args.place (c.in-Some.path.now, c.in-Some.bytes.now) c.in-Some.ensures.file))
