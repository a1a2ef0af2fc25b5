use Rattle.task_requests.proofs.Steps.{ok_as}
use Rattle.task_staging.proofs.Staged.{asks_file, asks_put}
use Rattle.task_staging.proofs.requests.next_request.Goals as goal

pub returns-in-Some : goal.returns-in-Some
returns-in-Some c = ok_as c.ask_upload.result _ _ c.ask_upload.ensures (asks_file c.args.plan.now c.args.set.now c.args.place
    (c.in-Some.path.now, _) c.in-Some.ensures.file)

pub returns-in-None : goal.returns-in-None
returns-in-None c = ok_as c.store_request.result _ _ c.store_request.ensures (asks_put c.args.plan.now c.args.set.now c.args.place
    c.in-None.ensures.file)
