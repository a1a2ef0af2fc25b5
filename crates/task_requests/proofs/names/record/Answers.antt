use Rattle.task_requests.proofs.Placed.{record_elements, record_short}
use Rattle.task_requests.proofs.names.record.Goals as goal

pub file_key-key-requires-clause-elements : goal.file_key-key-requires-clause-elements
file_key-key-requires-clause-elements c = record_elements c.args.plan.now c.args.path.now c.in_ok-pending.pending c.requires.named
    c.in_ok-pending.ensures

pub file_key-key-requires-clause-most : goal.file_key-key-requires-clause-most
file_key-key-requires-clause-most c = record_short c.args.plan.now c.args.dir.now c.args.path.now c.in_ok-pending.pending c.requires.named
    c.requires.dir c.in_ok-pending.ensures
