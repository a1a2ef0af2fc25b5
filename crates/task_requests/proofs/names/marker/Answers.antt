use Rattle.task_requests.proofs.Placed.{named_elements, marker_short}
use Rattle.task_requests.proofs.names.marker.Goals as goal

pub file_key-requires-clause-elements : goal.file_key-requires-clause-elements
file_key-requires-clause-elements c = named_elements c.args.plan.now c.args.path.now c.requires.named

pub file_key-requires-clause-most : goal.file_key-requires-clause-most
file_key-requires-clause-most c = marker_short c.args.plan.now c.args.dir.now c.args.path.now c.requires.named c.requires.dir
