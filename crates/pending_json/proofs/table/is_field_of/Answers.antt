use Rattle.pending_json.proofs.Candidates.{among}
use Rattle.pending_json.specs.Reading.{field_names}
use Rattle.std.proofs.Common.{◌∙◌}
use Rattle.pending_json.specs.declared.table.Table.TheVariants as tables
use Rattle.pending_json.proofs.table.is_field_of.Goals as goal

pub returns-in-Pending : goal.returns-in-Pending
returns-in-Pending c = rw c.in-Pending.is (c.contains.ensures.value ∙ among (field_names tables.Pending) c.args.name.now)

pub returns-in-SizedPending : goal.returns-in-SizedPending
returns-in-SizedPending c = rw c.in-SizedPending.is (c.contains-in-SizedPending.ensures.value ∙ among (field_names tables.SizedPending)
    c.args.name.now)

pub returns-in-Set : goal.returns-in-Set
returns-in-Set c = rw c.in-Set.is (c.contains-in-Set.ensures.value ∙ among (field_names tables.Set) c.args.name.now)

pub returns-in-Success : goal.returns-in-Success
returns-in-Success c = rw c.in-Success.is (c.contains-in-Success.ensures.value ∙ among (field_names tables.Success) c.args.name.now)
