use Rattle.pending_json.specs.Fields.{only_fields}
use Rattle.pending_json.specs.Reading.{is_field_of}
use Rattle.serde_json.specs.View.{members_view}
use Rattle.std.proofs.Common.{◌≡◌}
use Rattle.pending_json.proofs.table.no_others.Given as goal

abbrev pub invariant-loop-name : goal.invariant-loop-name
invariant-loop-name l = only_fields (is_field_of l.table) (members_view l.name-iterator) ≡ only_fields (is_field_of l.table)
    (members_view l.members.entries)
