use Rattle.magic_paths.specs.Places.{is_record}
use Rattle.std.proofs.Common.{drop, ◌++◌, ◌≡◌}
use Rattle.std.specs.List.{filter}
use Rattle.cleanup.proofs.names.records_in.Given as goal

-- The records so far and those that are left are all records.
abbrev pub invariant-loop-key : goal.invariant-loop-key
invariant-loop-key l = l.records ++ filter is_record (drop l.key-index l.keys) ≡ filter is_record l.keys
