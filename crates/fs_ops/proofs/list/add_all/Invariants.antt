use Rattle.fs_ops.specs.code.List.{all_added, last_text}
use Rattle.std.proofs.Common.{drop, ◌≡◌}
use Rattle.fs_ops.proofs.list.add_all.Given as goal

-- What was found and the entries that are left make all children.
abbrev pub invariant-loop-entry : goal.invariant-loop-entry
invariant-loop-entry l = record {
  told : all_added l.prefix l.found (drop l.entry-index l.entries) ≡ all_added l.fn.prefix l.fn.found l.entries;
  marked : last_text l.mark (drop l.entry-index l.entries) ≡ last_text l.fn.mark l.entries;
}
