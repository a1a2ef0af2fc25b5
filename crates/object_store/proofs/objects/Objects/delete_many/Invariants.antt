use Rattle.s3_types.specs.Answer.{without}
use Rattle.std.proofs.Common.{drop, ◌≡◌}
use Rattle.object_store.proofs.objects.Objects.delete_many.Given as goal

-- Removing the keys that are left leaves what removing all of them leaves.
abbrev pub invariant-loop-key : goal.invariant-loop-key
invariant-loop-key l = without l.self (drop l.key-index l.keys) ≡ without l.fn.self l.keys
