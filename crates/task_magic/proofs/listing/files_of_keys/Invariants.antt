use Rattle.std.proofs.Common.{take}
use Rattle.task_magic.specs.inner.Committing.{IsListed}
use Rattle.task_magic.proofs.listing.files_of_keys.Given as goal

abbrev pub invariant-loop-key : goal.invariant-loop-key
invariant-loop-key l = IsListed l.plan (take l.key-index l.keys) l.listed
