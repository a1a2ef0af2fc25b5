use Rattle.object_store.proofs.Scan.{from}
use Rattle.s3_types.specs.Pages.{stem}
use Rattle.std.proofs.Common.{◌≡◌}
use Rattle.object_store.proofs.page.stem_of.Given as goal

-- The stem is the one that is found from here on.
abbrev pub invariant-loop-i : goal.invariant-loop-i
invariant-loop-i l = stem l.prefix l.text ≡ from l.whole l.i
