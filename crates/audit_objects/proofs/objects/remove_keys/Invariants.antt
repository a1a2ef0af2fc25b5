use Rattle.std.proofs.Common.{◌≡◌, ℕ, List, None, cond, take}
use Rattle.std.specs.FinMap as map
use Rattle.audit_objects.proofs.Places.{is_one_of}
use Rattle.audit_objects.proofs.objects.remove_keys.Given as goal

abbrev pub invariant-loop-key : goal.invariant-loop-key
invariant-loop-key l = (k : List ℕ) → map.get l.held k ≡ cond (is_one_of (take l.key-index l.keys) k) None (map.get l.fn.held k)
