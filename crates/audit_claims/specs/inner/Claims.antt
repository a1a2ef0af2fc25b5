-- Definitions beside those of `Claims` that no public contract cites.
use Rattle.audit_claims.specs.Claims.{Tags}
use Rattle.judging.specs.Listed.{Listed, numbered, owner}
use Rattle.std.specs.Map.{lookup}
use Rattle.std.specs.Prelude.{List, length, ℕ, ◌<◌, ◌≡◌}
use Rattle.text_and_lists.specs.Order.{text_eq}

-- The index maps each path to the task that owns it. If attempts are listed, the task of the last one has an attempt.
pub record IsIndexed (listed : Listed Tags) (index : List (List ℕ × ℕ)) (current : ℕ) : Type 0 where
  pub owners : (p : List ℕ) → lookup (text_eq p) index ≡ owner p listed
  pub some : 0 < length listed → 0 < length (numbered current listed)
