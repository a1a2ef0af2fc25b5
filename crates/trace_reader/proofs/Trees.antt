-- The JSON trees that serde_json reads from a line, and the lines that it refuses.
use Rattle.std.proofs.Common.{Bool, Err, List, None, Ok, Option, Some, ap, cond, false, refl, true, ℕ, ◌≡◌}
use Rattle.std.specs.Str.{IsUtf8, is_utf8}
use Rattle.std.proofs.lemmas.Str.{IsUtf8-from_is_utf8, is_utf8-from_IsUtf8}
use Rattle.text_and_lists.specs.Reading.{need}
use Rattle.serde_json.specs.Data.{Data}
use Rattle.serde_json.specs.Read as json
use Rattle.trace_reader.specs.declared.fault.TraceFault.TheVariants.{NotJson}
use Rattle.trace_reader.specs.Reading.{tree_of}

pub tree_found : (bytes : List ℕ) (d : Data) → IsUtf8 bytes → json.read bytes ≡ Some d → need (tree_of bytes) NotJson ≡ Ok d
tree_found bytes d utf8 e = rw (is_utf8-from_IsUtf8 bytes utf8, e) refl

refused_at : (b : Bool) (bytes : List ℕ) (tree : Option Data) → is_utf8 bytes ≡ b → (IsUtf8 bytes → tree ≡ None) → cond b tree None ≡ None
refused_at true bytes tree is h = h (IsUtf8-from_is_utf8 bytes is)
refused_at false bytes tree is h = refl

pub tree_refused : (bytes : List ℕ) → (IsUtf8 bytes → json.read bytes ≡ None) → need (tree_of bytes) NotJson ≡ Err NotJson
tree_refused bytes h = ap (λ (tree : Option Data). need tree NotJson) (refused_at _ bytes (json.read bytes) refl h)
