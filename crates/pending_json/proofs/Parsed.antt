-- The trees that serde_json reads, and the texts that it refuses.
use Rattle.pending_json.specs.Reading.{parsed, tree_read}
use Rattle.pending_json.specs.declared.fault.RecordFault.TheVariants.{NotJson}
use Rattle.serde_json.specs.Data.{Data}
use Rattle.serde_json.specs.Read.{read}
use Rattle.std.proofs.Common.{Bool, Err, List, None, Ok, Option, Some, ap, cond, false, refl, true, ℕ, ◌≡◌}
use Rattle.std.proofs.lemmas.Str.{IsUtf8-from_is_utf8, is_utf8-from_IsUtf8}
use Rattle.std.specs.Str.{IsUtf8, is_utf8}

-- The tree of a text in UTF-8.
pub tree_is : (bytes : List ℕ) (d : Data) → IsUtf8 bytes → read bytes ≡ Some d → tree_read bytes ≡ Some d
tree_is bytes d utf8 e = rw (is_utf8-from_IsUtf8 bytes utf8, e) refl

pub tree_found : (bytes : List ℕ) (d : Data) → IsUtf8 bytes → read bytes ≡ Some d → parsed (tree_read bytes) ≡ Ok d
tree_found bytes d utf8 e = rw (is_utf8-from_IsUtf8 bytes utf8, e) refl

refused_at : (b : Bool) (bytes : List ℕ) (o : Option Data) → is_utf8 bytes ≡ b → (IsUtf8 bytes → o ≡ None) → cond b o None ≡ None
refused_at true bytes o is h = h (IsUtf8-from_is_utf8 bytes is)
refused_at false bytes o is h = refl

pub tree_refused : (bytes : List ℕ) → (IsUtf8 bytes → read bytes ≡ None) → parsed (tree_read bytes) ≡ Err NotJson
tree_refused bytes h = ap parsed (refused_at _ bytes (read bytes) refl h)
