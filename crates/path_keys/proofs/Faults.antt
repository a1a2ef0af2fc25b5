-- Faults of a key's elements.
use Rattle.text_and_lists.proofs.Pieces.{join_parts}
use Rattle.text_and_lists.specs.Parts.{parts_of}
use Rattle.path_keys.proofs.Keys.{key_from}
use Rattle.path_keys.specs.Paths.{checked, first_fault, is_key, key_of}
use Rattle.path_keys.specs.declared.fault.PathFault.{PathFault}
use Rattle.path_keys.specs.declared.fault.PathFault.TheVariants.{DotElement, EmptyElement, TooLong}
use Rattle.s3_types.specs.Names.{is_element}
use Rattle.std.proofs.Common.{Bool, Err, List, None, Ok, Option, Some, ap, arith, false, if◌then◌else◌, length, refl, sym, true, ℕ, [], ◌<◌}
use Rattle.std.proofs.Common.{◌==◌, ◌∙◌, ◌∷◌, ◌≡◌, ◌≤◌}
use Rattle.std.specs.List.{list_all}
use Rattle.std.specs.Option.{option_or}

picked : (empty sound : Bool) (other : Option PathFault)
    → option_or (if empty then Some EmptyElement else if sound then None else Some DotElement) other ≡ None → (sound ≡ true)
    × (other ≡ None)
picked true sound other h = absurd (cc)
picked false true other h = (refl, h)
picked false false other h = absurd (cc)

-- If no part has a fault, all are elements.
pub no_fault : (es : List (List ℕ)) → first_fault es ≡ None → list_all is_element es ≡ true
no_fault [] h = refl
no_fault (e ∷ es) h = let first = picked (length e == 0) (is_element e) (first_fault es) h in rw first.0 (no_fault es first.1)

too_long : (key : List ℕ) → 1023 < length key → checked None key ≡ Err TooLong
too_long key h = grind arith

fits : (key : List ℕ) → length key ≤ 1023 → checked None key ≡ Ok key
fits key h = grind arith

-- The key of a text's parts is the text, checked for its first fault.
pub key_of_text : (key : List ℕ) (f : Option PathFault) → f ≡ first_fault (parts_of 47 key) → key_of (parts_of 47 key) ≡ checked f key
key_of_text key f h = ap (checked (first_fault (parts_of 47 key))) (join_parts 47 key) ∙ ap (λ g. checked g key) (sym h)

pub key_is : (key : List ℕ) → None ≡ first_fault (parts_of 47 key) → length key ≤ 1023 → is_key key ≡ true
key_is key h short = key_from key (no_fault (parts_of 47 key) (sym h)) short

pub text_too_long : (key : List ℕ) → None ≡ first_fault (parts_of 47 key) → 1023 < length key → key_of (parts_of 47 key) ≡ Err TooLong
text_too_long key h long = key_of_text key None h ∙ too_long key long

pub text_fits : (key : List ℕ) → None ≡ first_fault (parts_of 47 key) → length key ≤ 1023 → key_of (parts_of 47 key) ≡ Ok key
text_fits key h short = key_of_text key None h ∙ fits key short
