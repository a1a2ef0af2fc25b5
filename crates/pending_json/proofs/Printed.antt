-- Reading the printed text of a tree of numbers and texts gives the tree.
use Rattle.json.proofs.Printed.Decimals.{IsNumber-decimal}
use Rattle.json.proofs.Printed.Tokens.{tokens-print}
use Rattle.json.proofs.Printed.Trees.{ArePrintable-json_tokens, value-json_tokens}
use Rattle.json.proofs.Printed.Utf8.{IsUtf8-are_ascii, IsUtf8-quoted}
use Rattle.json.specs.Lex.{tokens}
use Rattle.json.specs.Print.{quoted}
use Rattle.pending_json.proofs.Parsed.{tree_is}
use Rattle.pending_json.specs.Reading.{tree_read}
use Rattle.serde_json.proofs.Texts.{print-outline}
use Rattle.serde_json.specs.Data.{Data, Items, Members, array, boolean, float, item, member, negative, no_items, no_members, null, number}
use Rattle.serde_json.specs.Data.{object, string, unsigned}
use Rattle.serde_json.specs.Read.{max_depth, of_json}
use Rattle.serde_json.specs.Written.{comma_if, compact_text, items_outline, items_text, members_outline, members_text, outline}
use Rattle.std.proofs.Common.{Bool, Some, ap, decimal, false, option_and_then, refl, sym, true, ℕ, [], ◌++◌, ◌<◌, ◌^◌, ◌∙◌, ◌∷◌, ◌≡◌, ◌≤◌}
use Rattle.std.proofs.lemmas.Fmt.{IsAscii-decimal}
use Rattle.std.proofs.lemmas.List.{append-nil}
use Rattle.std.proofs.lemmas.Str.{IsUtf8-append, IsUtf8-from_ascii}
use Rattle.std.specs.Prelude.{⊤}
use Rattle.std.specs.Str.{IsUtf8}
use Rattle.json.specs.Json as js
use Rattle.json.specs.Tree as tr

-- Holds if the tree has only texts and whole numbers below 2^64.
abbrev mutual
  pub Plain : Data → Type 0
  Plain null = ⊥
  Plain (boolean b) = ⊥
  Plain (number (unsigned n)) = n < 2 ^ 64
  Plain (number (negative z)) = ⊥
  Plain (number (float x)) = ⊥
  Plain (string s) = IsUtf8 s
  Plain (array ds) = PlainItems ds
  Plain (object ms) = PlainMembers ms

  pub PlainItems : Items → Type 0
  PlainItems no_items = ⊤
  PlainItems (item d ds) = Plain d × PlainItems ds

  pub PlainMembers : Members → Type 0
  PlainMembers no_members = ⊤
  PlainMembers (member k d ms) = IsUtf8 k × Plain d × PlainMembers ms

mutual
  numbers : (d : Data) → Plain d → tr.HasNumbers (outline d)
  numbers null h = absurd h
  numbers (boolean b) h = absurd h
  numbers (number (unsigned n)) h = IsNumber-decimal n h
  numbers (number (negative z)) h = absurd h
  numbers (number (float x)) h = absurd h
  numbers (string s) h = tt
  numbers (array ds) h = items_numbers ds h
  numbers (object ms) h = members_numbers ms h

  items_numbers : (ds : Items) → PlainItems ds → tr.ItemsHaveNumbers (items_outline ds)
  items_numbers no_items h = tt
  items_numbers (item d ds) h = (numbers d h.0, items_numbers ds h.1)

  members_numbers : (ms : Members) → PlainMembers ms → tr.MembersHaveNumbers (members_outline ms)
  members_numbers no_members h = tt
  members_numbers (member k d ms) h = (numbers d h.1, members_numbers ms h.2)

decimal_utf8 : (n : ℕ) → n < 2 ^ 64 → IsUtf8 (decimal n)
decimal_utf8 n h = IsUtf8-from_ascii (decimal n) (IsAscii-decimal n h)

comma_utf8 : (later : Bool) → IsUtf8 (comma_if later)
comma_utf8 true = IsUtf8-are_ascii (44 ∷ []) refl
comma_utf8 false = IsUtf8-are_ascii [] refl

mutual
  text_utf8 : (d : Data) → Plain d → IsUtf8 (compact_text d)
  text_utf8 null h = absurd h
  text_utf8 (boolean b) h = absurd h
  text_utf8 (number (unsigned n)) h = decimal_utf8 n h
  text_utf8 (number (negative z)) h = absurd h
  text_utf8 (number (float x)) h = absurd h
  text_utf8 (string s) h = IsUtf8-quoted s h
  text_utf8 (array ds) h = IsUtf8-append (91 ∷ []) (items_text false ds) (IsUtf8-are_ascii (91 ∷ []) refl) (items_utf8 false ds h)
  text_utf8 (object ms) h = IsUtf8-append (123 ∷ []) (members_text false ms) (IsUtf8-are_ascii (123 ∷ []) refl) (members_utf8 false ms h)

  items_utf8 : (later : Bool) (ds : Items) → PlainItems ds → IsUtf8 (items_text later ds)
  items_utf8 later no_items h = IsUtf8-are_ascii (93 ∷ []) refl
  items_utf8 later (item d ds) h = IsUtf8-append (comma_if later) (compact_text d ++ items_text true ds) (comma_utf8 later)
      (IsUtf8-append (compact_text d) (items_text true ds) (text_utf8 d h.0) (items_utf8 true ds h.1))

  members_utf8 : (later : Bool) (ms : Members) → PlainMembers ms → IsUtf8 (members_text later ms)
  members_utf8 later no_members h = IsUtf8-are_ascii (125 ∷ []) refl
  members_utf8 later (member k d ms) h = IsUtf8-append (comma_if later) (quoted k ++ 58 ∷ (compact_text d ++ members_text true ms))
      (comma_utf8 later)
      (IsUtf8-append (quoted k) (58 ∷ (compact_text d ++ members_text true ms)) (IsUtf8-quoted k h.0)
      (IsUtf8-append (58 ∷ []) (compact_text d ++ members_text true ms) (IsUtf8-are_ascii (58 ∷ []) refl)
      (IsUtf8-append (compact_text d) (members_text true ms) (text_utf8 d h.1) (members_utf8 true ms h.2))))

pub printed_is_read : (d : Data) → Plain d → tr.depth (outline d) ≤ max_depth → of_json (outline d) ≡ Some d
    → tree_read (compact_text d) ≡ Some d
printed_is_read d plain deep back =
    let j = outline d in
    let same : tokens (compact_text d) ≡ tr.json_tokens j = ap tokens (sym (print-outline d)) ∙ tokens-print (tr.json_tokens j)
    (ArePrintable-json_tokens j (numbers d plain)) in
    let taken : js.value max_depth (tokens (compact_text d)) ≡ Some (j, []) = ap (js.value max_depth)
    (same ∙ sym (append-nil (tr.json_tokens j))) ∙ value-json_tokens j max_depth [] deep in
    tree_is (compact_text d) d (text_utf8 d plain) (ap (λ o. option_and_then of_json (option_and_then (λ q. js.if_last q.0 q.1) o)) taken ∙
    back)
