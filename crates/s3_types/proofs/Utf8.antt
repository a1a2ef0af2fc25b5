-- Bytes that are UTF-8.
use Rattle.s3_types.specs.Names.{is_bucket, is_name_byte}
use Rattle.s3_types.specs.Tags.{is_hex}
use Rattle.std.proofs.Common.{Bool, List, arith, false, refl, true, ℕ, [], ◌<◌, ◌∷◌, ◌≡◌}
use Rattle.std.proofs.lemmas.Bool.{and_parts}
use Rattle.std.proofs.lemmas.Str.{IsUtf8-from_ascii, IsUtf8-from_is_utf8, is_utf8-from_IsUtf8}
use Rattle.std.proofs.lemmas.Str.Ascii.{IsAscii-cons, IsAscii-nil}
use Rattle.std.specs.List.{list_all}
use Rattle.std.specs.Str.{IsAscii, IsUtf8, is_utf8}

-- Bytes that are not UTF-8 do not pass the test.
pub not_utf8 : (bs : List ℕ) → ¬ (IsUtf8 bs) → is_utf8 bs ≡ false
not_utf8 bs n = by (is_utf8 bs) refl
  where
    by : (b : Bool) → is_utf8 bs ≡ b → b ≡ false
    by true e = absurd (n (IsUtf8-from_is_utf8 bs e))
    by false e = refl

name_byte_small : (b : ℕ) → is_name_byte b ≡ true → b < 128
name_byte_small b h = grind arith

all_small : (bs : List ℕ) → list_all is_name_byte bs ≡ true → IsAscii bs
all_small [] h = IsAscii-nil
all_small (b ∷ bs) h = let p = and_parts (is_name_byte b) _ h in IsAscii-cons b bs (name_byte_small b p.0) (all_small bs p.1)

-- A bucket's name is ASCII, so it is UTF-8.
pub bucket_utf8 : (bs : List ℕ) → is_bucket bs ≡ true → is_utf8 bs ≡ true
bucket_utf8 bs h =
    let most = and_parts _ _ (and_parts _ _ h).0 in
    is_utf8-from_IsUtf8 bs (IsUtf8-from_ascii bs (all_small bs (and_parts _ _ most.0).1))

hex_small : (b : ℕ) → is_hex b ≡ true → b < 128
hex_small b h = grind arith

all_hex_small : (bs : List ℕ) → list_all is_hex bs ≡ true → IsAscii bs
all_hex_small [] h = IsAscii-nil
all_hex_small (b ∷ bs) h = let p = and_parts (is_hex b) _ h in IsAscii-cons b bs (hex_small b p.0) (all_hex_small bs p.1)

-- Hex digits are UTF-8.
pub hex_utf8 : (bs : List ℕ) → list_all is_hex bs ≡ true → IsUtf8 bs
hex_utf8 bs h = IsUtf8-from_ascii bs (all_hex_small bs h)
