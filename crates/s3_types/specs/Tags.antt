-- Tags of objects and parts (Amazon S3, common response headers: ETag).
use Rattle.hex.specs.Hex.{decode_of, encode_lower}
use Rattle.md5.specs.Md5.{md5}
use Rattle.std.specs.List.{flat_map, list_all}
use Rattle.std.specs.Prelude.{Bool, List, length, nat_eq, nat_le, ℕ, [], ◌&&◌, ◌||◌}
use Rattle.std.specs.Result.{result_unwrap_or}

-- A tag, by its hex digits and its number of parts.
pub record Spelled : Type 0 where
  pub digits : List ℕ
  pub parts : ℕ

-- A lower-case hex digit.
abbrev pub is_hex : ℕ → Bool
is_hex b = (nat_le 48 b && nat_le b 57) || (nat_le 97 b && nat_le b 102)

-- The tag of a put or of a part: the MD5 digest of its bytes.
unfoldable pub plain_tag : List ℕ → Spelled
plain_tag bytes = record { digits = encode_lower (md5 bytes); parts = 0 }

-- The 16 bytes that the digits of a tag spell.
unfoldable pub digest_of : Spelled → List ℕ
digest_of tag = result_unwrap_or (decode_of tag.digits) []

-- The tag of a completed upload: the MD5 digest of its parts' digests joined, and the number of parts.
unfoldable pub joined_tag : List Spelled → Spelled
joined_tag tags = record { digits = encode_lower (md5 (flat_map digest_of tags)); parts = length tags }

-- True if this can be the tag of a put or of a part: 32 hex digits and no count of parts.
abbrev pub is_plain_tag : Spelled → Bool
is_plain_tag tag = nat_eq (length tag.digits) 32 && list_all is_hex tag.digits && nat_eq tag.parts 0
