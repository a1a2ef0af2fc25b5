-- A line of a trace: a JSON object on one line, written compactly, with its members in the byte order of their names.
use Rattle.std.specs.Prelude.{ℕ, List, [], ◌∷◌, ◌++◌, map}
use Rattle.serde_json.specs.Data.{Data, Members, array, no_members, number, object, put, string, unsigned}
use Rattle.serde_json.specs.View.{items_of}
use Rattle.serde_json.specs.Written.{compact_text}
use Rattle.s3_types.specs.Tags.{Spelled}
use Rattle.s3_types.specs.Spelling.{tag_text}

-- A member: its name and its value.
abbrev pub Named : Type 0
Named = List ℕ × Data

-- A whole number.
abbrev pub whole : ℕ → Data
whole n = number (unsigned n)

-- A list of texts.
abbrev pub texts : List (List ℕ) → Data
texts all = array (items_of (map string all))

-- A list of tags, each as S3 writes an ETag, without quotes.
abbrev pub etags : List Spelled → Data
etags tags = texts (map tag_text tags)

-- The members with these put among them, each at its place in the byte order of the names.
abbrev pub put_all : List Named → Members → Members
put_all [] others = others
put_all (m ∷ ms) others = put_all ms (put m.0 m.1 others)

-- The object with these members.
abbrev pub object_of : List Named → Data
object_of members = object (put_all members no_members)

-- The object as a line, which a line feed ends.
abbrev pub line : List Named → List ℕ
line members = compact_text (object_of members) ++ 10 ∷ []
