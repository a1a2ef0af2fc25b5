-- The fields of a JSON object and their kinds.
use Rattle.text_and_lists.specs.Reading.{◌>>=◌}
use Rattle.pending_json.specs.Committers.{committer_of}
use Rattle.pending_json.specs.Pending.{fit}
use Rattle.pending_json.specs.declared.fault.RecordFault.{RecordFault}
use Rattle.pending_json.specs.declared.fault.RecordFault.TheVariants.{ExtraField, MissingField, WrongKind, WrongVersion}
use Rattle.s3_types.specs.Names.{is_bucket, is_key}
use Rattle.s3_types.specs.Tags.{Spelled, is_hex}
use Rattle.s3_types.specs.declared.limits.TheConstants.{MOST_PARTS}
use Rattle.s3_types.specs.declared.request.Committer.{Committer}
use Rattle.serde_json.specs.Data.{Data, Items, Members, item, member, no_items, no_members}
use Rattle.serde_json.specs.Find.{as_array, as_number, as_object, as_str, as_u64, get}
use Rattle.std.specs.List.{list_all, list_any}
use Rattle.std.specs.Prelude.{Bool, Err, List, None, Ok, Option, Result, Some, bytes_eq, codes, false, if◌then◌else◌, length, nat_le}
use Rattle.std.specs.Prelude.{nat_lt, option_and_then, option_map, true, ℕ, [], ⊤, ◌&&◌, ◌==◌, ◌^◌, ◌∷◌}

-- The value if it is of its field's kind, or WrongKind.
abbrev pub of_kind : {A : Type 0} → List ℕ → Option A → Result A RecordFault
of_kind name None = Err (WrongKind name)
of_kind name (Some x) = Ok x

-- The field if it exists, or MissingField.
abbrev pub present : List ℕ → Option Data → Result Data RecordFault
present name None = Err (MissingField name)
present name (Some d) = Ok d

-- The field if it exists and is of its kind, or the fault.
abbrev pub field : {A : Type 0} → (Data → Option A) → List ℕ → Data → Result A RecordFault
field kind name d = present name (get name d) >>= λ x. of_kind name (kind x)

-- The field if it exists, which must then be of its kind. It may be absent.
abbrev pub of_kind_if : {A : Type 0} → (Data → Option A) → List ℕ → Option Data → Result (Option A) RecordFault
of_kind_if kind name None = Ok None
of_kind_if kind name (Some d) = of_kind name (kind d) >>= λ x. Ok (Some x)

-- x if it passes the test, or none.
abbrev pub kept : {A : Type 0} → (A → Bool) → A → Option A
kept test x = if test x then Some x else None

-- An unsigned whole number below 2^64.
abbrev pub as_whole : Data → Option ℕ
as_whole d = option_and_then as_u64 (as_number d)

-- An unsigned whole number below 2^32.
abbrev pub as_u32 : Data → Option ℕ
as_u32 d = option_and_then (kept (λ n. nat_lt n (2 ^ 32))) (as_whole d)

-- Checks that the value is this text.
abbrev pub as_word : List ℕ → Data → Option ⊤
as_word word d = option_and_then (λ s. if bytes_eq s word then Some tt else None) (as_str d)

-- A bucket's name.
abbrev pub as_bucket : Data → Option (List ℕ)
as_bucket d = option_and_then (kept is_bucket) (as_str d)

-- An object's key.
abbrev pub as_key : Data → Option (List ℕ)
as_key d = option_and_then (kept is_key) (as_str d)

-- A committer.
abbrev pub as_committer : Data → Option Committer
as_committer d = option_and_then committer_of (as_str d)

-- The items, if all are of one kind.
abbrev pub all_of : {A : Type 0} → (Data → Option A) → Items → Option (List A)
all_of kind no_items = Some []
all_of kind (item d ds) = option_and_then (λ x. option_map (λ xs. x ∷ xs) (all_of kind ds)) (kind d)

-- A list of texts.
abbrev pub as_texts : Data → Option (List (List ℕ))
as_texts d = option_and_then (all_of as_str) (as_array d)

-- True if the text has 32 lower-case hex digits.
abbrev pub is_tag_text : List ℕ → Bool
is_tag_text s = length s == 32 && list_all is_hex s

-- The tag of a part with this text, or none.
abbrev pub tag_of : List ℕ → Option Spelled
tag_of s = if is_tag_text s then Some (record { digits = s; parts = 0 }) else None

-- The tag of a part.
abbrev pub as_tag : Data → Option Spelled
as_tag d = option_and_then tag_of (as_str d)

-- True if there are 1 to 10,000 tags.
abbrev pub is_count : List Spelled → Bool
is_count tags = nat_le 1 (length tags) && nat_le (length tags) MOST_PARTS

-- The tags of 1 to 10,000 parts.
abbrev pub as_tags : Data → Option (List Spelled)
as_tags d = option_and_then (λ ds. option_and_then (kept is_count) (all_of as_tag ds)) (as_array d)

-- A list of `count` lengths with the sum `total`.
abbrev pub as_sizes : ℕ → ℕ → Data → Option (List ℕ)
as_sizes count total d = option_and_then (λ ds. option_and_then (kept (λ sizes. fit sizes count total)) (all_of as_whole ds)) (as_array d)

-- The members of an object, or WrongKind with an empty name.
abbrev pub members_in : Data → Result Members RecordFault
members_in d = of_kind [] (as_object d)

-- Checks that the version of the form is 1.
unfoldable pub version_in : Data → Result ⊤ RecordFault
version_in d = do
  version ← field as_whole (codes "version") d
  if version == 1 then Ok tt else Err (WrongVersion version)

-- True if a pending upload has the lengths of its parts, by the version of its form.
unfoldable pub is_sized : Data → Result Bool RecordFault
is_sized d = do
  version ← field as_whole (codes "version") d
  if version == 1 then Ok false else (if version == 2 then Ok true else Err (WrongVersion version))

-- The lengths of the parts, if the form has them.
abbrev pub sizes_in : Bool → ℕ → ℕ → Data → Result (Option (List ℕ)) RecordFault
sizes_in false count total d = Ok None
sizes_in true count total d = field (as_sizes count total) (codes "sizes") d >>= λ sizes. Ok (Some sizes)

-- True if the name is one of these.
abbrev pub is_one_of : List (List ℕ) → List ℕ → Bool
is_one_of names name = list_any (bytes_eq name) names

-- Checks that there are only known fields. Members are in the byte order of their names, so the first other one is the least.
abbrev pub only_fields : (List ℕ → Bool) → Members → Result ⊤ RecordFault
only_fields known no_members = Ok tt
only_fields known (member name d ms) = if known name then only_fields known ms else Err (ExtraField name)
