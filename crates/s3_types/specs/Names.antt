-- The names of buckets, of objects and of jobs.
use Rattle.text_and_lists.specs.Parts.{parts_of}
use Rattle.s3_types.specs.declared.limits.TheConstants.{MOST_KEY_BYTES}
use Rattle.std.specs.List.{list_all}
use Rattle.std.specs.Prelude.{Bool, List, bytes_eq, codes, if◌then◌else◌, length, nat_eq, nat_le, nat_lt, not, slice_index, take, ℕ, ◌&&◌}
use Rattle.std.specs.Prelude.{◌-◌, ◌==◌, ◌||◌}
use Rattle.std.specs.Str.{is_utf8}

-- True if an element of a key is neither empty nor `.` nor `..`.
abbrev pub is_element : List ℕ → Bool
is_element e = not (length e == 0) && not (bytes_eq e (codes ".")) && not (bytes_eq e (codes ".."))

-- True if all parts of a text between its `/` are such elements.
abbrev pub are_elements : List ℕ → Bool
are_elements path = list_all is_element (parts_of 47 path)

-- The text without one `/` at its end.
abbrev pub trimmed : List ℕ → List ℕ
trimmed path = if nat_lt 0 (length path) && (slice_index path (length path - 1) == 47) then take (length path - 1) path else path

-- True if the text has 1 to 1,024 bytes and is elements joined by `/`, with at most one `/` at the end.
abbrev pub is_key_path : List ℕ → Bool
is_key_path path = nat_le 1 (length path) && nat_le (length path) MOST_KEY_BYTES && are_elements (trimmed path)

-- An object's key: such a text in UTF-8. (Amazon S3, object key names; the rule on elements is this store's own.)
abbrev pub is_key : List ℕ → Bool
is_key text = is_utf8 text && is_key_path text

-- A lower-case letter or a digit.
abbrev pub is_letter_or_digit : ℕ → Bool
is_letter_or_digit b = (nat_le 97 b && nat_le b 122) || (nat_le 48 b && nat_le b 57)

-- A byte that a bucket's name may have.
abbrev pub is_name_byte : ℕ → Bool
is_name_byte b = is_letter_or_digit b || b == 46 || b == 45

-- A bucket's name (Amazon S3, bucket naming rules).
abbrev pub is_bucket : List ℕ → Bool
is_bucket name =
    nat_le 3 (length name) && nat_le (length name) 63 && list_all is_name_byte name
    && is_letter_or_digit (slice_index name 0) && is_letter_or_digit (slice_index name (length name - 1))

-- A letter, a digit, `_` or `-`.
abbrev pub is_id_byte : ℕ → Bool
is_id_byte b = (nat_le 97 b && nat_le b 122) || (nat_le 65 b && nat_le b 90) || (nat_le 48 b && nat_le b 57) || nat_eq b 95 || nat_eq b 45

-- A job's id: 1 to 64 letters, digits, `_` and `-`.
abbrev pub is_job_id : List ℕ → Bool
is_job_id id = nat_le 1 (length id) && nat_le (length id) 64 && list_all is_id_byte id
