-- Paths `s3a://BUCKET/KEY` (Hadoop FileSystem specification, paths; Amazon S3, object key names).
use Rattle.text_and_lists.specs.Parts.{parts_of}
use Rattle.text_and_lists.specs.Reading.{need, ◌>>=◌}
use Rattle.path_keys.specs.declared.fault.PathFault.{PathFault}
use Rattle.path_keys.specs.declared.fault.PathFault.TheVariants.{BadBucket, BadScheme, DotElement, EmptyElement, NoMemory, TooLong}
use Rattle.s3_types.specs.Names.{are_elements, is_bucket, is_element, trimmed}
use Rattle.std.specs.List.{join_with_byte, starts_with}
use Rattle.std.specs.Option.{option_or}
use Rattle.std.specs.Prelude.{Bool, Err, List, None, Ok, Option, Result, Some, codes, drop, false, if◌then◌else◌, length, nat_eq, nat_le}
use Rattle.std.specs.Prelude.{true, ℕ, [], ◌&&◌, ◌++◌, ◌==◌, ◌∷◌}
use Rattle.text_and_lists.specs.Reading as reading

-- A path: its bucket and its key. The key is empty at the bucket's root.
pub record Path : Type 0 where
  pub bucket : List ℕ
  pub key : List ℕ

-- True if a path may have this key: it is empty, or elements joined by `/`, with at most 1,023 bytes.
abbrev pub is_key : List ℕ → Bool
is_key [] = true
is_key (x ∷ xs) = are_elements (x ∷ xs) && nat_le (length (x ∷ xs)) 1023

-- Why an element may not be in a key, or None if it may.
abbrev pub element_fault : List ℕ → Option PathFault
element_fault e = if length e == 0 then Some EmptyElement else if is_element e then None else Some DotElement

-- The fault of the first element that may not be in a key.
abbrev pub first_fault : List (List ℕ) → Option PathFault
first_fault [] = None
first_fault (e ∷ es) = option_or (element_fault e) (first_fault es)

-- The fault if there is one; else the key, or TooLong if it has more than 1,023 bytes.
abbrev pub checked : Option PathFault → List ℕ → Result (List ℕ) PathFault
checked (Some fault) key = Err fault
checked None key = if nat_le (length key) 1023 then Ok key else Err TooLong

-- The key of these elements, or its fault.
abbrev pub key_of : List (List ℕ) → Result (List ℕ) PathFault
key_of elements = checked (first_fault elements) (join_with_byte 47 elements)

-- The bucket's name, or BadBucket.
abbrev pub bucket_in : List ℕ → Result (List ℕ) PathFault
bucket_in name = if is_bucket name then Ok name else Err BadBucket

-- The path of a bucket and a key. The bucket's fault comes first.
abbrev pub path_of : Result (List ℕ) PathFault → Result (List ℕ) PathFault → Result Path PathFault
path_of bucket key = do
  b ← bucket
  k ← key
  Ok (record { bucket = b; key = k })

-- The path of these parts: the first names the bucket, the others are the elements of the key.
abbrev pub named : List (List ℕ) → Result Path PathFault
named [] = Err BadBucket
named (name ∷ elements) = path_of (bucket_in name) (key_of elements)

-- The text after `s3a://`, if it begins so.
abbrev pub without_scheme : List ℕ → Option (List ℕ)
without_scheme text = if starts_with nat_eq text (codes "s3a://") then Some (drop 6 text) else None

-- Reads a text as a path: its scheme, then its bucket, then its key. One `/` at the end is dropped.
abbrev pub path_in : List ℕ → Result Path PathFault
path_in text = do
  rest ← need (without_scheme text) BadScheme
  named (parts_of 47 (trimmed rest))

-- The key, a `/` and the relative text; at the root the relative text alone.
abbrev pub below : List ℕ → List ℕ → List ℕ
below [] relative = relative
below (x ∷ xs) relative = (x ∷ xs) ++ 47 ∷ relative

-- The path of a text relative to another path.
abbrev pub joined : Path → List ℕ → Result Path PathFault
joined p relative = path_of (Ok p.bucket) (checked (first_fault (parts_of 47 relative)) (below p.key relative))

-- The elements without the last one.
abbrev pub without_last : List (List ℕ) → List (List ℕ)
without_last (e ∷ f ∷ es) = e ∷ without_last (f ∷ es)
without_last _ = []

-- The path without its last element; None for a root.
abbrev pub parent_of : Path → Option Path
parent_of p = if length p.key == 0 then None else Some (record
    { bucket = p.bucket; key = join_with_byte 47 (without_last (parts_of 47 p.key)) })

-- The rest of a text after the key and a `/`, if it begins so; at the root, the whole text.
abbrev pub relative_in : List ℕ → List ℕ → Option (List ℕ)
relative_in key text = if starts_with nat_eq text (below key []) then Some (drop (length (below key [])) text) else None

-- True if the fault is that memory ran out.
abbrev pub wanting : PathFault → Bool
wanting NoMemory = true
wanting fault = false

-- The call returned what reading gives, unless memory ran out.
abbrev pub Gives : {A : Type 0} → Result A PathFault → Result A PathFault → Type 0
Gives result read = reading.Gives wanting result read
