-- The bytes of a file.
use Rattle.text_and_lists.specs.Numbers.{number_in}
use Rattle.text_and_lists.specs.Reading.{need, ◌>>=◌}
use Rattle.text_and_lists.specs.Shapes.{one, text, two}
use Rattle.hex.specs.Hex.{decode_of}
use Rattle.job_script.specs.declared.fault.ScriptFault.{ScriptFault}
use Rattle.job_script.specs.declared.fault.ScriptFault.TheVariants.{BadLine, BadNumber}
use Rattle.s3_types.specs.declared.limits.TheConstants.{MOST_SCRIPT_BYTES}
use Rattle.std.specs.Prelude.{Err, List, None, Ok, Option, Result, Some, bytes_eq, codes, if◌then◌else◌, length, nat_lt, replicate, ℕ, []}
use Rattle.std.specs.Result.{result_ok}

-- The bytes of hex digits in either case, two digits a byte; `-` means none.
abbrev pub hex_bytes : List ℕ → Option (List ℕ)
hex_bytes digits = if bytes_eq digits (codes "-") then Some [] else (if nat_lt 0 (length digits) then result_ok (decode_of digits) else
    None)

-- The bytes of `text REST`.
unfoldable pub text_at : ℕ → List (List ℕ) → Result (List ℕ) ScriptFault
text_at n words = need (text words) (BadLine n)

-- The bytes of `hex DIGITS`.
unfoldable pub hex_at : ℕ → List (List ℕ) → Result (List ℕ) ScriptFault
hex_at n words = do
  digits ← need (one words) (BadLine n)
  need (hex_bytes digits) (BadLine n)

-- The bytes of `fill N BYTE`.
unfoldable pub fill_at : ℕ → List (List ℕ) → Result (List ℕ) ScriptFault
fill_at n words = do
  numbers ← need (two words) (BadLine n)
  count ← need (number_in 0 MOST_SCRIPT_BYTES numbers.0) (BadNumber n)
  byte ← need (number_in 0 255 numbers.1) (BadNumber n)
  Ok (replicate count byte)

-- The bytes of a form, `text`, `hex` or `fill`, with the words that follow it.
unfoldable pub content_at : ℕ → List ℕ → List (List ℕ) → Result (List ℕ) ScriptFault
content_at n form words = if bytes_eq form (codes "text") then text_at n words else
    (if bytes_eq form (codes "hex") then hex_at n words else (if bytes_eq form (codes "fill") then fill_at n words else Err (BadLine n)))
