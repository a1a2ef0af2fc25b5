-- Steps of reading: each takes a text from the front, and reads again the text that was written.
use Rattle.text_and_lists.proofs.Bytes.{IsBytes, IsReader, IsWide, Takes, Takes-then, front_again, front_takes, wide64}
use Rattle.text_and_lists.proofs.Reading.{parted, same_ok}
use Rattle.text_and_lists.specs.Reading.{◌>>=◌}
use Rattle.std.proofs.Common.{List, Ok, ap, append_assoc, arith, length, refl, subst, sym, ℕ, ◌++◌, ◌+◌, ◌<◌, ◌^◌, ◌∙◌, ◌≡◌}
use Rattle.std.proofs.lemmas.List.{length-append}
use Rattle.std.specs.Int.{Width, byte_len, from_be_bytes, to_be_bytes, w64}
use Rattle.store_image.specs.Content.{IsPart}
use Rattle.store_image.specs.Image.{block}
use Rattle.store_image.specs.Reading.{Read, block_at, bytes_at, number_at, place}
use Rattle.store_image.specs.declared.fault.ImageFault.TheVariants.{Short}

-- ---- bytes

pub bytes_take : (whole n : ℕ) (bytes text rest : List ℕ) → IsBytes bytes → bytes_at whole n bytes ≡ Ok (text, rest) → Takes bytes text rest
    × (length text ≡ n) × IsBytes text
unfolding bytes_at
bytes_take whole n bytes text rest fits e = front_takes (Short (place whole bytes)) n bytes text rest fits e

pub bytes_again : (whole : ℕ) (text rest : List ℕ) → bytes_at whole (length text) (text ++ rest) ≡ Ok (text, rest)
unfolding bytes_at
bytes_again whole text rest = front_again (Short (place whole (text ++ rest))) text rest

-- ---- numbers

abbrev pub IsBelow : ℕ → ℕ → Type 0
IsBelow limit n = n < limit

module _ (w : Width) (limit : ℕ) (wide : IsWide w limit) (whole : ℕ) where
  pub number_takes : (bytes : List ℕ) (n : ℕ) (rest : List ℕ) → IsBytes bytes → number_at w whole bytes ≡ Ok (n, rest)
      → Takes bytes (to_be_bytes w n) rest × IsBelow limit n
  unfolding number_at
  number_takes bytes n rest fits e =
      let b = parted (bytes_at whole (byte_len w) bytes) _ (n, rest) e in
      let t = bytes_take whole (byte_len w) bytes b.value.0 b.value.1 fits b.first in
      let same : to_be_bytes w (from_be_bytes w b.value.0) ≡ b.value.0 = wide.back b.value.0 t.1 t.2 in
      subst (λ (p : ℕ × List ℕ). Takes bytes (to_be_bytes w p.0) p.1 × IsBelow limit p.0)
      (same_ok (from_be_bytes w b.value.0, b.value.1) (n, rest) b.next) (rw same t.0, wide.below b.value.0 t.2)

  pub number_again : (n : ℕ) (rest : List ℕ) → n < limit → number_at w whole (to_be_bytes w n ++ rest) ≡ Ok (n, rest)
  unfolding number_at
  number_again n rest lt =
      let len = wide.len n in
      let one : bytes_at whole (byte_len w) (to_be_bytes w n ++ rest) ≡ Ok (to_be_bytes w n, rest) = subst
      (λ (k : ℕ). bytes_at whole k (to_be_bytes w n ++ rest) ≡ Ok (to_be_bytes w n, rest)) len
      (bytes_again whole (to_be_bytes w n) rest) in
      ap (λ (r : Read (List ℕ)). r >>= λ b. Ok (from_be_bytes w b.0, b.1)) one ∙ ap (λ (m : ℕ). Ok (m, rest)) (wide.again n lt)

  pub number_reader : IsReader (number_at w whole) (to_be_bytes w) (IsBelow limit)
  number_reader = record { takes = number_takes; again = λ n rest lt _. number_again n rest lt }

  -- ---- bytes after their length

  abbrev pub spelled : List ℕ → List ℕ
  spelled text = to_be_bytes w (length text) ++ text

  abbrev pub IsShort : List ℕ → Type 0
  IsShort text = length text < limit

  block_takes : (bytes text rest : List ℕ) → IsBytes bytes → block_at w whole bytes ≡ Ok (text, rest) → Takes bytes (spelled text) rest
      × IsShort text
  unfolding block_at
  block_takes bytes text rest fits e =
      let n = parted (number_at w whole bytes) _ (text, rest) e in
      let first = number_takes bytes n.value.0 n.value.1 fits n.first in
      let second = bytes_take whole n.value.0 n.value.1 text rest first.0.rest_fits n.next in
      let both = Takes-then bytes (to_be_bytes w n.value.0) n.value.1 text rest first.0 second.0 in
      subst (λ (k : ℕ). Takes bytes (to_be_bytes w k ++ text) rest × (k < limit)) (sym second.1) (both, first.1)

  pub block_again : (text rest : List ℕ) → length text < limit → block_at w whole (spelled text ++ rest) ≡ Ok (text, rest)
  unfolding block_at
  block_again text rest h =
      let regrouped : spelled text ++ rest ≡ to_be_bytes w (length text) ++ (text ++ rest) = append_assoc (to_be_bytes w (length text)) text
      rest in
      ap (block_at w whole) regrouped ∙ rw (number_again (length text) (text ++ rest) h, bytes_again whole text rest) refl

  pub block_reader : IsReader (block_at w whole) spelled IsShort
  block_reader = record { takes = block_takes; again = λ text rest h _. block_again text rest h }

-- A reader of bytes after their length.
pub any_block : (whole : ℕ) → IsReader (block_at w64 whole) block IsPart
any_block whole = record {
  takes = λ bytes text rest fits e. ((block_takes w64 (2 ^ 64) wide64 whole bytes text rest fits e).0, tt);
  again = λ text rest h long. block_again w64 (2 ^ 64) wide64 whole text rest
      (omega (arith, long, length-append (block text) rest, length-append (to_be_bytes w64 (length text)) text));
}
