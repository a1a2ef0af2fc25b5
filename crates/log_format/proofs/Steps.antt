-- Steps of reading: each takes a text from the front, and reads again the text that was written.
use Rattle.text_and_lists.proofs.Bytes.{IsBytes, IsReader, IsWide, Takes, Takes-then, front_again, front_takes, wide32, wide64}
use Rattle.text_and_lists.proofs.Reading.{parted, passed, same_ok, unmade}
use Rattle.text_and_lists.specs.Reading.{◌>>=◌}
use Rattle.log_format.specs.Change.{AreBoth, AreDigits, AreFew, IsBelow, IsNamed}
use Rattle.log_format.specs.inner.Change.{IsAny}
use Rattle.log_format.specs.Log.{block, counted, long, named, short}
use Rattle.log_format.specs.Reading.{Read, block_at, byte_at, bytes_at, counted_at, digits_at, list_at, named_at, named_of, number_at}
use Rattle.log_format.specs.Reading.{pair_at, text_at}
use Rattle.log_format.specs.declared.fault.LogFault.TheVariants.{Bad}
use Rattle.s3_types.specs.Tags.{is_hex}
use Rattle.s3_types.specs.declared.request.NamedPart.{NamedPart}
use Rattle.std.proofs.Common.{Bool, List, Ok, ap, append_assoc, arith, length, refl, slice_index, subst, suc, sym, true, zero, ℕ, [], ◌++◌}
use Rattle.std.proofs.Common.{◌+◌, ◌<◌, ◌^◌, ◌∙◌, ◌∷◌, ◌≡◌}
use Rattle.std.proofs.lemmas.List.{length-append}
use Rattle.std.proofs.lemmas.List.Concat.{flat_map-cons}
use Rattle.std.specs.Int.{Width, byte_len, from_be_bytes, to_be_bytes, w32, w64}
use Rattle.std.specs.List.{AllByRecursion, flat_map, list_all}

-- ---- bytes

pub bytes_take : (at n : ℕ) (bytes text rest : List ℕ) → IsBytes bytes → bytes_at at n bytes ≡ Ok (text, rest) → Takes bytes text rest
    × (length text ≡ n) × IsBytes text
unfolding bytes_at
bytes_take at n bytes text rest fits e = front_takes (Bad at) n bytes text rest fits e

pub bytes_again : (at : ℕ) (text rest : List ℕ) → bytes_at at (length text) (text ++ rest) ≡ Ok (text, rest)
unfolding bytes_at
bytes_again at text rest = front_again (Bad at) text rest

-- The only byte of a text.
only_byte : (text : List ℕ) → length text ≡ 1 → text ≡ slice_index text 0 ∷ []
only_byte (b ∷ []) e = refl
only_byte _ e = absurd (omega arith)

pub byte_takes : (at : ℕ) (bytes : List ℕ) (b : ℕ) (rest : List ℕ) → IsBytes bytes → byte_at at bytes ≡ Ok (b, rest)
    → Takes bytes (b ∷ []) rest
unfolding byte_at
byte_takes at bytes b rest fits e =
    let x = unmade (λ (t : List ℕ). slice_index t 0) (bytes_at at 1 bytes) b rest e in
    let t = bytes_take at 1 bytes x.0 rest fits x.1 in
    let is : x.0 ≡ b ∷ [] = only_byte x.0 t.1 ∙ ap (λ (k : ℕ). k ∷ []) (sym x.2) in
    subst (λ (y : List ℕ). Takes bytes y rest) is t.0

pub byte_again : (at b : ℕ) (rest : List ℕ) → byte_at at (b ∷ rest) ≡ Ok (b, rest)
unfolding byte_at
byte_again at b rest = ap (λ (r : Read (List ℕ)). r >>= λ x. Ok (slice_index x.0 0, x.1)) (bytes_again at (b ∷ []) rest)

-- ---- numbers

module _ (w : Width) (limit : ℕ) (wide : IsWide w limit) (at : ℕ) where
  number_takes : (bytes : List ℕ) (n : ℕ) (rest : List ℕ) → IsBytes bytes → number_at w at bytes ≡ Ok (n, rest)
      → Takes bytes (to_be_bytes w n) rest × IsBelow limit n
  unfolding number_at
  number_takes bytes n rest fits e =
      let b = parted (bytes_at at (byte_len w) bytes) _ (n, rest) e in
      let t = bytes_take at (byte_len w) bytes b.value.0 b.value.1 fits b.first in
      let same : to_be_bytes w (from_be_bytes w b.value.0) ≡ b.value.0 = wide.back b.value.0 t.1 t.2 in
      subst (λ (p : ℕ × List ℕ). Takes bytes (to_be_bytes w p.0) p.1 × IsBelow limit p.0)
      (same_ok (from_be_bytes w b.value.0, b.value.1) (n, rest) b.next) (rw same t.0, wide.below b.value.0 t.2)

  pub number_again : (n : ℕ) (rest : List ℕ) → n < limit → number_at w at (to_be_bytes w n ++ rest) ≡ Ok (n, rest)
  unfolding number_at
  number_again n rest lt =
      let len = wide.len n in
      let one : bytes_at at (byte_len w) (to_be_bytes w n ++ rest) ≡ Ok (to_be_bytes w n, rest) = subst
      (λ (k : ℕ). bytes_at at k (to_be_bytes w n ++ rest) ≡ Ok (to_be_bytes w n, rest)) len (bytes_again at (to_be_bytes w n) rest) in
      ap (λ (r : Read (List ℕ)). r >>= λ b. Ok (from_be_bytes w b.0, b.1)) one ∙ ap (λ (m : ℕ). Ok (m, rest)) (wide.again n lt)

  pub number_reader : IsReader (number_at w at) (to_be_bytes w) (IsBelow limit)
  number_reader = record { takes = number_takes; again = λ n rest lt _. number_again n rest lt }

pub short_reader : (at : ℕ) → IsReader (number_at w32 at) short (IsBelow (2 ^ 32))
short_reader at = number_reader w32 (2 ^ 32) wide32 at

pub long_reader : (at : ℕ) → IsReader (number_at w64 at) long (IsBelow (2 ^ 64))
long_reader at = number_reader w64 (2 ^ 64) wide64 at

-- ---- bytes after their length

module _ (at : ℕ) where
  pub block_takes : (bytes text rest : List ℕ) → IsBytes bytes → block_at at bytes ≡ Ok (text, rest) → Takes bytes (block text) rest
      × IsBytes text
  unfolding block_at
  block_takes bytes text rest fits e =
      let n = parted (number_at w64 at bytes) _ (text, rest) e in
      let first = (long_reader at).takes bytes n.value.0 n.value.1 fits n.first in
      let second = bytes_take at n.value.0 n.value.1 text rest first.0.rest_fits n.next in
      let both = Takes-then bytes (long n.value.0) n.value.1 text rest first.0 second.0 in
      (subst (λ (k : ℕ). Takes bytes (long k ++ text) rest) (sym second.1) both, second.2)

  pub block_again : (text rest : List ℕ) → length text < 2 ^ 64 → block_at at (block text ++ rest) ≡ Ok (text, rest)
  unfolding block_at
  block_again text rest h =
      let regrouped : block text ++ rest ≡ long (length text) ++ (text ++ rest) = append_assoc (long (length text)) text rest in
      ap (block_at at) regrouped ∙ rw (number_again w64 (2 ^ 64) wide64 at (length text) (text ++ rest) h, bytes_again at text rest) refl

  block_fits : (text rest : List ℕ) → length (block text ++ rest) < 2 ^ 64 → length text < 2 ^ 64
  block_fits text rest fits = omega (arith, fits, length-append (block text) rest, length-append (long (length text)) text)

  pub block_reader : IsReader (block_at at) block IsAny
  block_reader = record {
    takes = λ bytes text rest fits e. ((block_takes bytes text rest fits e).0, tt);
    again = λ text rest _ fits. block_again text rest (block_fits text rest fits);
  }

  text_takes : (is_kind : List ℕ → Bool) (bytes text rest : List ℕ) → IsBytes bytes → text_at is_kind at bytes ≡ Ok (text, rest)
      → Takes bytes (block text) rest × (is_kind text ≡ true)
  unfolding text_at
  text_takes is_kind bytes text rest fits e =
      let b = parted (block_at at bytes) _ (text, rest) e in
      let p = passed (is_kind b.value.0) (Bad at) b.value (text, rest) b.next in
      let t = (block_takes bytes b.value.0 b.value.1 fits b.first).0 in
      subst (λ (x : List ℕ × List ℕ). Takes bytes (block x.0) x.1 × (is_kind x.0 ≡ true)) p.1 (t, p.0)

  text_again : (is_kind : List ℕ → Bool) (text rest : List ℕ) → is_kind text ≡ true → length text < 2 ^ 64
      → text_at is_kind at (block text ++ rest) ≡ Ok (text, rest)
  unfolding text_at
  text_again is_kind text rest is h = rw (block_again text rest h, is) refl

  pub text_reader : (is_kind : List ℕ → Bool) → IsReader (text_at is_kind at) block (λ t. is_kind t ≡ true)
  text_reader is_kind = record {
    takes = λ bytes text rest fits e. text_takes is_kind bytes text rest fits e;
    again = λ text rest is fits. text_again is_kind text rest is (block_fits text rest fits);
  }

  digits_takes : (bytes text rest : List ℕ) → IsBytes bytes → digits_at at bytes ≡ Ok (text, rest) → Takes bytes text rest × AreDigits text
  unfolding digits_at
  digits_takes bytes text rest fits e =
      let b = parted (bytes_at at 32 bytes) _ (text, rest) e in
      let p = passed (list_all is_hex b.value.0) (Bad at) b.value (text, rest) b.next in
      let t = bytes_take at 32 bytes b.value.0 b.value.1 fits b.first in
      subst (λ (x : List ℕ × List ℕ). Takes bytes x.0 x.1 × AreDigits x.0) p.1 (t.0, (t.1, p.0))

  digits_again : (text rest : List ℕ) → AreDigits text → digits_at at (text ++ rest) ≡ Ok (text, rest)
  unfolding digits_at
  digits_again text rest are =
      let one : bytes_at at 32 (text ++ rest) ≡ Ok (text, rest) = subst (λ (k : ℕ). bytes_at at k (text ++ rest) ≡ Ok (text, rest)) are.0
      (bytes_again at text rest) in
      rw (one, are.1) refl

  pub digits_reader : IsReader (digits_at at) (λ t. t) AreDigits
  digits_reader = record { takes = digits_takes; again = λ text rest are _. digits_again text rest are }

-- ---- one value after another

module _ {A B : Type 0}
    (first_at : List ℕ → Read A) (first_text : A → List ℕ) (IsFirst : A → Type 0) (first : IsReader first_at first_text IsFirst)
    (second_at : List ℕ → Read B) (second_text : B → List ℕ) (IsSecond : B → Type 0) (second : IsReader second_at second_text IsSecond)
  where
    abbrev pair_text : A × B → List ℕ
    pair_text x = first_text x.0 ++ second_text x.1

    pair_takes : (bytes : List ℕ) (x : A × B) (rest : List ℕ) → IsBytes bytes → pair_at first_at second_at bytes ≡ Ok (x, rest)
        → Takes bytes (pair_text x) rest × AreBoth IsFirst IsSecond x
    unfolding pair_at
    pair_takes bytes x rest fits e =
        let a = parted (first_at bytes) _ (x, rest) e in
        let b = parted (second_at a.value.1) _ (x, rest) a.next in
        let t = first.takes bytes a.value.0 a.value.1 fits a.first in
        let u = second.takes a.value.1 b.value.0 b.value.1 t.0.rest_fits b.first in
        subst (λ (p : (A × B) × List ℕ). Takes bytes (pair_text p.0) p.1 × AreBoth IsFirst IsSecond p.0)
        (same_ok ((a.value.0, b.value.0), b.value.1) (x, rest) b.next)
        (Takes-then bytes (first_text a.value.0) a.value.1 (second_text b.value.0) b.value.1 t.0 u.0, (t.1, u.1))

    pair_again : (x : A × B) (rest : List ℕ) → AreBoth IsFirst IsSecond x → length (pair_text x ++ rest) < 2 ^ 64
        → pair_at first_at second_at (pair_text x ++ rest) ≡ Ok (x, rest)
    unfolding pair_at
    pair_again x rest is fits =
        let behind = second_text x.1 ++ rest in
        let regrouped : pair_text x ++ rest ≡ first_text x.0 ++ behind = append_assoc (first_text x.0) (second_text x.1) rest in
        let all : length (first_text x.0 ++ behind) < 2 ^ 64 = subst (λ (t : List ℕ). length t < 2 ^ 64) regrouped fits in
        let end : length behind < 2 ^ 64 = omega (arith, all, length-append (first_text x.0) behind) in
        ap (pair_at first_at second_at) regrouped ∙ rw (first.again x.0 behind is.0 all, second.again x.1 rest is.1 end) refl

    pub pair_reader : IsReader (pair_at first_at second_at) pair_text (AreBoth IsFirst IsSecond)
    pair_reader = record { takes = pair_takes; again = pair_again }

-- ---- lists

module _ {A : Type 0} (one_at : List ℕ → Read A) (text : A → List ℕ) (IsOne : A → Type 0) (one : IsReader one_at text IsOne) where
  record Listed (n : ℕ) (bytes : List ℕ) (x : List A × List ℕ) : Type 0 where
    pub front : Takes bytes (flat_map text x.0) x.1
    pub count : length x.0 ≡ n
    pub each : AllByRecursion IsOne x.0

  list_takes : (n : ℕ) (bytes : List ℕ) (x : List A × List ℕ) → IsBytes bytes → list_at one_at n bytes ≡ Ok x → Listed n bytes x
  unfolding list_at
  list_takes zero bytes x fits e =
      let none : List A × List ℕ = ([], bytes) in
      subst (λ (y : List A × List ℕ). Listed 0 bytes y) (same_ok none x e) (record
      { front = record { parts = refl; rest_fits = fits }; count = refl; each = tt })
  list_takes (suc n) bytes x fits e =
      let a = parted (one_at bytes) _ x e in
      let b = parted (list_at one_at n a.value.1) _ x a.next in
      let first = one.takes bytes a.value.0 a.value.1 fits a.first in
      let others = list_takes n a.value.1 b.value first.0.rest_fits b.first in
      let both = Takes-then bytes (text a.value.0) a.value.1 (flat_map text b.value.0) b.value.1 first.0 others.front in
      let all : List A × List ℕ = (a.value.0 ∷ b.value.0, b.value.1) in
      subst (λ (y : List A × List ℕ). Listed (suc n) bytes y) (same_ok all x b.next)
      (record { front = rw flat_map-cons both; count = ap suc others.count; each = (first.1, others.each) })

  list_again : (xs : List A) (rest : List ℕ) → AllByRecursion IsOne xs → length (flat_map text xs ++ rest) < 2 ^ 64
      → list_at one_at (length xs) (flat_map text xs ++ rest) ≡ Ok (xs, rest)
  unfolding list_at
  list_again [] rest each fits = refl
  list_again (x ∷ xs) rest each fits =
      let behind = flat_map text xs ++ rest in
      let regrouped : flat_map text (x ∷ xs) ++ rest ≡ text x ++ behind = ap (λ (t : List ℕ). t ++ rest) (flat_map-cons text x xs) ∙
      append_assoc (text x) (flat_map text xs) rest in
      let all : length (text x ++ behind) < 2 ^ 64 = subst (λ (t : List ℕ). length t < 2 ^ 64) regrouped fits in
      let end : length behind < 2 ^ 64 = omega (arith, all, length-append (text x) behind) in
      ap (list_at one_at (suc (length xs))) regrouped ∙ rw (one.again x behind each.0 all, list_again xs rest each.1 end) refl

  counted_takes : (at : ℕ) (bytes : List ℕ) (xs : List A) (rest : List ℕ) → IsBytes bytes → counted_at one_at at bytes ≡ Ok (xs, rest)
      → Takes bytes (counted text xs) rest × AreFew IsOne xs
  unfolding counted_at
  counted_takes at bytes xs rest fits e =
      let n = parted (number_at w32 at bytes) _ (xs, rest) e in
      let first = (short_reader at).takes bytes n.value.0 n.value.1 fits n.first in
      let l = list_takes n.value.0 n.value.1 (xs, rest) first.0.rest_fits n.next in
      let both = Takes-then bytes (short n.value.0) n.value.1 (flat_map text xs) rest first.0 l.front in
      subst (λ (k : ℕ). Takes bytes (short k ++ flat_map text xs) rest × ((k < 2 ^ 32) × AllByRecursion IsOne xs)) (sym l.count)
      (both, (first.1, l.each))

  counted_again : (at : ℕ) (xs : List A) (rest : List ℕ) → AreFew IsOne xs → length (counted text xs ++ rest) < 2 ^ 64
      → counted_at one_at at (counted text xs ++ rest) ≡ Ok (xs, rest)
  unfolding counted_at
  counted_again at xs rest are fits =
      let behind = flat_map text xs ++ rest in
      let regrouped : counted text xs ++ rest ≡ short (length xs) ++ behind = append_assoc (short (length xs)) (flat_map text xs) rest in
      let end : length behind < 2 ^ 64 = omega (
        arith,
        subst (λ (t : List ℕ). length t < 2 ^ 64) regrouped fits,
        length-append
            (short (length xs)) behind,
      ) in
      ap (counted_at one_at at) regrouped ∙ rw (number_again w32 (2 ^ 32) wide32 at (length xs) behind are.0, list_again xs rest are.1 end)
      refl

  pub counted_reader : (at : ℕ) → IsReader (counted_at one_at at) (counted text) (AreFew IsOne)
  counted_reader at = record {
    takes = λ bytes xs rest fits e. counted_takes at bytes xs rest fits e;
    again = λ xs rest are fits.
        counted_again at xs rest are fits;
  }

-- ---- named parts

abbrev fields_of : NamedPart → (ℕ × List ℕ) × ℕ
fields_of p = ((p.number, p.tag.digits), p.tag.parts)

module _ (at : ℕ) where
  fields_reader : IsReader (pair_at (pair_at (number_at w32 at) (digits_at at)) (number_at w32 at))
      (λ x. (short x.0.0 ++ x.0.1) ++ short x.1) (AreBoth (AreBoth (IsBelow (2 ^ 32)) AreDigits) (IsBelow (2 ^ 32)))
  fields_reader =
      pair_reader (pair_at (number_at w32 at) (digits_at at)) (λ x. short x.0 ++ x.1) (AreBoth (IsBelow (2 ^ 32)) AreDigits)
      (pair_reader (number_at w32 at) short (IsBelow (2 ^ 32)) (short_reader at) (digits_at at) (λ t. t) AreDigits (digits_reader at))
      (number_at w32 at) short (IsBelow (2 ^ 32)) (short_reader at)

  named_takes : (bytes : List ℕ) (p : NamedPart) (rest : List ℕ) → IsBytes bytes → named_at at bytes ≡ Ok (p, rest)
      → Takes bytes (named p) rest × IsNamed p
  unfolding named_at
  named_takes bytes p rest fits e =
      let x = unmade named_of (pair_at (pair_at (number_at w32 at) (digits_at at)) (number_at w32 at) bytes) p rest e in
      let t = fields_reader.takes bytes x.0 rest fits x.1 in
      subst (λ (q : NamedPart). Takes bytes (named q) rest × IsNamed q) (sym x.2) (t.0, t.1)

  named_again : (p : NamedPart) (rest : List ℕ) → IsNamed p → length (named p ++ rest) < 2 ^ 64
      → named_at at (named p ++ rest) ≡ Ok (p, rest)
  unfolding named_at
  named_again p rest is fits = ap (λ (r : Read ((ℕ × List ℕ) × ℕ)). r >>= λ x. Ok (named_of x.0, x.1))
      (fields_reader.again (fields_of p) rest is fits)

  pub named_reader : IsReader (named_at at) named IsNamed
  named_reader = record { takes = named_takes; again = named_again }
