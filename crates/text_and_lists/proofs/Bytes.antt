-- Readers of bytes: each takes a text from the front, and reads again the text that was written. And numbers of a fixed width.
use Rattle.text_and_lists.proofs.Reading.{not_stopped}
use Rattle.text_and_lists.specs.Reading.{Read}
use Rattle.std.proofs.Common.{Err, List, Ok, ap, append_assoc, arith, cond, drop, false, get_or, inl, inr, length, ltb, refl, subst, sym}
use Rattle.std.proofs.Common.{take, ℕ, ◌++◌, ◌+◌, ◌<◌, ◌^◌, ◌∙◌, ◌≡◌, ◌≤◌}
use Rattle.std.proofs.lemmas.Bool.{cases_lt, le-ltb, ltb-false}
use Rattle.std.proofs.lemmas.List.{drop_at, get_or-drop, get_or-take, get_or_past, length-append, length-take, take-append-drop, take_at}
use Rattle.std.proofs.lemmas.Nat.{be_bytes_2, be_bytes_4, be_bytes_8, from_be_bytes-to_be_bytes_2, from_be_bytes-to_be_bytes_4}
use Rattle.std.proofs.lemmas.Nat.{from_be_bytes-to_be_bytes_8}
use Rattle.std.specs.Int.{Width, byte_len, from_be_bytes, to_be_bytes, w16, w32, w64}

abbrev pub IsBytes : List ℕ → Type 0
IsBytes bytes = (i : ℕ) → get_or bytes i 0 < 256

pub IsBytes-drop : (n : ℕ) (bytes : List ℕ) → IsBytes bytes → IsBytes (drop n bytes)
IsBytes-drop n bytes h i = rw get_or-drop (h (n + i))

IsBytes-take : (n : ℕ) (bytes : List ℕ) → IsBytes bytes → IsBytes (take n bytes)
IsBytes-take n bytes h i =
    elim (cases_lt i n) [
      | inl lt ↦ rw (get_or-take n bytes i 0 lt) (h i)
      | inr le ↦ rw (get_or_past (take n bytes) i 0 (omega (arith, length-take n bytes))) (omega arith)
    ]

-- The reader took this text from the front, and left the rest.
pub record Takes (bytes text rest : List ℕ) : Type 0 where
  pub parts : bytes ≡ text ++ rest
  pub rest_fits : IsBytes rest

pub Takes-then : (a x b y c : List ℕ) → Takes a x b → Takes b y c → Takes a (x ++ y) c
Takes-then a x b y c p q = record {
  parts = p.parts ∙ ap (λ (t : List ℕ). x ++ t) q.parts ∙ sym (append_assoc x y c);
  rest_fits =
      q.rest_fits;
}

-- The reader takes the text of a value of this kind, and reads such a text again.
pub record IsReader {F A : Type 0} (read : List ℕ → Read F A) (text : A → List ℕ) (IsValue : A → Type 0) : Type 0 where
  pub takes : (bytes : List ℕ) (x : A) (rest : List ℕ) → IsBytes bytes → read bytes ≡ Ok (x, rest) → Takes bytes (text x) rest × IsValue x
  pub again : (x : A) (rest : List ℕ) → IsValue x → length (text x ++ rest) < 2 ^ 64 → read (text x ++ rest) ≡ Ok (x, rest)

-- ---- the first bytes, or a fault if there are too few

module _ {F : Type 0} (fault : F) where
  abbrev pub front : ℕ → List ℕ → Read F (List ℕ)
  front n bytes = cond (ltb (length bytes) n) (Err fault) (Ok (take n bytes, drop n bytes))

  pub front_takes : (n : ℕ) (bytes text rest : List ℕ) → IsBytes bytes → front n bytes ≡ Ok (text, rest) → Takes bytes text rest
      × (length text ≡ n) × IsBytes text
  front_takes n bytes text rest fits e =
      let g = not_stopped (ltb (length bytes) n) fault (take n bytes, drop n bytes) (text, rest) e in
      let long : n ≤ length bytes = ltb-false _ _ g.0 in
      let len : length (take n bytes) ≡ n = omega (arith, length-take n bytes) in
      let first : Takes bytes (take n bytes) (drop n bytes) = record {
        parts = sym (take-append-drop n bytes);
        rest_fits = IsBytes-drop n
            bytes fits;
      } in
      subst (λ (p : List ℕ × List ℕ). Takes bytes p.0 p.1 × (length p.0 ≡ n) × IsBytes p.0) g.1 (first, len, IsBytes-take n bytes fits)

  pub front_again : (text rest : List ℕ) → front (length text) (text ++ rest) ≡ Ok (text, rest)
  front_again text rest =
      let long : ltb (length (text ++ rest)) (length text) ≡ false = le-ltb _ _ (omega (arith, length-append text rest)) in
      rw (long, take_at text rest (length text) refl, drop_at text rest (length text) refl) refl

-- ---- numbers

-- The bytes of a number below the limit, most significant first.
pub record IsWide (w : Width) (limit : ℕ) : Type 0 where
  pub len : (n : ℕ) → length (to_be_bytes w n) ≡ byte_len w
  pub back : (bytes : List ℕ) → length bytes ≡ byte_len w → IsBytes bytes → to_be_bytes w (from_be_bytes w bytes) ≡ bytes
  pub again : (n : ℕ) → n < limit → from_be_bytes w (to_be_bytes w n) ≡ n
  pub below : (bytes : List ℕ) → IsBytes bytes → from_be_bytes w bytes < limit

pub wide16 : IsWide w16 (2 ^ 16)
wide16 = record {
  len = λ n. refl;
  back = λ bytes len fits. be_bytes_2 bytes _ len fits refl;
  again = λ n lt. from_be_bytes-to_be_bytes_2 n lt;
  below = λ bytes fits. omega (arith, fits 0, fits 1);
}

pub wide32 : IsWide w32 (2 ^ 32)
wide32 = record {
  len = λ n. refl;
  back = λ bytes len fits. be_bytes_4 bytes _ len fits refl;
  again = λ n lt. from_be_bytes-to_be_bytes_4 n lt;
  below = λ bytes fits. omega (arith, fits 0, fits 1, fits 2, fits 3);
}

pub wide64 : IsWide w64 (2 ^ 64)
wide64 = record {
  len = λ n. refl;
  back = λ bytes len fits. be_bytes_8 bytes _ len fits refl;
  again = λ n lt. from_be_bytes-to_be_bytes_8 n lt;
  below = λ bytes fits. omega (arith, fits 0, fits 1, fits 2, fits 3, fits 4, fits 5, fits 6, fits 7);
}
