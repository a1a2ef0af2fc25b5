-- A word writes a number exactly if it is the number's decimal text.
use Rattle.s3a_words.specs.Numbers.{is_number, number_in}
use Rattle.s3a_words.specs.inner.Numbers.{WritesDecimals}
use Rattle.std.proofs.Common.{List, None, Some, ap, arith, false, get_or, length, nat_le, not, refl, subst, true, ℕ, ◌&&◌, ◌<◌, ◌==◌, ◌^◌}
use Rattle.std.proofs.Common.{◌||◌, ◌≡◌, ◌≤◌}
use Rattle.std.proofs.lemmas.Bool.{and_parts, false_from_ne_true, le-leb, leb-true}
use Rattle.std.proofs.lemmas.Bool.Decides.{nat_tests}
use Rattle.std.proofs.lemmas.Fmt.{decimal-digits_value, decimal_digit, decimal_nonempty, digits_decimal, digits_value-decimal}
use Rattle.std.proofs.lemmas.Fmt.{first_decimal, length-decimal-le}
use Rattle.std.proofs.lemmas.Option.{cond_some}
use Rattle.std.proofs.lemmas.Str.Parse.{IsNumeralModel, digits_value_short, numerals_by_value, tells_all_ascii_digits}
use Rattle.std.specs.Fmt.{decimal}
use Rattle.std.specs.Str.{all_ascii_digits}
use Rattle.std.specs.Str.Parse.{digits_value}

own : IsNumeralModel (λ ds. all_ascii_digits ds ≡ true) (digits_value 10)
own = numerals_by_value (λ ds. all_ascii_digits ds ≡ true) tells_all_ascii_digits

-- The tests that the word of a number passes.
record IsWord (word : List ℕ) : Type 0 where
  some : 0 < length word
  few : length word ≤ 18
  digits : all_ascii_digits word ≡ true
  first : get_or word 0 0 ≡ 48 → length word ≡ 1

first_of : (first count : ℕ) → ((count == 1) || not (first == 48)) ≡ true → first ≡ 48 → count ≡ 1
first_of first count h e = grind (arith, nat_tests)

word_parts : (word : List ℕ) → is_number word ≡ true → IsWord word
word_parts word h =
    let whole = and_parts (nat_le 1 (length word) && nat_le (length word) 18 && all_ascii_digits word)
    ((length word == 1) || not (get_or word 0 0 == 48)) h in
    let digits = and_parts (nat_le 1 (length word) && nat_le (length word) 18) (all_ascii_digits word) whole.0 in
    let count = and_parts (nat_le 1 (length word)) (nat_le (length word) 18) digits.0 in
    record {
      some = leb-true 1 (length word) count.0;
      few = leb-true (length word) 18 count.1;
      digits = digits.1;
      first = first_of (get_or word 0 0) (length word) whole.1;
    }

small : (word : List ℕ) → IsWord word → digits_value 10 word < 10 ^ 18
small word is = digits_value_short own word 18 is.digits is.few

written : (word : List ℕ) → IsWord word → decimal (digits_value 10 word) ≡ word
written word is =
    let few : digits_value 10 word < 2 ^ 64 = omega (arith, small word is) in
    decimal-digits_value own word is.digits is.some is.first few

-- A word that is no decimal text writes no number.
pub none_written : (word : List ℕ) → ((n : ℕ) → n < 10 ^ 18 → decimal n ≡ word → ⊥) → number_in word ≡ None
unfolding number_in
none_written word other =
    let fails : is_number word ≡ false = false_from_ne_true (is_number word) (λ h. other (digits_value 10 word)
    (small word (word_parts word h)) (written word (word_parts word h))) in
    rw fails refl

test_of : (first count : ℕ) → (first ≡ 48 → count ≡ 1) → ((count == 1) || not (first == 48)) ≡ true
test_of first count h = grind (arith, nat_tests)

is_word : (word : List ℕ) → IsWord word → is_number word ≡ true
is_word word is =
    let some : nat_le 1 (length word) ≡ true = le-leb 1 (length word) is.some in
    let few : nat_le (length word) 18 ≡ true = le-leb (length word) 18 is.few in
    rw (some, few, is.digits, test_of (get_or word 0 0) (length word) is.first) refl

-- The decimal text of a number begins with 0 only if it has one digit.
lone_zero : (n : ℕ) → n < 2 ^ 64 → get_or (decimal n) 0 0 ≡ 48 → length (decimal n) ≡ 1
lone_zero n h z =
    let none : n < 10 = grind (arith, first_decimal n) in
    rw (decimal_digit n none) refl

-- A decimal text of at most 18 digits writes its number.
pub decimal_written : (n : ℕ) (word : List ℕ) → n < 2 ^ 64 → decimal n ≡ word → length word ≤ 18 → number_in word ≡ Some n
unfolding number_in
decimal_written n word h e few =
    let digits : all_ascii_digits (decimal n) ≡ true = digits_decimal own n h in
    let value : digits_value 10 (decimal n) ≡ n = digits_value-decimal own n h in
    let is : IsWord (decimal n) = record {
      some = decimal_nonempty n h;
      few = omega (arith, ap length e);
      digits = digits;
      first = λ z. lone_zero n h z;
    } in
    subst (λ (w : List ℕ). number_in w ≡ Some n) e (rw (is_word (decimal n) is, value) refl)

-- The number that a word writes has the word as its decimal text.
written_number : (word : List ℕ) (n : ℕ) → number_in word ≡ Some n → (n < 10 ^ 18) × (decimal n ≡ word)
unfolding number_in
written_number word n h =
    let found = cond_some (is_number word) (digits_value 10 word) n h in
    let is = word_parts word found.0 in
    subst (λ (m : ℕ). (m < 10 ^ 18) × (decimal m ≡ word)) found.1 (small word is, written word is)

short_text : (n : ℕ) → n < 10 ^ 18 → length (decimal n) ≤ 18
short_text n h = length-decimal-le 18 n (omega arith) h (omega arith)

number_written : (word : List ℕ) (n : ℕ) → (n < 10 ^ 18) × (decimal n ≡ word) → number_in word ≡ Some n
number_written word n h =
    let few : length word ≤ 18 = subst (λ (w : List ℕ). length w ≤ 18) h.1 (short_text n h.0) in
    decimal_written n word (omega (arith, h.0)) h.1 few

pub writes_decimals : (word : List ℕ) → WritesDecimals word
writes_decimals word n = (λ h. written_number word n h, λ h. number_written word n h)
