-- The value of at most 18 digits.
use Rattle.text_and_lists.specs.Numbers.{digits_from, is_digit}
use Rattle.std.proofs.Common.{List, ap, arith, drop, get_or, length, refl, subst, suc, sym, true, ℕ, ◌*◌, ◌+◌, ◌-◌, ◌<◌, ◌^◌, ◌∙◌, ◌∷◌, ◌≡◌}
use Rattle.std.proofs.Common.{◌≤◌}
use Rattle.std.proofs.Math.ListN.{drop_of_length-le}
use Rattle.std.proofs.Math.Nat.{pow-le-pow_right, pow-suc}
use Rattle.std.proofs.Math.Numerals.{suc-eq-add-one}
use Rattle.std.proofs.Math.Seq.{drop-cons}
use Rattle.std.proofs.lemmas.Bool.{and_parts, leb-true}
use Rattle.std.specs.List.{list_all}

pub power_more : (n i d : ℕ) → n < 10 ^ i → d ≤ 9 → n * 10 + d < 10 ^ (i + 1)
power_more n i d h small =
    let k : i + 1 ≡ suc i = omega arith in
    let e : 10 ^ (i + 1) ≡ 10 ^ i * 10 = ap (λ (j : ℕ). 10 ^ j) k ∙ pow-suc 10 i in
    rw e (omega arith)

pub power_fits : (n i d : ℕ) → n < 10 ^ i → i < 18 → d ≤ 9 → n * 10 + d < 2 ^ 64
power_fits n i d h g e = grind (arith, power_more, pow-le-pow_right)

pub next_digit : (text : List ℕ) (i : ℕ) → i < length text → list_all is_digit (drop i text) ≡ true → (48 ≤ get_or text i 0)
    × (get_or text i 0 ≤ 57) × (list_all is_digit (drop (i + 1) text) ≡ true)
next_digit text i lt h =
    let e : drop i text ≡ get_or text i 0 ∷ drop (suc i) text = drop-cons text i 0 lt in
    let p = and_parts (is_digit (get_or text i 0)) _ (sym (ap (list_all is_digit) e) ∙ h) in
    let q = and_parts _ _ p.0 in
    let k : suc i ≡ i + 1 = suc-eq-add-one i in
    (leb-true _ _ q.0, leb-true _ _ q.1, subst (λ (j : ℕ). list_all is_digit (drop j text) ≡ true) k p.1)

pub one_more_digit : (n : ℕ) (text : List ℕ) (i : ℕ) → i < length text
    → digits_from n (drop i text) ≡ digits_from (n * 10 + (get_or text i 0 - 48)) (drop (i + 1) text)
unfolding digits_from
one_more_digit n text i lt =
    let k : suc i ≡ i + 1 = omega arith in
    ap (digits_from n) (drop-cons text i 0 lt) ∙ ap (λ (j : ℕ). digits_from (n * 10 + (get_or text i 0 - 48)) (drop j text)) k

pub all_digits : (n : ℕ) (text : List ℕ) (i : ℕ) → length text ≤ i → n ≡ digits_from n (drop i text)
unfolding digits_from
all_digits n text i le = rw (drop_of_length-le text le) refl
