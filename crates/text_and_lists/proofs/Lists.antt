-- Lists of any values.
use Rattle.std.proofs.Common.{Bool, List, Some, ap, append_assoc, arith, drop, get_or, length, length-append, refl, slice_get, suc, sym}
use Rattle.std.proofs.Common.{take, true, zero, ℕ, [], ◌++◌, ◌+◌, ◌-◌, ◌<◌, ◌^◌, ◌∙◌, ◌∷◌, ◌≡◌, ◌≤◌}
use Rattle.std.proofs.Math.ListN.{drop_of_length-le}
use Rattle.std.proofs.Math.Seq.{drop-append_seam, drop-cons}
use Rattle.std.proofs.lemmas.Bool.{and_parts}
use Rattle.std.proofs.lemmas.Fmt.{length-decimal-le}
use Rattle.std.proofs.lemmas.List.{take-append-drop}
use Rattle.std.proofs.lemmas.List.Sums.{sum_by-cons}
use Rattle.std.proofs.lemmas.Str.{IsUtf8-from_ascii}
use Rattle.std.proofs.lemmas.Str.Ascii.{IsAscii-cons, IsAscii-nil}
use Rattle.std.specs.Fmt.{decimal}
use Rattle.std.specs.List.{list_all, slice_get, sum}
use Rattle.std.specs.Str.{IsUtf8}

pub sum_first : (n : ℕ) (ns : List ℕ) → sum (n ∷ ns) ≡ n + sum ns
sum_first n ns = sum_by-cons (λ x. x) n ns

pub get_left : {X : Type 0} (xs ys : List X) (n : ℕ) (x : X) → slice_get xs n ≡ Some x → slice_get (xs ++ ys) n ≡ Some x
get_left [] ys n x e = absurd (cc)
get_left (z ∷ xs) ys zero x e = e
get_left (z ∷ xs) ys (suc n) x e = get_left xs ys n x e

pub get_before : {X : Type 0} (xs ys : List X) (n : ℕ) (x : X) → n < length xs → slice_get (xs ++ ys) n ≡ Some x → slice_get xs n ≡ Some x
get_before [] ys n x h e = absurd (omega arith)
get_before (z ∷ xs) ys zero x h e = e
get_before (z ∷ xs) ys (suc n) x h e = get_before xs ys n x (omega arith) e

pub drop_front : (front back : List ℕ) → drop (length front) (front ++ back) ≡ back
drop_front [] back = refl
drop_front (x ∷ xs) back = drop_front xs back

pub both_written : (none first all one two : List ℕ) → first ≡ none ++ one → all ≡ first ++ two → all ≡ none ++ (one ++ two)
both_written none first all one two h g = g ∙ ap (λ l. l ++ two) h ∙ append_assoc none one two

pub one_byte : (b : ℕ) → b < 128 → IsUtf8 (b ∷ [])
one_byte b h = IsUtf8-from_ascii (b ∷ []) (IsAscii-cons b [] h IsAscii-nil)

pub slice_last : {X : Type 0} (xs : List X) (y : X) → slice_get (xs ++ y ∷ []) (length xs) ≡ Some y
slice_last [] y = refl
slice_last (x ∷ xs) y = slice_last xs y

pub short_number : (n : ℕ) → n < 2 ^ 32 → length (decimal n) ≤ 10
short_number n h = length-decimal-le 10 n (omega arith) (omega arith) (omega arith)

pub front_cancels : (key a b : List ℕ) → key ++ a ≡ key ++ b → a ≡ b
front_cancels key a b e = sym (drop-append_seam key a) ∙ ap (drop (length key)) e ∙ drop-append_seam key b

pub some_length : (p : List ℕ) (b : ℕ) → slice_get p (length p - 1) ≡ Some b → suc (length p - 1) ≡ length p
some_length [] b h = absurd (cc)
some_length (y ∷ ys) b h = omega arith

pub one_longer : {A : Type 0} (xs : List A) (x : A) → length (xs ++ x ∷ []) ≡ length xs + 1
one_longer xs x = length-append xs (x ∷ [])

-- Values that all pass a test all pass a weaker one.
pub weaker : {A : Type 0} (p q : A → Bool) → ((b : A) → p b ≡ true → q b ≡ true) → (xs : List A) → list_all p xs ≡ true
    → list_all q xs ≡ true
weaker p q f [] h = refl
weaker p q f (x ∷ xs) h = let k = and_parts (p x) (list_all p xs) h in rw (f x k.0, weaker p q f xs k.1) refl

-- A list whose last number is b.
pub last_is : (b : ℕ) (bs : List ℕ) (i : ℕ) → suc i ≡ length bs → get_or bs i 0 ≡ b → bs ≡ take i bs ++ b ∷ []
last_is b bs i e at =
    let end : drop i bs ≡ b ∷ [] = drop-cons bs i 0 (omega arith) ∙ ap (λ (x : ℕ). x ∷ drop (suc i) bs) at ∙ ap (λ (l : List ℕ). b ∷ l)
    (drop_of_length-le bs {i = suc i} (omega arith)) in
    sym (take-append-drop i bs) ∙ ap (λ (l : List ℕ). take i bs ++ l) end
