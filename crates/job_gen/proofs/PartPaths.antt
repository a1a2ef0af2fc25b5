-- The paths of a made job's files.
use Rattle.text_and_lists.proofs.Members.{text_false}
use Rattle.text_and_lists.proofs.Naturals.{below_is}
use Rattle.text_and_lists.proofs.Pieces.{one_part}
use Rattle.text_and_lists.specs.Order.{text_eq}
use Rattle.text_and_lists.specs.Parts.{is_other}
use Rattle.text_and_lists.specs.Words.{is_bare}
use Rattle.job_gen.specs.Made.{part_path}
use Rattle.job_model.specs.Files.{File, has_path}
use Rattle.job_model.specs.Legal.{IsGiven}
use Rattle.std.proofs.Common.{Bool, List, Some, ap, arith, codes, cond, false, is_some, map, nat_lt, refl, suc, true, zero, ℕ, [], ◌+◌, ◌<◌}
use Rattle.std.proofs.Common.{◌∙◌, ◌∷◌, ◌≡◌, ◌≤◌}
use Rattle.std.proofs.lemmas.Bool.{and_parts}
use Rattle.std.proofs.lemmas.Bool.Decides.{nat_tests}
use Rattle.std.proofs.lemmas.Str.{IsUtf8-from_ascii, is_utf8-from_IsUtf8}
use Rattle.std.proofs.lemmas.Str.Ascii.{IsAscii-cons, IsAscii-nil}
use Rattle.std.specs.List.{list_all, range_with_len}
use Rattle.std.specs.Map.{lookup}
use Rattle.std.specs.Str.{IsAscii, is_utf8}

-- A test that holds for the letters and for each digit holds for the whole path.
all_part : (p : ℕ → Bool) (t j : ℕ) → t < 1000 → j < 100 → list_all p (codes "part-") ≡ true → p 45 ≡ true
    → ((d : ℕ) → d < 10 → p (48 + d) ≡ true) → list_all p (part_path t j) ≡ true
all_part p t j h g e f q = grind arith

all_small : (bs : List ℕ) → list_all (λ b. nat_lt b 128) bs ≡ true → IsAscii bs
all_small [] h = IsAscii-nil
all_small (b ∷ bs) h = let p = and_parts (nat_lt b 128) _ h in IsAscii-cons b bs (below_is b 128 p.0) (all_small bs p.1)

pub text_fits : (bs : List ℕ) → list_all (λ b. nat_lt b 128) bs ≡ true → is_utf8 bs ≡ true
text_fits bs h = is_utf8-from_IsUtf8 bs (IsUtf8-from_ascii bs (all_small bs h))

-- A script may give such a path.
pub path_given : (t j : ℕ) → t < 1000 → j < 100 → IsGiven (part_path t j)
path_given t j small few =
    let alone = one_part 47 (part_path t j) (all_part (is_other 47) t j small few refl refl (λ d h. grind (arith, nat_tests))) in
    record {
      stated = rw alone refl;
      shown = rw alone refl;
      word = (
        text_fits (part_path t j) (all_part (λ b. nat_lt b 128) t j small few refl refl (λ d h. grind (arith, nat_tests))),
        all_part
            is_bare t j small few refl refl (λ d h. grind (arith, nat_tests)),
      );
    }

-- The paths of two files of a task differ.
path_other : (t i j : ℕ) → i < j → j < 100 → part_path t j ≡ part_path t i → ⊥
path_other t i j h g e = grind arith

-- No earlier file of the task has the path.
pub path_free : (t j a n : ℕ) (fs : List File) → map (λ f. f.0) fs ≡ map (part_path t) (range_with_len a n) → a + n ≤ j → j < 100
    → has_path fs (part_path t j) ≡ false
path_free t j a n [] e less few = refl
path_free t j a zero (f ∷ fs) e less few = absurd cc
path_free t j a (suc n) (f ∷ fs) e less few =
    let here : f.0 ≡ part_path t a = cc in
    let rest : map (λ g. g.0) fs ≡ map (part_path t) (range_with_len (a + 1) n) = cc in
    let other : text_eq (part_path t j) f.0 ≡ false = ap (text_eq (part_path t j)) here ∙ text_false (part_path t j) (part_path t a)
    (path_other t a j (omega arith) few) in
    ap (λ b. is_some (cond b (Some f.1) (lookup (text_eq (part_path t j)) fs))) other ∙ path_free t j (a + 1) n fs rest (omega arith) few
