-- Truth values.
use Rattle.std.proofs.Common.{Bool, false, not, refl, true, ◌&&◌, ◌≡◌}
use Rattle.std.proofs.lemmas.Bool.{false≢true}

pub all_three : (a b c : Bool) → a ≡ true → b ≡ true → c ≡ true → (a && b && c) ≡ true
all_three a b c h i j = rw (h, i, j) refl

-- A value whose negation is true is false.
pub not_so : (b : Bool) → not b ≡ true → b ≡ false
not_so true h = absurd cc
not_so false h = refl

-- A value that would give a contradiction if true is false.
pub contrary : (b : Bool) → (b ≡ true → false ≡ true) → b ≡ false
contrary true f = absurd (false≢true (f refl))
contrary false f = refl
