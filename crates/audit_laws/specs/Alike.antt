-- Moments at which readers see the same.
use Rattle.std.specs.Prelude.{List, ◌≡◌}
use Rattle.std.specs.List.{AllZip, Contains}
use Rattle.soundness.specs.Moments.{Moment, Same}

-- The commit has begun at both moments or at neither, the same marker exists, and readers see the same at every path.
pub record Alike {I : Type 0} (m n : Moment I) : Type 0 where
  pub begun : m.begun ≡ n.begun
  pub marker : m.marker ≡ n.marker
  pub shown : Same m.shown n.shown

-- There are as many moments in both lists, and at each place they are alike.
abbrev pub AllAlike : {I : Type 0} → List (Moment I) → List (Moment I) → Type 0
AllAlike ms ns = AllZip Alike ms ns

-- Two lists have the same elements, in any order and however often.
pub record SameElements {A : Type 0} (a b : List A) : Type 0 where
  pub on : (x : A) → Contains a x → Contains b x
  pub back : (x : A) → Contains b x → Contains a x
