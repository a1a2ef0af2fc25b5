-- The order of texts: by their bytes; if one begins with the other, the shorter comes first.
use Rattle.std.specs.Prelude.{◌≡◌, ℕ, List, Bool, Option, Some, nat_eq}
use Rattle.std.specs.Hash as fed
use Rattle.std.specs.Hash.{HashWrites}
use Rattle.std.specs.declared.cmp.Ordering.{Ordering}
use Rattle.std.specs.Ordering.{nat_cmp, eq_by_cmp}
use Rattle.std.specs.Cmp.{IsPartialEquivalence, IsEquivalence, IsPartialOrder, IsTotalOrder, partial_equiv_from_equiv}
use Rattle.std.specs.Cmp.Lexicographic.{slice_cmp, nat_list_cmp_total, nat_list_eq_equiv, texts_po, texts_ties, pointwise}

-- The order of two texts, byte by byte.
abbrev pub text_cmp : List ℕ → List ℕ → Ordering
text_cmp = slice_cmp nat_cmp

-- True if two texts have the same bytes.
abbrev pub text_eq : List ℕ → List ℕ → Bool
text_eq = pointwise nat_eq

-- The order of two texts, as an option; it is never None.
abbrev pub text_partial_cmp : List ℕ → List ℕ → Option Ordering
text_partial_cmp x y = Some (slice_cmp nat_cmp x y)

-- The writes of a text to a hasher.
abbrev pub text_hash : List ℕ → HashWrites
text_hash = fed.slice fed.u8

pub text_per : IsPartialEquivalence text_eq
text_per = partial_equiv_from_equiv nat_list_eq_equiv

pub text_equiv : IsEquivalence text_eq
text_equiv = nat_list_eq_equiv

pub text_po : IsPartialOrder text_eq text_partial_cmp
text_po = texts_po

pub text_total : IsTotalOrder text_cmp
text_total = nat_list_cmp_total

pub text_ties : (x y : List ℕ) → text_eq x y ≡ eq_by_cmp text_cmp x y
text_ties = texts_ties
