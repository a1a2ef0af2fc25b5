-- When two contents have the same tags, and which tags a path has.
use Rattle.std.specs.Prelude.{Bool}
use Rattle.std.specs.Cmp.{IsPartialEquivalence, IsEquivalence, partial_equiv_from_equiv}
use Rattle.std.specs.Cmp.Lexicographic.{pointwise, lists_equiv}
use Rattle.std.specs.Coded.{Coded, coded_list, coded_ℕ}
use Rattle.std.specs.FinMap as map
use Rattle.text_and_lists.specs.Order.{text_cmp, text_eq, text_equiv}
use Rattle.audit_claims.specs.Claims.{Tags}

-- Two contents have as many tags, and the same tag at each place.
abbrev pub tags_eq : Tags → Tags → Bool
tags_eq = pointwise text_eq

pub tags_equiv : IsEquivalence tags_eq
tags_equiv = lists_equiv text_equiv

pub tags_per : IsPartialEquivalence tags_eq
tags_per = partial_equiv_from_equiv tags_equiv

-- Paths with the tags of their contents, as a finite map.
abbrev pub TagMap : Type 0
TagMap = map.FinMap text_cmp Tags

-- The code of such a map.
abbrev pub coded_tags : Coded TagMap
coded_tags = map.code (coded_list coded_ℕ) (coded_list (coded_list coded_ℕ))
