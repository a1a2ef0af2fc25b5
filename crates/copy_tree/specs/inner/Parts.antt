-- Which new keys exist, according to the listing below their place.
use Rattle.text_and_lists.specs.Order.{text_cmp, text_eq}
use Rattle.fs_rename.specs.inner.Copies.{Move}
use Rattle.s3_types.specs.Pages.{text_in}
use Rattle.s3_types.specs.declared.reply.PageEntry.{PageEntry}
use Rattle.std.specs.Ordering.{is_lt}
use Rattle.std.specs.Prelude.{Bool, List, cond, false, not, true, ℕ, [], ◌++◌, ◌∷◌}

-- The entries from the first that is not less than a text.
abbrev pub from_text : List ℕ → List PageEntry → List PageEntry
from_text t [] = []
from_text t (e ∷ es) = cond (is_lt (text_cmp (text_in e) t)) (from_text t es) (e ∷ es)

-- True if the first of them is at the text.
abbrev pub is_first : List ℕ → List PageEntry → Bool
is_first t [] = false
is_first t (e ∷ es) = text_eq (text_in e) t

-- True if a new key is wanted: one that exists (first flag true), or one that does not.
abbrev pub is_wanted : Bool → Bool → Bool
is_wanted true stands = stands
is_wanted false stands = not stands

-- The keys whose new key exists (true), or those whose new key does not.
abbrev pub chosen : Bool → List (List ℕ) → List (List ℕ) → List PageEntry → List (List ℕ)
chosen wanted [] ls es = []
chosen wanted (k ∷ ks) [] es = []
chosen wanted (k ∷ ks) (l ∷ ls) es = cond (is_wanted wanted (is_first l (from_text l es))) (k ∷ []) [] ++ chosen wanted ks ls
    (from_text l es)

-- The moves whose new key exists (true), or those whose new key does not.
abbrev pub kept : Bool → List Move → List PageEntry → List Move
kept wanted [] es = []
kept wanted (p ∷ ps) es = cond (is_wanted wanted (is_first p.1 (from_text p.1 es))) (p ∷ []) [] ++ kept wanted ps (from_text p.1 es)
