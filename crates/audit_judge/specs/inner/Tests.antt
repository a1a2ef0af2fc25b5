-- Tests of what readers see at one path.
use Rattle.std.specs.Prelude.{ℕ, List, [], Bool, true, false, not, ◌&&◌, ◌||◌, Option, Some, None, is_some}
use Rattle.std.specs.List.{list_any}
use Rattle.soundness.specs.Claims.{Claim, file_at, is_kept, is_replaced}
use Rattle.soundness.specs.Moments.{Shown}
use Rattle.judging.specs.Listed.{Listed, Numbered, numbered, owner}
use Rattle.audit_claims.specs.Claims.{Tags}
use Rattle.audit_claims.specs.Etags.{tags_eq}

-- True if two paths have the same tags, or both have no file.
abbrev pub same_tags : Option Tags → Option Tags → Bool
same_tags None None = true
same_tags None (Some y) = false
same_tags (Some x) None = false
same_tags (Some x) (Some y) = tags_eq x y

-- Whether `Fits` holds: the opening has `o`, the chosen attempts write `f`, and readers see `v`.
abbrev pub fits_by : (kept : Bool) (o f v : Option Tags) → Bool
fits_by kept o None v = same_tags v o || (not (is_some v) && not (kept && is_some o))
fits_by kept o (Some x) v = same_tags v o || (not (is_some v) || same_tags v (Some x))

-- Whether `Whole` holds: the opening has `o`, the chosen attempts write `f`, and readers see `v`.
abbrev pub whole_by : (kept replaced : Bool) (o f v : Option Tags) → Bool
whole_by kept replaced o (Some x) v = same_tags v (Some x)
whole_by kept replaced None None v = not (is_some v)
whole_by kept replaced (Some x) None None = not kept
whole_by kept replaced (Some x) None (Some y) = tags_eq y x && not replaced

-- True if readers see something else at the path than in the opening.
abbrev pub differs : Shown Tags → Shown Tags → List ℕ → Bool
differs opening shown p = not (same_tags (shown p) (opening p))

-- The attempts of this task, if there is one.
abbrev pub attempts_of : Listed Tags → Option ℕ → Numbered Tags
attempts_of listed None = []
attempts_of listed (Some t) = numbered t listed

-- Some of these attempts has this content at the path.
abbrev pub has_content : List ℕ → Tags → Numbered Tags → Bool
has_content p content attempts = list_any (λ a. same_tags (file_at a.1 p) (Some content)) attempts

-- What readers see there is a file that is neither the opening's nor any of these attempts'.
abbrev pub is_foreign : List ℕ → (attempts : Numbered Tags) (o v : Option Tags) → Bool
is_foreign p attempts o None = false
is_foreign p attempts o (Some content) = not (same_tags o (Some content)) && not (has_content p content attempts)

-- Readers see a file at the path that is neither the opening's nor any attempt's.
abbrev pub foreign_at : Listed Tags → Shown Tags → Shown Tags → List ℕ → Bool
foreign_at listed opening shown p = is_foreign p (attempts_of listed (owner p listed)) (opening p) (shown p)

-- A kept opening file at the path, which no attempt writes, is gone.
abbrev pub lost_at : Claim Tags → Listed Tags → Shown Tags → Shown Tags → List ℕ → Bool
lost_at w listed opening shown p =
    not (is_some (owner p listed)) && is_some (opening p) && not (is_some (shown p)) && is_kept w p

-- A replaced opening file is still at the path, which no attempt writes.
abbrev pub left_at : Claim Tags → Listed Tags → Shown Tags → Shown Tags → List ℕ → Bool
left_at w listed opening shown p =
    not (is_some (owner p listed)) && is_some (opening p) && is_some (shown p) && is_replaced w p

-- What readers see at the path fits an attempt that has this file there.
abbrev pub suits_part : Claim Tags → Shown Tags → Shown Tags → List ℕ → Option Tags → Bool
suits_part w opening shown p f = fits_by (is_kept w p) (opening p) f (shown p)

-- Readers see at the path what the whole job leaves, if the chosen attempt has this file there.
abbrev pub suits_whole : Claim Tags → Shown Tags → Shown Tags → List ℕ → Option Tags → Bool
suits_whole w opening shown p f = whole_by (is_kept w p) (is_replaced w p) (opening p) f (shown p)
