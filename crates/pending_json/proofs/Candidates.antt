-- The candidate that a quick look makes of a text may be a record.
use Rattle.pending_json.proofs.Values.{counted}
use Rattle.pending_json.specs.Fields.{is_count, is_tag_text, tag_of}
use Rattle.pending_json.specs.Pending.{are_tags}
use Rattle.s3_types.specs.Tags.{Spelled, is_plain_tag}
use Rattle.std.proofs.Common.{Err, IfOk, IfSome, List, Ok, Result, Some, ap, arith, leb, length, refl, subst, true, ℕ, [], ◌++◌, ◌∙◌, ◌∷◌}
use Rattle.std.proofs.Common.{◌≡◌}
use Rattle.std.proofs.lemmas.List.Folds.{list_all-append}
use Rattle.std.proofs.lemmas.Option.{cond_some}
use Rattle.std.proofs.lemmas.Slice.Eq.{bytes_eq-Decides}
use Rattle.std.specs.List.{AllByRecursion, list_all, list_any}
use Rattle.std.specs.Prelude.{bytes_eq}
use Rattle.std.specs.Result.{result_ok}
use Rattle.std.specs.Str.{is_utf8}

-- One more element with the property P.
pub all_more : {X : Type 0} (P : X → Type 0) (xs : List X) (x : X) → AllByRecursion P xs → P x → AllByRecursion P (xs ++ x ∷ [])
all_more P [] x h p = (p, tt)
all_more P (y ∷ xs) x h p = (h.0, all_more P xs x h.1 p)

-- The tag of a text is the tag of a part.
pub plain_tag : (s : List ℕ) (t : Spelled) → tag_of s ≡ Some t → is_plain_tag t ≡ true
plain_tag s t e = let p = cond_some (is_tag_text s) (record { digits = s; parts = 0 }) t e in subst (λ x. is_plain_tag x ≡ true) p.1
    (rw p.0 refl)

pub plain_more : (ts : List Spelled) (t : Spelled) → list_all is_plain_tag ts ≡ true → is_plain_tag t ≡ true
    → list_all is_plain_tag (ts ++ t ∷ []) ≡ true
plain_more ts t h p = list_all-append is_plain_tag ts (t ∷ []) ∙ rw (h, p) refl

-- 1 to 10,000 tags of parts.
pub tags_are : (ts : List Spelled) → is_count ts ≡ true → list_all is_plain_tag ts ≡ true → are_tags ts ≡ true
tags_are ts h p = counted (leb 1 (length ts)) (leb (length ts) 10000) _ h p

-- A copy of a text is a text.
pub copied_text : {E : Type 0} (copy : Result (List ℕ) E) (text : List ℕ) → IfOk copy (λ x. x ≡ text) → is_utf8 text ≡ true
    → IfSome (result_ok copy) (λ x. is_utf8 x ≡ true)
copied_text (Ok x) text same h = ap is_utf8 same ∙ h
copied_text (Err fault) text same h = tt

same_either_way : (xs ys : List ℕ) → bytes_eq xs ys ≡ bytes_eq ys xs
same_either_way xs ys = grind (arith, bytes_eq-Decides xs ys, bytes_eq-Decides ys xs)

-- A name is one of these.
pub among : (names : List (List ℕ)) (name : List ℕ) → list_any (λ known. bytes_eq known name) names ≡ list_any (bytes_eq name) names
among [] name = refl
among (known ∷ names) name = rw (same_either_way known name, among names name) refl
