-- The text after a key and a `/`.
use Rattle.text_and_lists.proofs.Lists.{front_cancels}
use Rattle.path_keys.specs.Paths.{relative_in}
use Rattle.std.proofs.Common.{Bool, Bor, List, None, Option, Some, ap, append_assoc, arith, cond, drop, false, length, nat_eq, refl, subst}
use Rattle.std.proofs.Common.{sym, take, true, ℕ, [], ◌++◌, ◌<◌, ◌∙◌, ◌∷◌, ◌≡◌}
use Rattle.std.proofs.Math.Seq.{drop-append_seam, take-append_seam}
use Rattle.std.proofs.lemmas.List.{take-append-drop}
use Rattle.std.specs.Cmp.Lexicographic.{bytes_decides}
use Rattle.std.specs.List.{starts_with}
use Rattle.std.specs.Prelude.{MatchOption, option_map}
use Rattle.std.specs.Str.Pattern.{FindsTextPrefix, StripsPrefix}

cut_yes : (pre rest : List ℕ) → cond (starts_with nat_eq (pre ++ rest) pre) (Some (drop (length pre) (pre ++ rest))) None ≡ Some rest
cut_yes pre rest =
    let same : starts_with nat_eq (pre ++ rest) pre ≡ true = (bytes_decides pre (take (length pre) (pre ++ rest))).1
    (sym (take-append_seam pre rest)) in
    ap (λ b. cond b (Some (drop (length pre) (pre ++ rest))) (let n : Option (List ℕ) = None in n)) same ∙ ap Some
    (drop-append_seam pre rest)

cut_no : (pre text : List ℕ) (b : Bool) → starts_with nat_eq text pre ≡ b → ((rest : List ℕ) → text ≡ pre ++ rest → ⊥)
    → cond b (Some (drop (length pre) text)) None ≡ None
cut_no pre text true e h =
    let same : pre ≡ take (length pre) text = (bytes_decides pre (take (length pre) text)).0 e in
    absurd (h (drop (length pre) text) (sym (take-append-drop (length pre) text) ∙ ap (λ v. v ++ drop (length pre) text) (sym same)))
cut_no pre text false e h = refl

pub relative_some : (key text rest : List ℕ) → 0 < length key → text ≡ key ++ 47 ∷ rest → relative_in key text ≡ Some rest
relative_some [] text rest h e = absurd (omega arith)
relative_some (x ∷ xs) text rest h e =
    let pre : List ℕ = (x ∷ xs) ++ 47 ∷ [] in
    let whole : pre ++ rest ≡ text = append_assoc (x ∷ xs) (47 ∷ []) rest ∙ sym e in
    let P : List ℕ → Type 0 = λ v. relative_in (x ∷ xs) v ≡ Some rest in
    subst P whole (cut_yes pre rest)

pub relative_none : (key text : List ℕ) → 0 < length key → ((rest : List ℕ) → text ≡ key ++ 47 ∷ rest → ⊥) → relative_in key text ≡ None
relative_none [] text h absent = absurd (omega arith)
relative_none (x ∷ xs) text h absent = cut_no ((x ∷ xs) ++ 47 ∷ []) text (starts_with nat_eq text ((x ∷ xs) ++ 47 ∷ [])) refl
    (λ rest e. absent rest (e ∙ append_assoc (x ∷ xs) (47 ∷ []) rest))

-- The rest of a text after the key at its front is removed, and then the `/`.
pub behind_front : (key text rest : List ℕ) → 0 < length key → StripsPrefix (FindsTextPrefix key) text rest → (o : Option (Bor (List ℕ)))
    → MatchOption o (FindsTextPrefix (47 ∷ []) rest None) (λ x. StripsPrefix (FindsTextPrefix (47 ∷ [])) rest x.now)
    → option_map (λ (r : Bor (List ℕ)). r.now) o ≡ relative_in key text
behind_front key text rest h g o e = grind (arith, relative_none, front_cancels, relative_some)
