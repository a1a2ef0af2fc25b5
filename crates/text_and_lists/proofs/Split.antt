-- The first part of a text and the first line of some bytes, found from the front.
use Rattle.text_and_lists.proofs.Bools.{not_so}
use Rattle.text_and_lists.specs.Lines.{lines_from, lines_of, unless_empty, without_return}
use Rattle.text_and_lists.specs.inner.Lines.{is_inside}
use Rattle.text_and_lists.specs.Parts.{is_other, parts_from, parts_of}
use Rattle.std.proofs.Common.{Bool, List, ap, append_assoc, arith, drop, eq-eqb, false, get_or, length, refl, subst, suc, sym, take, true}
use Rattle.std.proofs.Common.{ℕ, [], ◌++◌, ◌<◌, ◌==◌, ◌∙◌, ◌∷◌, ◌≡◌}
use Rattle.std.proofs.Math.ListN.{drop_of_length-le}
use Rattle.std.proofs.Math.Seq.{drop-cons}
use Rattle.std.proofs.lemmas.Bool.{and_parts, cases_lt, eqb-true}
use Rattle.std.proofs.lemmas.List.{append-nil, nil_from_length, take-append-drop}
use Rattle.std.specs.List.{list_all}

pub first_from : (line front rest : List ℕ) → list_all is_inside front ≡ true
    → lines_from line (front ++ 10 ∷ rest) ≡ without_return (line ++ front) ∷ lines_of rest
unfolding lines_from
first_from line [] rest h = ap (λ (l : List ℕ). without_return l ∷ lines_of rest) (sym (append-nil line))
first_from line (x ∷ front) rest h =
    let p = and_parts (is_inside x) _ h in
    rw (not_so (x == 10) p.0) (first_from (line ++ x ∷ []) front rest p.1 ∙ ap (λ (l : List ℕ). without_return l ∷ lines_of rest)
    (append_assoc line (x ∷ []) front))

ended : (line : List ℕ) → 0 < length line → unless_empty line ≡ line ∷ []
ended line h = grind arith

last_from : (line front : List ℕ) → list_all is_inside front ≡ true → 0 < length (line ++ front)
    → lines_from line front ≡ (line ++ front) ∷ []
unfolding lines_from
last_from line [] h some = let e = append-nil line in ended line (subst (λ (l : List ℕ). 0 < length l) e some) ∙ ap (λ (l : List ℕ). l ∷ [])
    (sym e)
last_from line (x ∷ front) h some =
    let p = and_parts (is_inside x) _ h in
    let e = append_assoc line (x ∷ []) front in
    rw (not_so (x == 10) p.0) (last_from (line ++ x ∷ []) front p.1 (subst (λ (l : List ℕ). 0 < length l) (sym e) some) ∙ ap
    (λ (l : List ℕ). l ∷ []) e)

pub last_line : (bytes : List ℕ) (i : ℕ) → 0 < length bytes → drop i bytes ≡ [] → list_all is_inside (take i bytes) ≡ true
    → lines_of bytes ≡ take i bytes ∷ lines_of (drop i bytes)
unfolding lines_from
last_line bytes i some at h =
    let parts : bytes ≡ take i bytes = sym (take-append-drop i bytes) ∙ ap (λ (l : List ℕ). take i bytes ++ l) at ∙ append-nil
    (take i bytes) in
    ap lines_of parts ∙ last_from [] (take i bytes) h (subst (λ (l : List ℕ). 0 < length l) parts some) ∙ ap
    (λ (l : List ℕ). take i bytes ∷ lines_of l) (sym at)

pub part_from : (s : ℕ) (word front rest : List ℕ) → list_all (is_other s) front ≡ true
    → parts_from s word (front ++ s ∷ rest) ≡ (word ++ front) ∷ parts_of s rest
unfolding parts_from
part_from s word [] rest h = rw (eq-eqb s s refl) (ap (λ (l : List ℕ). l ∷ parts_of s rest) (sym (append-nil word)))
part_from s word (x ∷ front) rest h =
    let p = and_parts (is_other s x) _ h in
    rw (not_so (x == s) p.0) (part_from s (word ++ x ∷ []) front rest p.1 ∙ ap (λ (l : List ℕ). l ∷ parts_of s rest)
    (append_assoc word (x ∷ []) front))

pub lone_from : (s : ℕ) (word front : List ℕ) → list_all (is_other s) front ≡ true → parts_from s word front ≡ (word ++ front) ∷ []
unfolding parts_from
lone_from s word [] h = ap (λ (l : List ℕ). l ∷ []) (sym (append-nil word))
lone_from s word (x ∷ front) h =
    let p = and_parts (is_other s x) _ h in
    rw (not_so (x == s) p.0) (lone_from s (word ++ x ∷ []) front p.1 ∙ ap (λ (l : List ℕ). l ∷ []) (append_assoc word (x ∷ []) front))

pub first_part : (s : ℕ) (text : List ℕ) (i : ℕ) → i < length text → get_or text i 0 ≡ s → list_all (is_other s) (take i text) ≡ true
    → parts_of s text ≡ take i text ∷ parts_of s (drop 1 (drop i text))
first_part s text i lt at h =
    let e : drop i text ≡ s ∷ drop (suc i) text = drop-cons text i 0 lt ∙ ap (λ (x : ℕ). x ∷ drop (suc i) text) at in
    let parts : text ≡ take i text ++ s ∷ drop (suc i) text = sym (take-append-drop i text) ∙ ap (λ (l : List ℕ). take i text ++ l) e in
    ap (parts_of s) parts ∙ part_from s [] (take i text) (drop (suc i) text) h ∙ ap (λ (l : List ℕ). take i text ∷ parts_of s (drop 1 l))
    (sym e)

pub lone_part : (s : ℕ) (text : List ℕ) (i : ℕ) → drop i text ≡ [] → list_all (is_other s) (take i text) ≡ true
    → parts_of s text ≡ take i text ∷ []
lone_part s text i at h =
    let parts : text ≡ take i text = sym (take-append-drop i text) ∙ ap (λ (l : List ℕ). take i text ++ l) at ∙ append-nil (take i text) in
    ap (parts_of s) parts ∙ lone_from s [] (take i text) h

pub none_left : (xs ys : List ℕ) {b : Bool} → xs ≡ ys → b ≡ (length xs == 0) → b ≡ true → ys ≡ []
none_left xs ys e is h = nil_from_length ys (ap length (sym e) ∙ eqb-true _ _ (sym is ∙ h))

pub not_past : (xs ys : List ℕ) (i : ℕ) {b : Bool} → ys ≡ drop i xs → b ≡ (length ys == 0) → b ≡ false → i < length xs
not_past xs ys i h g e = grind (arith, cases_lt, drop_of_length-le)
