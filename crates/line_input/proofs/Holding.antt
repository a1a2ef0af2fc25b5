-- The held bytes after more was read, and the first line feed among them.
use Rattle.text_and_lists.proofs.Pieces.{others_from_bytes}
use Rattle.text_and_lists.specs.Parts.{is_other}
use Rattle.line_input.specs.inner.Buffers.{IsLineEnd}
use Rattle.line_input.specs.Reading.{unread}
use Rattle.line_input.specs.inner.Reading.{IsOver}
use Rattle.memchr.specs.Find.{IsFirstByte, Nowhere, Passes, is_byte}
use Rattle.devices.specs.Devices.{Takes}
use Rattle.std.proofs.Common.{List, None, Option, Some, ap, append_assoc, arith, drop, get_or, inl, inr, length, length-drop, nat_lt, refl}
use Rattle.std.proofs.Common.{slice_range, subst, suc, sym, take, true, ℕ, [], ◌++◌, ◌+◌, ◌-◌, ◌<◌, ◌∙◌, ◌≡◌, ◌≤◌}
use Rattle.std.proofs.Math.Seq.{take-add}
use Rattle.std.proofs.lemmas.Bool.{cases_lt, eq-eqb, eqb-true, le-ltb, lt-ltb}
use Rattle.std.proofs.lemmas.List.{drop-drop, drop_all, get_or-drop, get_or-take, length-take, length-take-le, take-append-drop, take_all}
use Rattle.std.proofs.lemmas.List.{take_at}
use Rattle.std.proofs.lemmas.List.Folds.{list_all-append}
use Rattle.std.proofs.lemmas.Slice.{between_is}
use Rattle.std.specs.List.{list_all}

-- ---- the held bytes

range_more : (ys : List ℕ) (g f n : ℕ) → g ≤ f → slice_range ys g (f + n) ≡ slice_range ys g f ++ take n (drop f ys)
range_more ys g f n h =
    let len : f + n - g ≡ f - g + n = omega arith in
    let at : g + (f - g) ≡ f = omega arith in
    ap (λ (k : ℕ). take k (drop g ys)) len ∙ take-add (f - g) n (drop g ys) ∙ ap (λ (l : List ℕ). slice_range ys g f ++ take n l)
    (drop-drop (f - g) g ys ∙ ap (λ (k : ℕ). drop k ys) at)

same_range : (xs ys : List ℕ) (g f : ℕ) → take f ys ≡ take f xs → slice_range ys g f ≡ slice_range xs g f
same_range xs ys g f e = between_is ys g f ∙ ap (drop g) e ∙ sym (between_is xs g f)

more_held : (xs ys : List ℕ) (g f n : ℕ) → g ≤ f → take f ys ≡ take f xs
    → slice_range ys g (f + n) ≡ slice_range xs g f ++ take n (drop f ys)
more_held xs ys g f n h e = range_more ys g f n h ∙ ap (λ (l : List ℕ). l ++ take n (drop f ys)) (same_range xs ys g f e)

more_unread : (held : List ℕ) (before after : Option (List ℕ)) (n : ℕ) (buffer : List ℕ) → Takes before after n buffer
    → unread (held ++ take n buffer) after ≡ unread held before
more_unread held None after n buffer t = ap (unread (held ++ take n buffer)) t
more_unread held (Some left) None n buffer t = absurd t
more_unread held (Some left) (Some rest) n buffer t =
    let parts : take n buffer ++ rest ≡ left = ap (λ (l : List ℕ). l ++ rest) t.front ∙ ap (λ (l : List ℕ). take n left ++ l) t.others ∙
    take-append-drop n left in
    ap (λ (l : List ℕ). Some l) (append_assoc held (take n buffer) rest ∙ ap (λ (l : List ℕ). held ++ l) parts)

-- The unread bytes stay the same when some of them are read.
pub still_unread : (xs ys zs held : List ℕ) (g f n : ℕ) (before after : Option (List ℕ)) → zs ≡ ys → g ≤ f → take f ys ≡ take f xs
    → slice_range xs g f ≡ held → Takes before after n (drop f ys) → unread (slice_range zs g (f + n)) after ≡ unread held before
still_unread xs ys zs held g f n before after z h e same t =
    ap (λ (l : List ℕ). unread (slice_range l g (f + n)) after) z ∙ ap (λ (l : List ℕ). unread l after) (more_held xs ys g f n h e)
    ∙ more_unread (slice_range xs g f) before after n (drop f ys) t ∙ ap (λ (l : List ℕ). unread l before) same

-- The bytes that were held come first in those that are held now.
pub front_held : (xs ys zs held : List ℕ) (g f n : ℕ) → zs ≡ ys → g ≤ f → take f ys ≡ take f xs → slice_range xs g f ≡ held
    → take (length held) (slice_range zs g (f + n)) ≡ held
front_held xs ys zs held g f n z h e same =
    ap (λ (l : List ℕ). take (length held) (slice_range l g (f + n))) z
    ∙ ap (take (length held)) (more_held xs ys g f n h e ∙ ap (λ (l : List ℕ). l ++ take n (drop f ys)) same) ∙ take_at held
    (take n (drop f ys)) (length held) refl

-- If nothing was read, the same bytes are held.
pub same_held : (xs ys zs held : List ℕ) (g f : ℕ) → zs ≡ ys → take f ys ≡ take f xs → slice_range xs g f ≡ held → slice_range zs g f ≡ held
same_held xs ys zs held g f z e same = ap (λ (l : List ℕ). slice_range l g f) z ∙ same_range xs ys g f e ∙ same

pub over : (before after : Option (List ℕ)) (n : ℕ) (buffer : List ℕ) → Takes before after n buffer → n ≡ 0 → 0 < length buffer
    → IsOver after
over None after n buffer t none some = subst IsOver (sym t) tt
over (Some left) None n buffer t none some = absurd t
over (Some left) (Some rest) n buffer t none some = t.others ∙ ap (drop n) (t.ends none some) ∙ drop_all n [] (omega arith)

-- True if a byte is held.
pub some_held : (xs : List ℕ) (g f : ℕ) → f ≤ length xs → nat_lt 0 (length (slice_range xs g f)) ≡ nat_lt g f
some_held xs g f fits =
    let len : length (slice_range xs g f) ≡ f - g = omega (arith, length-take (f - g) (drop g xs), length-drop g xs) in
    elim (cases_lt g f) [
      | inl lt ↦ lt-ltb 0 _ (omega arith) ∙ sym (lt-ltb g f lt)
      | inr le ↦ le-ltb 0 _ (omega arith) ∙ sym (le-ltb g f le)
    ]

pub rest_range : (xs : List ℕ) (g f n : ℕ) → slice_range xs (g + n + 1) f ≡ drop (suc n) (slice_range xs g f)
rest_range xs g f n =
    let at : g + n + 1 ≡ g + suc n = omega arith in
    between_is xs (g + n + 1) f ∙ ap (λ (k : ℕ). drop k (take f xs)) at ∙ sym (drop-drop (suc n) g (take f xs)) ∙ ap (drop (suc n))
    (sym (between_is xs g f))

-- ---- the first line feed

others_below : (xs : List ℕ) (k : ℕ) → k ≤ length xs → Nowhere (Passes (is_byte 10) xs) 0 k → list_all (is_other 10) (take k xs) ≡ true
others_below xs k fits h =
    let len : length (take k xs) ≡ k = length-take-le k xs fits in
    others_from_bytes 10 (take k xs) (λ i lt e. let below : i < k = omega arith in h i (omega arith) below
    (eq-eqb (get_or xs i 0) 10 (sym (get_or-take k xs i 0 below) ∙ e)))

both_other : (xs ys : List ℕ) → list_all (is_other 10) xs ≡ true → list_all (is_other 10) ys ≡ true
    → list_all (is_other 10) (xs ++ ys) ≡ true
both_other xs ys h g = list_all-append (is_other 10) xs ys ∙ rw (h, g) refl

-- The line feed that is found after the searched bytes is the first.
pub found_behind : (xs hay : List ℕ) (s n : ℕ) → hay ≡ drop s xs → s ≤ length xs → list_all (is_other 10) (take s xs) ≡ true
    → IsFirstByte (is_byte 10) hay (Some n) → IsLineEnd xs (s + n)
found_behind xs hay s n e fits clean found =
    let f : IsFirstByte (is_byte 10) (drop s xs) (Some n) = subst (λ (l : List ℕ). IsFirstByte (is_byte 10) l (Some n)) e found in
    let high : n < length (drop s xs) = f.0.high in
    let before : list_all (is_other 10) (take n (drop s xs)) ≡ true = others_below (drop s xs) n (omega arith) f.0.before in
    record {
      within = omega (arith, length-drop s xs);
      before = ap (list_all (is_other 10)) (take-add s n xs) ∙ both_other (take s xs) (take n (drop s xs)) clean before;
      at = sym (get_or-drop s xs n 0) ∙ eqb-true (get_or (drop s xs) n 0) 10 f.1;
    }

-- If none is found there, there is none.
pub none_behind : (xs hay : List ℕ) (s : ℕ) → hay ≡ drop s xs → list_all (is_other 10) (take s xs) ≡ true
    → IsFirstByte (is_byte 10) hay None → list_all (is_other 10) xs ≡ true
none_behind xs hay s e clean none =
    let f : IsFirstByte (is_byte 10) (drop s xs) None = subst (λ (l : List ℕ). IsFirstByte (is_byte 10) l None) e none in
    let behind : list_all (is_other 10) (drop s xs) ≡ true = ap (list_all (is_other 10))
    (sym (take_all (length (drop s xs)) (drop s xs) (omega arith))) ∙ others_below (drop s xs) (length (drop s xs)) (omega arith) f in
    ap (list_all (is_other 10)) (sym (take-append-drop s xs)) ∙ both_other (take s xs) (drop s xs) clean behind
