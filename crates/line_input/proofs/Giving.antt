-- What a call gives of the unread bytes.
use Rattle.text_and_lists.proofs.Bools.{not_so}
use Rattle.text_and_lists.specs.Parts.{is_other}
use Rattle.line_input.specs.inner.Buffers.{IsEnd, IsLineEnd, line_at, rest_at}
use Rattle.line_input.specs.LinesOf.{behind_line, first_line}
use Rattle.line_input.specs.Reading.{Gives, IsCut, IsWhole, unread}
use Rattle.std.proofs.Common.{Bool, List, None, Option, Some, ap, append_assoc, arith, drop, false, inl, inr, length, nat_lt, refl, subst}
use Rattle.std.proofs.Common.{suc, sym, take, true, ℕ, [], ◌++◌, ◌<◌, ◌∙◌, ◌∷◌, ◌≡◌}
use Rattle.std.proofs.Math.Seq.{drop-cons}
use Rattle.std.proofs.lemmas.Bool.{and_parts, ltb-false, ltb-true}
use Rattle.std.proofs.lemmas.List.{append-nil, length-append, nil_from_length, take-append-drop, take_at}
use Rattle.std.specs.List.{list_all}

first_inside : (front rest : List ℕ) → list_all (is_other 10) front ≡ true → first_line (front ++ rest) ≡ front ++ first_line rest
unfolding first_line
first_inside [] rest h = refl
first_inside (x ∷ xs) rest h =
    let p = and_parts (is_other 10 x) _ h in
    rw (not_so _ p.0) (ap (λ (l : List ℕ). x ∷ l) (first_inside xs rest p.1))

behind_inside : (front rest : List ℕ) → list_all (is_other 10) front ≡ true → behind_line (front ++ rest) ≡ behind_line rest
unfolding behind_line
behind_inside [] rest h = refl
behind_inside (x ∷ xs) rest h =
    let p = and_parts (is_other 10 x) _ h in
    rw (not_so _ p.0) (behind_inside xs rest p.1)

first_feed : (rest : List ℕ) → first_line (10 ∷ rest) ≡ []
unfolding first_line
first_feed rest = refl

behind_feed : (rest : List ℕ) → behind_line (10 ∷ rest) ≡ rest
unfolding behind_line
behind_feed rest = refl

first_none : first_line [] ≡ []
unfolding first_line
first_none = refl

behind_none : behind_line [] ≡ []
unfolding behind_line
behind_none = refl

-- A line that ends at a line feed among the held bytes.
whole_line : (held left : List ℕ) (n : ℕ) → IsLineEnd held n → IsWhole (held ++ left) (take n held) (Some (drop (suc n) held ++ left))
whole_line held left n h =
    let cut : drop n held ≡ 10 ∷ drop (suc n) held = drop-cons held n 0 h.within ∙ ap (λ (x : ℕ). x ∷ drop (suc n) held) h.at in
    let parts : held ++ left ≡ take n held ++ (10 ∷ (drop (suc n) held ++ left)) = ap (λ (l : List ℕ). l ++ left)
    (sym (take-append-drop n held) ∙ ap (λ (l : List ℕ). take n held ++ l) cut) ∙ append_assoc (take n held) (10 ∷ drop (suc n) held)
    left in
    record {
      first = sym (ap first_line parts ∙ first_inside (take n held) _ h.before ∙ ap (λ (l : List ℕ). take n held ++ l)
          (first_feed (drop (suc n) held ++ left)) ∙ append-nil (take n held));
      behind = ap (λ (l : List ℕ). Some l) (sym (ap behind_line parts ∙ behind_inside (take n held) _ h.before ∙ behind_feed
          (drop (suc n) held ++ left)));
    }

-- The last line, which has no line feed.
last_line : (held left : List ℕ) → list_all (is_other 10) held ≡ true → left ≡ [] → IsWhole (held ++ left) held (Some left)
last_line held left free over =
    record {
      first = sym (first_inside held left free ∙ ap (λ (l : List ℕ). held ++ first_line l) over ∙ ap (λ (l : List ℕ). held ++ l) first_none
          ∙ append-nil held);
      behind = ap (λ (l : List ℕ). Some l) (over ∙ sym (behind_inside held left free ∙ ap behind_line over ∙ behind_none));
    }

-- A line that is too long.
cut_line : (most : ℕ) (held left : List ℕ) → list_all (is_other 10) held ≡ true → most < length held → IsCut most (held ++ left) held
cut_line most held left free long =
    record {
      long = long;
      front = sym (ap (take (length held)) (first_inside held left free) ∙ take_at held (first_line left) (length held)
          refl);
    }

longer : (held left : List ℕ) → 0 < length held → 0 < length (held ++ left)
longer held left h = omega (arith, length-append held left)

no_more : (held left : List ℕ) → held ≡ [] → left ≡ [] → held ++ left ≡ []
no_more held left e f = ap (λ (l : List ℕ). l ++ left) e ∙ f

given : (most : ℕ) (held : List ℕ) (left : Option (List ℕ)) (end : Option ℕ) (more : Bool) → nat_lt 0 (length held) ≡ more
    → IsEnd most held left end → Gives more most (unread held left) (line_at held end) (unread (rest_at held end) left)
given most held None end more m h = refl
given most held (Some left) None true m h = (
  longer held left (ltb-true 0 (length held) m),
  elim h.ends [
    | inl long ↦ inr (cut_line most held left h.free long)
    | inr over ↦ inl (last_line held left h.free over)
  ],
)
given most held (Some left) None false m h =
    let none : held ≡ [] = nil_from_length held (let e = ltb-false 0 (length held) m in omega arith) in
    let empty : length held ≡ 0 = ap length none in
    elim h.ends [
      | inl long ↦ absurd (omega arith)
      | inr over ↦ (no_more held left none over, ap (λ (l : List ℕ). Some l) over)
    ]
given most held (Some left) (Some n) true m h = (longer held left (ltb-true 0 (length held) m), inl (whole_line held left n h))
given most held (Some left) (Some n) false m h = let e = ltb-false 0 (length held) m in let w = h.within in absurd (omega arith)

pub gives : (most : ℕ) (held line rest : List ℕ) (before left : Option (List ℕ)) (end : Option ℕ) (more : Bool) → unread held left ≡ before
    → nat_lt 0 (length held) ≡ more → IsEnd most held left end → line ≡ line_at held end → rest ≡ rest_at held end
    → Gives more most before line (unread rest left)
gives most held line rest before left end more e m h l r =
    subst (λ (b : Option (List ℕ)). Gives more most b line (unread rest left)) e
    (subst (λ (x : List ℕ). Gives more most (unread held left) x (unread rest left)) (sym l)
    (subst (λ (x : List ℕ). Gives more most (unread held left) (line_at held end) (unread x left)) (sym r)
    (given most held left end more m h)))
