-- The search over lines for the first separator line.
use Rattle.text_and_lists.proofs.Bools.{not_so}
use Rattle.text_and_lists.specs.Lines.{without_return}
use Rattle.text_and_lists.specs.inner.Lines.{is_inside}
use Rattle.text_and_lists.specs.Parts.{parts_of}
use Rattle.std.proofs.Common.{List, ap, append_assoc, arith, drop, false, length, length-append, sym, take, true, ℕ, [], ◌++◌, ◌+◌, ◌==◌}
use Rattle.std.proofs.Common.{◌∙◌, ◌∷◌, ◌≡◌, ◌≤◌}
use Rattle.std.proofs.Math.ListN.{drop_of_length-le}
use Rattle.std.proofs.Math.Seq.{drop-append_seam, take-append_seam}
use Rattle.std.proofs.lemmas.Bool.{and_parts}
use Rattle.std.proofs.lemmas.List.{append-nil, length-take-le, take-append-drop}
use Rattle.std.specs.List.{list_all}
use Rattle.std.specs.Prelude.{None, Some, if◌then◌else◌}
use Rattle.twin_script.proofs.Lines.{cut_at, lone_at}
use Rattle.twin_script.specs.Cutting.{cut, cut_from, is_parting}

-- A whole line is the separator, or it comes before the first separator line.
pub passed_line : (lines line front rest : List ℕ) → list_all is_inside front ≡ true
    → cut_from lines line (front ++ 10 ∷ rest) ≡ (if is_parting (without_return (line ++ front)) then Some (lines, rest) else cut_from
    (lines ++ ((line ++ front) ++ 10 ∷ [])) [] rest)
unfolding cut_from
passed_line lines line [] rest h = ap (λ (l : List ℕ). if is_parting (without_return l) then Some (lines, rest) else cut_from
    (lines ++ (l ++ 10 ∷ [])) [] rest) (sym (append-nil line))
passed_line lines line (x ∷ front) rest h =
    let p = and_parts (is_inside x) _ h in
    rw (not_so (x == 10) p.0)
    (passed_line lines (line ++ x ∷ []) front rest p.1 ∙ ap (λ (l : List ℕ). if is_parting (without_return l) then Some (lines, rest) else
    cut_from (lines ++ (l ++ 10 ∷ [])) [] rest) (append_assoc line (x ∷ []) front))

-- The last line, without an LF.
pub last_line : (lines line front : List ℕ) → list_all is_inside front ≡ true
    → cut_from lines line front ≡ (if is_parting (line ++ front) then Some (lines, []) else None)
unfolding cut_from
last_line lines line [] h = ap (λ (l : List ℕ). if is_parting l then Some (lines, []) else None) (sym (append-nil line))
last_line lines line (x ∷ front) h =
    let p = and_parts (is_inside x) _ h in
    rw (not_so (x == 10) p.0) (last_line lines (line ++ x ∷ []) front p.1 ∙ ap
    (λ (l : List ℕ). if is_parting l then Some (lines, []) else None) (append_assoc line (x ∷ []) front))

-- Holds if the search moves past a line and its LF.
pub record Moved (bytes line rest : List ℕ) (at next : ℕ) : Type 0 where
  pub before : take next bytes ≡ take at bytes ++ (line ++ 10 ∷ [])
  pub behind : drop next bytes ≡ rest
  pub within : next ≤ length bytes

pub moved : (bytes line rest : List ℕ) (at next : ℕ) → at ≤ length bytes → drop at bytes ≡ line ++ 10 ∷ rest → next ≡ at + (length line + 1)
    → Moved bytes line rest at next
moved bytes line rest at next fits e is =
    let seen : List ℕ = take at bytes ++ (line ++ 10 ∷ []) in
    let whole : bytes ≡ seen ++ rest =
    sym (take-append-drop at bytes) ∙ ap (λ (l : List ℕ). take at bytes ++ l) (e ∙ sym (append_assoc line (10 ∷ []) rest))
    ∙ sym (append_assoc (take at bytes) (line ++ 10 ∷ []) rest) in
    let long : next ≡ length seen = omega (
      arith,
      is,
      length-take-le at bytes fits,
      length-append (take at bytes) (line ++ 10 ∷ []),
      length-append line (10 ∷ []),
    ) in
    record {
      before = ap (λ (n : ℕ). take n bytes) long ∙ ap (λ (l : List ℕ). take (length seen) l) whole ∙ take-append_seam seen rest;
      behind = ap (λ (n : ℕ). drop n bytes) long ∙ ap (λ (l : List ℕ). drop (length seen) l) whole ∙ drop-append_seam seen rest;
      within = omega (arith, long, ap length whole, length-append seen rest);
    }

-- The result of the search at a line that begins after `front`, which has the bytes before `at`.
module _ (bytes front behind line : List ℕ) (at : ℕ) (f : front ≡ take at bytes) (b : behind ≡ drop at bytes)
    (so_far : cut_from (take at bytes) [] (drop at bytes) ≡ cut bytes) where
  from_here : cut_from front [] behind ≡ cut bytes
  from_here = ap (λ (l : List ℕ). cut_from l [] behind) f ∙ ap (cut_from (take at bytes) []) b ∙ so_far

  last_is : parts_of 10 behind ≡ line ∷ [] → (if is_parting line then Some (front, []) else None) ≡ cut bytes
  last_is e =
      let c = lone_at 10 behind line e in
      sym (last_line front [] behind c.inside ∙ ap (λ (l : List ℕ). if is_parting l then Some (front, []) else None) c.whole) ∙ from_here

  pub last_parts : parts_of 10 behind ≡ line ∷ [] → is_parting line ≡ true → Some (front, []) ≡ cut bytes
  last_parts e is = rw is at (last_is e)

  pub last_none : parts_of 10 behind ≡ line ∷ [] → is_parting line ≡ false → None ≡ cut bytes
  last_none e is = rw is at (last_is e)

  -- A whole line is the separator, or the search goes on after it.
  line_is : (rest : List ℕ) → parts_of 10 behind ≡ line ∷ parts_of 10 rest
      → (if is_parting (without_return line) then Some (take at bytes, rest) else cut_from (take at bytes ++ (line ++ 10 ∷ [])) [] rest) ≡
      cut bytes
  line_is rest e = let c = cut_at 10 behind line rest e in sym (ap (cut_from (take at bytes) []) (sym b ∙ c.whole) ∙ passed_line
      (take at bytes) [] line rest c.inside) ∙ so_far

  pub parts_here : (rest : List ℕ) → parts_of 10 behind ≡ line ∷ parts_of 10 rest → is_parting (without_return line) ≡ true
      → Some (front, rest) ≡ cut bytes
  parts_here rest e is = ap (λ (l : List ℕ). Some (l, rest)) f ∙ (rw is at (line_is rest e))

  pub goes_on : (rest : List ℕ) (next : ℕ) → at ≤ length bytes → next ≡ at + (length line + 1)
      → parts_of 10 behind ≡ line ∷ parts_of 10 rest → is_parting (without_return line) ≡ false → (next ≤ length bytes)
      × (cut_from (take next bytes) [] (drop next bytes) ≡ cut bytes)
  goes_on rest next fits is_next e is =
      let m = moved bytes line rest at next fits (sym b ∙ (cut_at 10 behind line rest e).whole) is_next in
      (m.within, rw (m.before, m.behind) (rw is at (line_is rest e)))

-- No line is left.
pub none_parts : (bytes : List ℕ) (at : ℕ) → length bytes ≤ at → cut_from (take at bytes) [] (drop at bytes) ≡ cut bytes → None ≡ cut bytes
unfolding cut_from
none_parts bytes at past so_far = rw (drop_of_length-le bytes past) at so_far
