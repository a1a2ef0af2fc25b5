-- The paths of files that scripts give keep the bounds of places.
use Rattle.text_and_lists.specs.Parts.{parts_from, parts_of}
use Rattle.job_model.specs.Legal.{IsGiven}
use Rattle.job_model.specs.Paths.{begins_hidden, is_full, is_hidden, is_path}
use Rattle.job_model.specs.Placed.{unique_name, with_id_last}
use Rattle.job_model.specs.Plans.{IsPlaced}
use Rattle.magic_paths.specs.Places.{is_open, is_record}
use Rattle.std.proofs.Common.{Bool, List, ap, codes, false, inl, inr, length, nat_eq, nat_le, not, refl, sym, true, ℕ, [], ◌&&◌, ◌++◌, ◌==◌}
use Rattle.std.proofs.Common.{◌||◌, ◌∙◌, ◌∷◌, ◌≡◌}
use Rattle.std.proofs.lemmas.Bool.{and_parts, not-true, or_parts, true≢false}
use Rattle.std.specs.List.{ends_with, join_with_byte, list_all, list_any}

-- The parts of a text that begins with a byte of its first part.
record Begins (x : ℕ) (parts : List (List ℕ)) : Type 0 where
  pub front : List ℕ
  pub others : List (List ℕ)
  pub are : parts ≡ (x ∷ front) ∷ others

begun : (x : ℕ) (part text : List ℕ) → Begins x (parts_from 47 (x ∷ part) text)
unfolding parts_from
begun x part [] = record { front = part; others = []; are = refl }
begun x part (y ∷ text) = by (y == 47) refl (begun x (part ++ y ∷ []) text)
  where
    by : (b : Bool) → (y == 47) ≡ b → Begins x (parts_from 47 (x ∷ (part ++ y ∷ [])) text) → Begins x (parts_from 47 (x ∷ part) (y ∷ text))
    by true e old = record { front = part; others = parts_from 47 [] text; are = rw e refl }
    by false e old = record { front = old.front; others = old.others; are = rw e old.are }

-- The first byte of a given path begins its first part, and is neither `_` nor `.`.
record Shown (path : List ℕ) : Type 0 where
  pub first : ℕ
  pub front : List ℕ
  pub others : List (List ℕ)
  pub rest : List ℕ
  pub is : path ≡ first ∷ rest
  pub parts : parts_of 47 path ≡ (first ∷ front) ∷ others
  pub no_mark : nat_eq first 95 ≡ false
  pub no_dot : nat_eq first 46 ≡ false

shown_from : (x : ℕ) (rest front : List ℕ) (others : List (List ℕ)) → parts_of 47 (x ∷ rest) ≡ (x ∷ front) ∷ others
    → is_hidden (x ∷ rest) ≡ false → Shown (x ∷ rest)
shown_from x rest front others e h =
    let any : (begins_hidden (x ∷ front) || list_any begins_hidden others) ≡ false = sym (ap (list_any begins_hidden) e) ∙ h in
    let first : (nat_eq x 95 || nat_eq x 46) ≡ false = (or_parts (begins_hidden (x ∷ front)) _ any).0 in
    let both = or_parts (nat_eq x 95) (nat_eq x 46) first in
    record { first = x; front = front; others = others; rest = rest; is = refl; parts = e; no_mark = both.0; no_dot = both.1 }

full_parts : (path : List ℕ) → is_path path ≡ true → list_all is_full (parts_of 47 path) ≡ true
full_parts path h =
    let a = and_parts (nat_le 1 (length path) && nat_le (length path) 400 && list_all is_full (parts_of 47 path))
    (not (ends_with nat_eq path (codes ".pending"))) h in
    (and_parts (nat_le 1 (length path) && nat_le (length path) 400) (list_all is_full (parts_of 47 path)) a.0).1

given_shown : (path : List ℕ) → IsGiven path → Shown path
unfolding parts_from
given_shown [] g = absurd (true≢false (sym g.stated))
given_shown (x ∷ rest) g = by (x == 47) refl
  where
    full : list_all is_full (parts_of 47 (x ∷ rest)) ≡ true
    full = full_parts (x ∷ rest) g.stated

    by : (b : Bool) → (x == 47) ≡ b → Shown (x ∷ rest)
    by true e = absurd (true≢false (sym (rw e at full)))
    by false e =
        let b = begun x [] rest in
        let are : parts_of 47 (x ∷ rest) ≡ (x ∷ b.front) ∷ b.others = rw e b.are in
        shown_from x rest b.front b.others are g.shown

open_first : (b : ℕ) (bs : List ℕ) → nat_eq b 95 ≡ false → is_open (b ∷ bs) ≡ true
open_first b bs h = rw h refl

open_shown : (path : List ℕ) → Shown path → is_open path ≡ true
open_shown path s = ap is_open s.is ∙ open_first s.first s.rest s.no_mark

pub given_place : (path : List ℕ) → IsGiven path → (is_open path ≡ true) × (is_record path ≡ false)
given_place path g = (open_shown path (given_shown path g), not-true (is_record path) (and_parts _ _ g.stated).1)

-- ---- a path made unique to the job

named_first : (id : List ℕ) (x : ℕ) (front : List ℕ) (others : List (List ℕ)) → nat_eq x 46 ≡ false → nat_eq x 95 ≡ false
    → is_open (join_with_byte 47 (with_id_last id ((x ∷ front) ∷ others))) ≡ true
named_first id x front [] dot mark = rw (dot, mark) refl
named_first id x front (o ∷ others) dot mark = by (with_id_last id (o ∷ others))
  where
    by : (l : List (List ℕ)) → is_open (join_with_byte 47 ((x ∷ front) ∷ l)) ≡ true
    by [] = rw mark refl
    by (e ∷ l) = rw mark refl

unique_open : (id path : List ℕ) → Shown path → is_open (unique_name path id) ≡ true
unique_open id path s = ap (λ (l : List (List ℕ)). is_open (join_with_byte 47 (with_id_last id l))) s.parts ∙ named_first id s.first s.front
    s.others s.no_dot s.no_mark

pub placed_open : (id path : List ℕ) → IsPlaced id path → is_open path ≡ true
placed_open id path (inl g) = open_shown path (given_shown path g)
placed_open id path (inr u) = ap is_open u.2 ∙ unique_open id u.0 (given_shown u.0 u.1)
