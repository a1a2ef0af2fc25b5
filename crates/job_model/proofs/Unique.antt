-- A path that is made unique to a job determines the original path.
use Rattle.text_and_lists.proofs.Counts.{some_part}
use Rattle.text_and_lists.proofs.Cuts.{cut_once}
use Rattle.text_and_lists.proofs.Pieces.{join_parts, one_part, parts_append}
use Rattle.text_and_lists.specs.Parts.{is_other, parts_from, parts_of}
use Rattle.job_model.specs.Placed.{path_of, unique_name, with_id, with_id_last}
use Rattle.s3_types.specs.Names.{is_id_byte, is_job_id}
use Rattle.std.proofs.Common.{Bool, List, ap, false, inl, inr, not, refl, subst, sym, true, ℕ, [], ◌++◌, ◌==◌, ◌∙◌, ◌∷◌, ◌≡◌, ◌⊎◌}
use Rattle.std.proofs.lemmas.Bool.{and_parts, eqb-true, false≢true}
use Rattle.std.proofs.lemmas.List.{append-nil, append_cancel_right}
use Rattle.std.proofs.lemmas.List.Folds.{list_all-append}
use Rattle.std.specs.List.{join_with_byte, list_all}

-- ---- a job's id has neither a dot nor a slash

id_byte : (s b : ℕ) → is_id_byte s ≡ false → is_id_byte b ≡ true → is_other s b ≡ true
id_byte s b n h = by (b == s) refl
  where
    by : (t : Bool) → (b == s) ≡ t → not t ≡ true
    by true e = absurd (false≢true (sym n ∙ ap is_id_byte (sym (eqb-true b s e)) ∙ h))
    by false e = refl

id_others : (s : ℕ) (id : List ℕ) → is_id_byte s ≡ false → list_all is_id_byte id ≡ true → list_all (is_other s) id ≡ true
id_others s [] n h = refl
id_others s (b ∷ id) n h = let p = and_parts (is_id_byte b) (list_all is_id_byte id) h in rw (id_byte s b n p.0, id_others s id n p.1) refl

pub id_bytes : (id : List ℕ) → is_job_id id ≡ true → list_all is_id_byte id ≡ true
id_bytes id h = (and_parts _ _ h).1

-- ---- a name with the id, cut at the first dot

pub record Cut (id x : List ℕ) : Type 0 where
  pub front : List ℕ
  pub rest : List ℕ
  pub is : x ≡ front ++ rest
  pub made : with_id id x ≡ (front ++ 45 ∷ id) ++ rest
  pub clean : list_all (is_other 46) front ≡ true
  pub ends : (rest ≡ []) ⊎ ((r : List ℕ) × (rest ≡ 46 ∷ r))

pub cut_id : (id x : List ℕ) → Cut id x
cut_id id [] = record { front = []; rest = []; is = refl; made = sym (append-nil (45 ∷ id)); clean = refl; ends = inl refl }
cut_id id (x ∷ name) = by (x == 46) refl (cut_id id name)
  where
    by : (b : Bool) → (x == 46) ≡ b → Cut id name → Cut id (x ∷ name)
    by true e old = record {
      front = [];
      rest = x ∷ name;
      is = refl;
      made = rw e refl;
      clean = refl;
      ends = inr
          (name, ap (λ (y : ℕ). y ∷ name) (eqb-true x 46 e));
    }
    by false e old = record {
      front = x ∷ old.front;
      rest = old.rest;
      is = ap (λ (l : List ℕ). x ∷ l) old.is;
      made = rw e (ap (λ (l : List ℕ). x ∷ l) old.made);
      clean = rw e old.clean;
      ends = old.ends;
    }

dotless : (id front : List ℕ) → list_all is_id_byte id ≡ true → list_all (is_other 46) front ≡ true
    → list_all (is_other 46) (front ++ 45 ∷ id) ≡ true
dotless id front h g = list_all-append (is_other 46) front (45 ∷ id) ∙ rw (g, id_others 46 id refl h) refl

dotted : (front r : List ℕ) → list_all (is_other 46) (front ++ 46 ∷ r) ≡ true → ⊥
dotted [] r h = false≢true h
dotted (x ∷ front) r h = dotted front r (and_parts (is_other 46 x) _ h).1

fronts : (id f g r s : List ℕ) → list_all is_id_byte id ≡ true → list_all (is_other 46) f ≡ true → list_all (is_other 46) g ≡ true
    → (r ≡ []) ⊎ ((x : List ℕ) × (r ≡ 46 ∷ x)) → (s ≡ []) ⊎ ((x : List ℕ) × (s ≡ 46 ∷ x)) → (f ++ 45 ∷ id) ++ r ≡ (g ++ 45 ∷ id) ++ s
    → f ++ r ≡ g ++ s
fronts id f g r s h cf cg (inl a) (inl b) e =
    let left : (f ++ 45 ∷ id) ++ r ≡ f ++ 45 ∷ id = ap (λ (l : List ℕ). (f ++ 45 ∷ id) ++ l) a ∙ append-nil (f ++ 45 ∷ id) in
    let right : (g ++ 45 ∷ id) ++ s ≡ g ++ 45 ∷ id = ap (λ (l : List ℕ). (g ++ 45 ∷ id) ++ l) b ∙ append-nil (g ++ 45 ∷ id) in
    let same : f ≡ g = append_cancel_right f g (45 ∷ id) (sym left ∙ e ∙ right) in
    ap (λ (l : List ℕ). l ++ r) same ∙ ap (λ (l : List ℕ). g ++ l) (a ∙ sym b)
fronts id f g r s h cf cg (inl a) (inr b) e =
    let left : (f ++ 45 ∷ id) ++ r ≡ f ++ 45 ∷ id = ap (λ (l : List ℕ). (f ++ 45 ∷ id) ++ l) a ∙ append-nil (f ++ 45 ∷ id) in
    absurd (dotted (g ++ 45 ∷ id) b.0 (ap (list_all (is_other 46)) (sym (sym left ∙ e ∙ ap (λ (l : List ℕ). (g ++ 45 ∷ id) ++ l) b.1)) ∙
    dotless id f h cf))
fronts id f g r s h cf cg (inr a) (inl b) e =
    let right : (g ++ 45 ∷ id) ++ s ≡ g ++ 45 ∷ id = ap (λ (l : List ℕ). (g ++ 45 ∷ id) ++ l) b ∙ append-nil (g ++ 45 ∷ id) in
    absurd (dotted (f ++ 45 ∷ id) a.0 (ap (list_all (is_other 46)) (ap (λ (l : List ℕ). (f ++ 45 ∷ id) ++ l) (sym a.1) ∙ e ∙ right) ∙
    dotless id g h cg))
fronts id f g r s h cf cg (inr a) (inr b) e =
    let both = cut_once 46 (f ++ 45 ∷ id) (g ++ 45 ∷ id) a.0 b.0 (dotless id f h cf) (dotless id g h cg)
    (ap (λ (l : List ℕ). (f ++ 45 ∷ id) ++ l) (sym a.1) ∙ e ∙ ap (λ (l : List ℕ). (g ++ 45 ∷ id) ++ l) b.1) in
    let same : f ≡ g = append_cancel_right f g (45 ∷ id) both.front in
    ap (λ (l : List ℕ). l ++ r) same ∙ ap (λ (l : List ℕ). g ++ l) (a.1 ∙ ap (λ (l : List ℕ). 46 ∷ l) both.back ∙ sym b.1)

with_id_same : (id x y : List ℕ) → list_all is_id_byte id ≡ true → with_id id x ≡ with_id id y → x ≡ y
with_id_same id x y h e =
    let a = cut_id id x in
    let b = cut_id id y in
    a.is ∙ fronts id a.front b.front a.rest b.rest h a.clean b.clean a.ends b.ends (sym a.made ∙ e ∙ b.made) ∙ sym b.is

-- ---- the last element of a path

lasts_same : (id : List ℕ) (es fs : List (List ℕ)) → list_all is_id_byte id ≡ true → with_id_last id es ≡ with_id_last id fs → es ≡ fs
lasts_same id [] [] h e = refl
lasts_same id [] (f ∷ []) h e = absurd cc
lasts_same id [] (f ∷ g ∷ fs) h e = absurd cc
lasts_same id (e ∷ []) [] h same = absurd cc
lasts_same id (e ∷ []) (f ∷ []) h same = let one : with_id id e ≡ with_id id f = cc in ap (λ (x : List ℕ). x ∷ [])
    (with_id_same id e f h one)
lasts_same id (e ∷ []) (f ∷ g ∷ []) h same = absurd cc
lasts_same id (e ∷ []) (f ∷ g ∷ k ∷ fs) h same = absurd cc
lasts_same id (e ∷ d ∷ es) [] h same = absurd cc
lasts_same id (e ∷ d ∷ []) (f ∷ []) h same = absurd cc
lasts_same id (e ∷ d ∷ k ∷ es) (f ∷ []) h same = absurd cc
lasts_same id (e ∷ d ∷ es) (f ∷ g ∷ fs) h same =
    let first : e ≡ f = cc in
    let others : with_id_last id (d ∷ es) ≡ with_id_last id (g ∷ fs) = cc in
    ap (λ (x : List ℕ). x ∷ d ∷ es) first ∙ ap (λ (l : List (List ℕ)). f ∷ l) (lasts_same id (d ∷ es) (g ∷ fs) h others)

-- Holds if no element has a slash.
abbrev AreParts : List (List ℕ) → Type 0
AreParts [] = Unit {0}
AreParts (e ∷ es) = (list_all (is_other 47) e ≡ true) × AreParts es

parts_clean : (part text : List ℕ) → list_all (is_other 47) part ≡ true → AreParts (parts_from 47 part text)
unfolding parts_from
parts_clean part [] h = (h, tt)
parts_clean part (x ∷ xs) h = by (x == 47) refl (parts_clean [] xs refl) (parts_clean (part ++ x ∷ []) xs)
  where
    by : (b : Bool) → (x == 47) ≡ b → AreParts (parts_from 47 [] xs)
        → (list_all (is_other 47) (part ++ x ∷ []) ≡ true → AreParts (parts_from 47 (part ++ x ∷ []) xs))
        → AreParts (parts_from 47 part (x ∷ xs))
    by true e new old = rw e (h, new)
    by false e new old = rw e (old (list_all-append (is_other 47) part (x ∷ []) ∙ rw (h, e) refl))

with_id_clean : (id x : List ℕ) → list_all is_id_byte id ≡ true → list_all (is_other 47) x ≡ true
    → list_all (is_other 47) (with_id id x) ≡ true
with_id_clean id [] h g = id_others 47 id refl h
with_id_clean id (x ∷ name) h g = by (x == 46) refl (with_id_clean id name h (and_parts (is_other 47 x) _ g).1)
  where
    by : (b : Bool) → (x == 46) ≡ b → list_all (is_other 47) (with_id id name) ≡ true
        → list_all (is_other 47) (with_id id (x ∷ name)) ≡ true
    by true e old = rw e (list_all-append (is_other 47) id (x ∷ name) ∙ rw (id_others 47 id refl h, g) refl)
    by false e old = rw e (rw ((and_parts (is_other 47 x) _ g).0, old) refl)

lasts_clean : (id : List ℕ) (es : List (List ℕ)) → list_all is_id_byte id ≡ true → AreParts es → AreParts (with_id_last id es)
lasts_clean id [] h p = tt
lasts_clean id (e ∷ []) h p = (with_id_clean id e h p.0, tt)
lasts_clean id (e ∷ f ∷ es) h p = (p.0, lasts_clean id (f ∷ es) h p.1)

-- Joined elements are split into the same elements.
joined_parts : (e : List ℕ) (es : List (List ℕ)) → AreParts (e ∷ es) → parts_of 47 (join_with_byte 47 (e ∷ es)) ≡ e ∷ es
joined_parts e [] p = one_part 47 e p.0
joined_parts e (f ∷ es) p = parts_append 47 e (join_with_byte 47 (f ∷ es)) ∙ rw (one_part 47 e p.0)
    (ap (λ (l : List (List ℕ)). e ∷ l) (joined_parts f es p.1))

joined_lasts : (id e : List ℕ) (es : List (List ℕ)) → AreParts (with_id_last id (e ∷ es))
    → parts_of 47 (join_with_byte 47 (with_id_last id (e ∷ es))) ≡ with_id_last id (e ∷ es)
joined_lasts id e [] p = joined_parts (with_id id e) [] p
joined_lasts id e (f ∷ es) p = joined_parts e (with_id_last id (f ∷ es)) p

pub unique_parts : (id p : List ℕ) → list_all is_id_byte id ≡ true → parts_of 47 (unique_name p id) ≡ with_id_last id (parts_of 47 p)
unique_parts id p h =
    let some = some_part 47 [] p in
    let clean : AreParts (with_id_last id (some.0 ∷ some.1)) = subst (λ es. AreParts (with_id_last id es)) some.2
    (lasts_clean id (parts_of 47 p) h (parts_clean [] p refl)) in
    ap (λ (es : List (List ℕ)). parts_of 47 (join_with_byte 47 (with_id_last id es))) some.2 ∙ joined_lasts id some.0 some.1 clean ∙ ap
    (with_id_last id) (sym some.2)

unique_same : (id p q : List ℕ) → is_job_id id ≡ true → unique_name p id ≡ unique_name q id → p ≡ q
unique_same id p q job e =
    let h = id_bytes id job in
    let parts : parts_of 47 p ≡ parts_of 47 q = lasts_same id (parts_of 47 p) (parts_of 47 q) h
    (sym (unique_parts id p h) ∙ ap (parts_of 47) e ∙ unique_parts id q h) in
    sym (join_parts 47 p) ∙ ap (join_with_byte 47) parts ∙ join_parts 47 q

pub path_same : (unique : Bool) (id p q : List ℕ) → is_job_id id ≡ true → path_of unique id p ≡ path_of unique id q → p ≡ q
path_same true id p q job e = unique_same id p q job e
path_same false id p q job e = e
