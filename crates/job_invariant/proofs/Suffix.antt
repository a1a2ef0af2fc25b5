-- Of the keys below a job's magic directory, exactly those of records end as records do.
use Rattle.text_and_lists.proofs.Members.{false_true, text_is}
use Rattle.text_and_lists.specs.Order.{text_eq, text_equiv}
use Rattle.magic_paths.proofs.Tails.{below_is}
use Rattle.magic_paths.specs.Layout.{attempt_key, set_key}
use Rattle.magic_paths.specs.Places.{is_record}
use Rattle.path_keys.specs.Paths.{below}
use Rattle.std.proofs.Common.{Bool, List, ap, append_assoc, arith, codes, drop, false, inl, inr, length, length-append, nat_eq, refl, sym}
use Rattle.std.proofs.Common.{take, true, ℕ, [], ◌++◌, ◌+◌, ◌-◌, ◌||◌, ◌∙◌, ◌∷◌, ◌≡◌, ◌≤◌, ◌⊎◌}
use Rattle.std.proofs.Math.Bool.{or-true}
use Rattle.std.proofs.lemmas.List.{drop_at, take-append-drop}
use Rattle.std.specs.Fmt.{decimal}

abbrev ending : List ℕ
ending = codes ".pending"

-- A key with this ending is some text followed by the ending.
record_ends : (k : List ℕ) → is_record k ≡ true → (q : List ℕ) × (k ≡ q ++ ending)
record_ends k h = let n = length k - length ending in (
  take n k,
  sym (take-append-drop n k) ∙ ap (λ l. take n k ++ l)
      (sym (text_is ending (drop n k) h)),
)

ends_record : (p r : List ℕ) → p ≡ r ++ ending → is_record p ≡ true
ends_record p r e =
    let long : length (r ++ ending) ≡ length r + length ending = length-append r ending in
    ap is_record e ∙ ap (text_eq ending) (drop_at r ending (length (r ++ ending) - length ending) (omega arith)) ∙ text_equiv.refl ending

-- ---- a slash in what two endings share

tails : {x y : ℕ} {xs ys : List ℕ} → x ∷ xs ≡ y ∷ ys → xs ≡ ys
tails e = cc

split : (a b p d : List ℕ) → a ++ 47 ∷ p ≡ b ++ d → ((r : List ℕ) × (p ≡ r ++ d)) ⊎ ((r : List ℕ) × (d ≡ r ++ 47 ∷ p))
split [] [] p d e = inr ([], sym e)
split [] (y ∷ b) p d e = inl (b, tails e)
split (x ∷ a) [] p d e = inr (x ∷ a, sym e)
split (x ∷ a) (y ∷ b) p d e = split a b p d (tails e)

abbrev has_slash : List ℕ → Bool
has_slash [] = false
has_slash (x ∷ l) = nat_eq 47 x || has_slash l

slash_in : (r p : List ℕ) → has_slash (r ++ 47 ∷ p) ≡ true
slash_in [] p = refl
slash_in (x ∷ r) p = ap (λ b. nat_eq 47 x || b) (slash_in r p) ∙ or-true (nat_eq 47 x)

-- A path below a directory has this ending only if it has it by itself.
pub below_record : (a p : List ℕ) → is_record p ≡ false → is_record (a ++ 47 ∷ p) ≡ true → ⊥
below_record a p h g =
    let x = record_ends (a ++ 47 ∷ p) g in
    elim (split a x.0 p ending x.1) [
      | inl o ↦ false_true h (ends_record p o.0 o.1)
      | inr o ↦ false_true refl (ap has_slash o.1 ∙ slash_in o.0 p)
    ]

-- ---- the last byte

abbrev last_byte : List ℕ → ℕ
last_byte [] = 0
last_byte (x ∷ []) = x
last_byte (x ∷ y ∷ l) = last_byte (y ∷ l)

last_behind : (a : List ℕ) (x : ℕ) (l : List ℕ) → last_byte (a ++ x ∷ l) ≡ last_byte (x ∷ l)
last_behind (y ∷ z ∷ a) x l = last_behind (z ∷ a) x l
last_behind _ x l = refl

pub set_no_record : (dest job : List ℕ) (t : ℕ) → is_record (set_key dest job t) ≡ true → ⊥
set_no_record dest job t g =
    let x = record_ends (set_key dest job t) g in
    let front = dest ++ (codes "/__magic/job-" ++ (job ++ (codes "/sets/task_" ++ decimal t))) in
    let whole : set_key dest job t ≡ front ++ codes ".pendingset" = sym (simp append_assoc) in
    let same : ◌≡◌ {A = ℕ} 116 103 = sym (last_behind front 46 (codes "pendingset")) ∙ ap last_byte (sym whole ∙ x.1) ∙ last_behind x.0 46
    (codes "pending") in
    absurd (omega arith)

pub marker_no_record : (dest job : List ℕ) (t a : ℕ) (p : List ℕ) → 1 ≤ length dest → is_record p ≡ false
    → is_record (below (attempt_key dest job t a) p) ≡ true → ⊥
marker_no_record dest job t a p h g e = grind (arith, below_record, below_is)

pub record_ends_so : (dest job : List ℕ) (t a : ℕ) (p : List ℕ) → 1 ≤ length dest
    → is_record (below (attempt_key dest job t a) (p ++ codes ".pending")) ≡ true
record_ends_so dest job t a p some =
    let long : 1 ≤ length (attempt_key dest job t a) = simp length-append (omega (arith, some)) in
    ends_record (below (attempt_key dest job t a) (p ++ codes ".pending")) (attempt_key dest job t a ++ 47 ∷ p)
    (below_is (attempt_key dest job t a) (p ++ codes ".pending") long ∙ sym
    (append_assoc (attempt_key dest job t a) (47 ∷ p) (codes ".pending")))
