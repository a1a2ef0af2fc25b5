-- The files of an attempt in order; each has a key of its own.
use Rattle.text_and_lists.proofs.Bools.{contrary}
use Rattle.text_and_lists.proofs.Lists.{front_cancels}
use Rattle.text_and_lists.specs.Order.{text_eq}
use Rattle.job_model.specs.Files.{File, has_path}
use Rattle.job_model.specs.JobScript.{Script}
use Rattle.job_model.specs.Plans.{ArePlaced}
use Rattle.job_protocol.specs.Records.{file_key}
use Rattle.path_keys.specs.Paths.{below}
use Rattle.std.proofs.Common.{Bool, List, Some, add-one, ap, append_assoc, arith, cond, drop, false, get_or, is_some, length, refl, suc}
use Rattle.std.proofs.Common.{sym, take, true, zero, ℕ, [], ◌++◌, ◌+◌, ◌<◌, ◌∙◌, ◌∷◌, ◌≡◌}
use Rattle.std.proofs.lemmas.List.{append-nil, take-append-drop}
use Rattle.std.specs.Cmp.Lexicographic.{bytes_decides}
use Rattle.std.specs.Map.{lookup}

-- ---- the file at a place

pub front_at : (fs : List File) (place : ℕ) → place < length fs → drop place fs ≡ get_or fs place ([], []) ∷ drop (place + 1) fs
front_at [] place h = absurd (omega arith)
front_at (f ∷ fs) zero h = refl
front_at (f ∷ fs) (suc i) h = front_at fs i (omega arith) ∙ rw (add-one, add-one) refl

pub all_taken : (fs : List File) (place : ℕ) → drop place fs ≡ [] → take place fs ≡ fs
all_taken fs place e = sym (append-nil (take place fs)) ∙ (ap (λ l. take place fs ++ l) (sym e) ∙ take-append-drop place fs)

-- ---- no other file has its path

free_before : (id : List ℕ) (before fs : List File) (i : ℕ) → ArePlaced id before fs → i < length fs
    → has_path (before ++ take i fs) (get_or fs i ([], [])).0 ≡ false
free_before id before [] i a h = absurd (omega arith)
free_before id before (f ∷ fs) zero a h = ap (λ l. has_path l f.0) (append-nil before) ∙ a.2
free_before id before (f ∷ fs) (suc i) a h =
    ap (λ l. has_path l (get_or fs i ([], [])).0) (sym (append_assoc before (f ∷ []) (take i fs))) ∙ free_before id (before ++ f ∷ []) fs i
    a.3 (omega arith)

below_same : (key p q : List ℕ) → below key p ≡ below key q → p ≡ q
below_same [] p q e = e
below_same (x ∷ xs) p q e = let same : 47 ∷ p ≡ 47 ∷ q = front_cancels (x ∷ xs) (47 ∷ p) (47 ∷ q) e in cc

other_key : (key p q : List ℕ) → text_eq p q ≡ false → text_eq (below key p) (below key q) ≡ false
other_key key p q h = contrary (text_eq (below key p) (below key q)) (λ e. sym h ∙ (bytes_decides p q).1
    (below_same key p q ((bytes_decides (below key p) (below key q)).0 e)))

-- These files have other keys than `key`.
abbrev pub AreOthers : Script → List ℕ → List File → Type 0
AreOthers w key [] = Unit {0}
AreOthers w key (g ∷ fs) = (text_eq key (file_key w g) ≡ false) × AreOthers w key fs

others_by : (w : Script) (p : List ℕ) (fs : List File) → has_path fs p ≡ false → AreOthers w (below w.dest.key p) fs
others_by w p [] h = tt
others_by w p (g ∷ fs) h = by (text_eq p g.0) refl h (others_by w p fs)
  where
    by : (b : Bool) → text_eq p g.0 ≡ b → is_some (cond b (Some g.1) (lookup (text_eq p) fs)) ≡ false
        → (has_path fs p ≡ false → AreOthers w (below w.dest.key p) fs) → AreOthers w (below w.dest.key p) (g ∷ fs)
    by true e h later = absurd cc
    by false e h later = (other_key w.dest.key p g.0 e, later h)

pub others_before : (w : Script) (id : List ℕ) (fs : List File) (place : ℕ) → ArePlaced id [] fs → place < length fs
    → AreOthers w (file_key w (get_or fs place ([], []))) (take place fs)
others_before w id fs place a h = others_by w (get_or fs place ([], [])).0 (take place fs) (free_before id [] fs place a h)
