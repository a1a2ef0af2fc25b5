-- The paths of the files of reported attempts, attempt by attempt.
use Rattle.job_model.specs.Attempts.{Declared, Who, same_name}
use Rattle.job_model.specs.Files.{File}
use Rattle.job_model.specs.JobScript.{Script}
use Rattle.job_model.specs.Placed.{placed}
use Rattle.job_plans.specs.Reported.{those}
use Rattle.job_protocol.specs.Outputs.{files}
use Rattle.job_protocol.specs.Rechecks.{files_of_all}
use Rattle.std.proofs.Common.{Bool, List, Option, Some, ap, arith, cond, false, get_or, map, refl, slice_get, suc, sym, take, true, zero, ℕ}
use Rattle.std.proofs.Common.{[], ◌++◌, ◌+◌, ◌∙◌, ◌∷◌, ◌≡◌}
use Rattle.std.proofs.lemmas.Grind.{flat_map-append}
use Rattle.std.proofs.lemmas.List.{append-nil, map-append}
use Rattle.std.specs.Map.{lookup}
use Rattle.std.specs.Option.{option_map, unwrap_or}

-- One more attempt, which is reported.
those_more : (ds : List Declared) (bs : List Bool) (i : ℕ) (d : Declared) → slice_get ds i ≡ Some d → get_or bs i false ≡ true
    → those (take (suc i) ds) (take (suc i) bs) ≡ those (take i ds) (take i bs) ++ d.0 ∷ []
those_more [] bs i d e h = absurd cc
those_more (x ∷ ds) [] i d e h = absurd cc
those_more (x ∷ ds) (y ∷ bs) zero d e h = let same : x ≡ d = cc in rw (h, same) refl
those_more (x ∷ ds) (y ∷ bs) (suc i) d e h = by y _ _ (those_more ds bs i d e h)
  where
    by : (b : Bool) (now before : List Who) → now ≡ before ++ d.0 ∷ [] → cond b (x.0 ∷ now) now ≡ cond b (x.0 ∷ before) before ++ d.0 ∷ []
    by true now before e = ap (λ (l : List Who). x.0 ∷ l) e
    by false now before e = e

-- One more attempt, which is not reported.
those_same : (ds : List Declared) (bs : List Bool) (i : ℕ) → get_or bs i false ≡ false
    → those (take (suc i) ds) (take (suc i) bs) ≡ those (take i ds) (take i bs)
those_same [] bs zero h = refl
those_same [] bs (suc i) h = refl
those_same (x ∷ ds) [] zero h = refl
those_same (x ∷ ds) [] (suc i) h = refl
those_same (x ∷ ds) (y ∷ bs) zero h = rw h refl
those_same (x ∷ ds) (y ∷ bs) (suc i) h = ap (λ (l : List Who). cond y (x.0 ∷ l) l) (those_same ds bs i h)

-- The files of an attempt by its name.
own_files : (w : Script) (d : Declared) → lookup (same_name d.0) w.attempts ≡ Some d.1 → files w d.0 ≡ placed w.unique w.job d.1
own_files w d found = ap (λ (o : Option (List File)). unwrap_or (option_map (placed w.unique w.job) o) []) found

-- The paths of the files of the reported ones among the first i attempts.
abbrev pub paths_to : Script → List Bool → ℕ → List (List ℕ)
paths_to w bs i = map (λ f. f.0) (files_of_all w (those (take i w.attempts) (take i bs)))

to_next : (w : Script) (bs : List Bool) (i : ℕ) → paths_to w bs (suc i) ≡ paths_to w bs (i + 1)
to_next w bs i = let n : suc i ≡ i + 1 = omega arith in ap (paths_to w bs) n

pub paths_same : (w : Script) (bs : List Bool) (i : ℕ) → get_or bs i false ≡ false → paths_to w bs i ≡ paths_to w bs (i + 1)
paths_same w bs i h = sym (ap (λ (l : List Who). map (λ (f : File). f.0) (files_of_all w l)) (those_same w.attempts bs i h)) ∙ to_next w bs
    i

one_more : (w : Script) (bs : List Bool) (i : ℕ) (d : Declared) → slice_get w.attempts i ≡ Some d
    → lookup (same_name d.0) w.attempts ≡ Some d.1 → get_or bs i false ≡ true
    → paths_to w bs i ++ map (λ f. f.0) (placed w.unique w.job d.1) ≡ paths_to w bs (i + 1)
one_more w bs i d here found h =
    let others = those (take i w.attempts) (take i bs) in
    ap (λ (fs : List File). paths_to w bs i ++ map (λ (f : File). f.0) fs) (sym (append-nil (files w d.0) ∙ own_files w d found))
    ∙ sym (map-append (λ (f : File). f.0) (files_of_all w others) (files w d.0 ++ []))
    ∙ ap (map (λ (f : File). f.0)) (sym (flat_map-append (files w) others (d.0 ∷ [])))
    ∙ ap (λ (l : List Who). map (λ (f : File). f.0) (files_of_all w l)) (sym (those_more w.attempts bs i d here h))
    ∙ to_next w bs i

pub paths_more : (v w : Script) (bs : List Bool) (i : ℕ) (d : Declared) (before : List (List ℕ)) → v ≡ w → slice_get v.attempts i ≡ Some d
    → lookup (same_name d.0) v.attempts ≡ Some d.1 → get_or bs i false ≡ true
    → before ≡ paths_to w bs i → before ++ map (λ f. f.0) (placed v.unique v.job d.1) ≡ paths_to w bs (i + 1)
paths_more v w bs i d before same here found h so_far =
    ap (λ (l : List (List ℕ)). l ++ map (λ (f : File). f.0) (placed v.unique v.job d.1))
    (so_far ∙ sym (ap (λ (x : Script). paths_to x bs i) same))
    ∙ one_more v bs i d here found h
    ∙ ap (λ (x : Script). paths_to x bs (i + 1)) same
