-- The directory of a path, by the place where the path is cut; and texts that begin with a directory and a `/`.
use Rattle.text_and_lists.specs.Parts.{is_other}
use Rattle.conflict.specs.inner.Partitions.{with_partition}
use Rattle.job_protocol.specs.Conflicts.{dir_from, dir_of, dirs_of, partitions, with_dir}
use Rattle.job_protocol.specs.Outputs.{ordered}
use Rattle.s3_types.specs.Pages.{begins}
use Rattle.std.proofs.Common.{Bool, List, None, Option, Some, ap, cond, false, nat_eq, not, refl, sym, true, ℕ, [], ◌&&◌, ◌++◌, ◌∙◌, ◌∷◌}
use Rattle.std.proofs.Common.{◌≡◌}
use Rattle.std.proofs.lemmas.Bool.{and_parts, true≢false}
use Rattle.std.proofs.lemmas.Bool.Decides.{Decides-eqb}
use Rattle.std.specs.List.{list_all}

-- ---- a path that is cut at its last slash

abbrev first_dir : Bool → Option (List ℕ)
first_dir b = cond b (Some []) None

no_dir : (x : ℕ) (p : List ℕ) → is_other 47 x ≡ true → dir_of p ≡ None → dir_of (x ∷ p) ≡ None
no_dir x p o e = ap (dir_from x p) e ∙ ((elim (nat_eq x 47) as (λ b. not b ≡ true → first_dir b ≡ None)
    [ true ↦ λ h. absurd (true≢false (sym h)) | false ↦ λ h. refl ]) o)

pub dir_none : (name : List ℕ) → list_all (is_other 47) name ≡ true → dir_of name ≡ None
dir_none [] h = refl
dir_none (x ∷ name) h = let p = and_parts (is_other 47 x) (list_all (is_other 47) name) h in no_dir x name p.0 (dir_none name p.1)

pub dir_front : (front name : List ℕ) → list_all (is_other 47) name ≡ true → dir_of (front ++ 47 ∷ name) ≡ Some front
dir_front [] name h = ap (dir_from 47 name) (dir_none name h)
dir_front (x ∷ front) name h = ap (dir_from x (front ++ 47 ∷ name)) (dir_front front name h)

-- ---- one more path

pub one_more : (p : List ℕ) (ps : List (List ℕ)) → partitions (p ∷ ps) ≡ with_partition (dir_of p) (partitions ps)
one_more p ps = elim (dir_of p) as (λ o. ordered (with_dir o (dirs_of ps)) ≡ with_partition o (ordered (dirs_of ps)))
    [ Some d ↦ refl | None ↦ refl ]

-- ---- a path below a directory

pub begins_so : (d rest : List ℕ) (p : List ℕ) → p ≡ d ++ rest → begins (d ++ 47 ∷ []) p ≡ begins (47 ∷ []) rest
begins_so d rest p e = ap (begins (d ++ 47 ∷ [])) e ∙ by d
  where
    by : (d : List ℕ) → begins (d ++ 47 ∷ []) (d ++ rest) ≡ begins (47 ∷ []) rest
    by [] = refl
    by (x ∷ d) = ap (λ b. b && begins (d ++ 47 ∷ []) (d ++ rest)) ((Decides-eqb x x).1 refl) ∙ by d

front_of : (d : List ℕ) (p : List ℕ) → begins (d ++ 47 ∷ []) p ≡ true → (rest : List ℕ) × (p ≡ d ++ rest)
front_of [] p h = (p, refl)
front_of (x ∷ d) [] h = absurd (true≢false (sym h))
front_of (x ∷ d) (y ∷ p) h =
    let a = and_parts (nat_eq x y) (begins (d ++ 47 ∷ []) p) h in
    let r = front_of d p a.1 in
    let same : x ≡ y = (Decides-eqb x y).0 a.0 in
    (r.0, ap (λ z. z ∷ p) (sym same) ∙ ap (λ l. x ∷ l) r.1)

pub begins_not : (d p : List ℕ) → ((rest : List ℕ) → p ≡ d ++ rest → ⊥) → false ≡ begins (d ++ 47 ∷ []) p
begins_not d p h = (elim (begins (d ++ 47 ∷ []) p) as (λ b. begins (d ++ 47 ∷ []) p ≡ b → false ≡ b)
    [ true ↦ λ e. let r = front_of d p e in absurd (h r.0 r.1) | false ↦ λ e. refl ]) refl
