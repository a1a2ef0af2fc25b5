-- Which paths there are decides their partitions.
use Rattle.text_and_lists.specs.Members.{IsIn}
use Rattle.conflict.proofs.Rising.{from_ordered, in_ordered, ordered_same}
use Rattle.job_protocol.specs.Conflicts.{dir_of, dirs_of, partitions, with_dir}
use Rattle.job_protocol.specs.Outputs.{ordered}
use Rattle.std.proofs.Common.{List, None, Option, Some, ap, inl, inr, refl, subst, sym, ℕ, [], ◌∙◌, ◌∷◌, ◌≡◌}

dir_in : (d p : List ℕ) (ps : List (List ℕ)) → IsIn p ps → dir_of p ≡ Some d → IsIn d (dirs_of ps)
dir_in d p [] i e = absurd i
dir_in d p (q ∷ ps) (inl is) e = subst (λ o. IsIn d (with_dir o (dirs_of ps))) (sym e ∙ ap dir_of is) (inl refl)
dir_in d p (q ∷ ps) (inr i) e = (elim (dir_of q) as (λ o. IsIn d (dirs_of ps) → IsIn d (with_dir o (dirs_of ps)))
    [ Some x ↦ λ h. inr h | None ↦ λ h. h ]) (dir_in d p ps i e)

-- The directory is that of one of the paths.
record Holder (d : List ℕ) (ps : List (List ℕ)) : Type 0 where
  pub path : List ℕ
  pub there : IsIn path ps
  pub dir : dir_of path ≡ Some d

holder : (d : List ℕ) (ps : List (List ℕ)) → IsIn d (dirs_of ps) → Holder d ps
holder d [] i = absurd i
holder d (q ∷ ps) i = by (dir_of q) refl i (holder d ps)
  where
    later : Holder d ps → Holder d (q ∷ ps)
    later h = record { path = h.path; there = inr h.there; dir = h.dir }

    by : (o : Option (List ℕ)) → dir_of q ≡ o → IsIn d (with_dir o (dirs_of ps)) → (IsIn d (dirs_of ps) → Holder d ps) → Holder d (q ∷ ps)
    by (Some x) e (inl is) rest = record { path = q; there = inl refl; dir = e ∙ ap Some (sym is) }
    by (Some x) e (inr i) rest = later (rest i)
    by None e i rest = later (rest i)

dirs_within : (xs ys : List (List ℕ)) → ((p : List ℕ) → IsIn p xs → IsIn p ys) → (d : List ℕ) → IsIn d (dirs_of xs) → IsIn d (dirs_of ys)
dirs_within xs ys h d i = let x = holder d xs i in dir_in d x.path ys (h x.path x.there) x.dir

pub partitions_of_ordered : (ps : List (List ℕ)) → partitions (ordered ps) ≡ partitions ps
partitions_of_ordered ps =
    ordered_same (dirs_of (ordered ps)) (dirs_of ps) (dirs_within (ordered ps) ps (λ p i. from_ordered p ps i))
    (dirs_within ps (ordered ps) (λ p i. in_ordered p ps i))
