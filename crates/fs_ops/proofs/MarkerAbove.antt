-- The marker above a path.
use Rattle.text_and_lists.proofs.Options.{none_some}
use Rattle.dir_markers.specs.Markers.{deleted, marker_of}
use Rattle.fs_tree.specs.Changes.{marker_if, parent}
use Rattle.path_keys.proofs.Last.{before_none}
use Rattle.path_keys.specs.Paths.{Path, parent_of}
use Rattle.std.proofs.Common.{Bool, List, None, Option, Some, ap, arith, false, if◌then◌else◌, length, refl, suc, sym, ℕ, [], ◌==◌, ◌∙◌}
use Rattle.std.proofs.Common.{◌∷◌, ◌≡◌}

pub not_zero : (n : ℕ) → (suc n == 0) ≡ false
not_zero n = grind arith

abbrev marker_by : Bool → List ℕ → Option (List ℕ)
marker_by b k = if b then None else Some (marker_of k)

abbrev pub above_by : Bool → Path → Option Path
above_by b p = if b then None else Some (record { bucket = p.bucket; key = parent p.key })

pub marker_parent : (p : Path) (o : Option Path) (q : Path) → o ≡ parent_of p → o ≡ Some q → deleted q false ≡ marker_if (parent p.key)
marker_parent p o q h g = grind arith

pub root_marker : (p : Path) (o : Option Path) → o ≡ parent_of p → o ≡ None → None ≡ marker_if (parent p.key)
root_marker p o e f = by p.key refl (sym e ∙ f)
  where
    by : (k : List ℕ) → p.key ≡ k → above_by (length k == 0) p ≡ None → None ≡ marker_if (parent p.key)
    by [] i h = ap marker_if (before_none [] refl) ∙ ap (λ k. marker_if (parent k)) (sym i)
    by (x ∷ k) i h = absurd (none_some (sym h ∙ ap (λ b. above_by b p) (not_zero (length k))))
