-- A rename ends.
use Rattle.bucket_ops.proofs.Sweeps.{length_keys}
use Rattle.bucket_ops.specs.Sweeping.{sweep_left}
use Rattle.bucket_ops.specs.inner.Sweeping.{LessLeft}
use Rattle.bucket_ops.specs.inner.Walking.{LessWalked}
use Rattle.bucket_ops.specs.declared.look.Look.{Look}
use Rattle.fs_ops.specs.Places.{prefix_of}
use Rattle.fs_rename.specs.inner.Meaning.{left, looks_left}
use Rattle.fs_rename.specs.code.Rename.{Renaming, begun, found, on_above, on_inside, on_source}
use Rattle.fs_rename.specs.inner.Rename.{listed_to, looked, on_copied, on_parent}
use Rattle.fs_rename.specs.code.Rename.{on_target, one_copy, place_at}
use Rattle.fs_rename.specs.inner.Rename.{on_walked, swept, up_to, with_places}
use Rattle.fs_rename.specs.declared.copying.CopyStep.TheVariants.{All}
use Rattle.fs_rename.specs.declared.stages.Kind.{Kind}
use Rattle.fs_rename.specs.declared.stages.Spot.{Spot}
use Rattle.fs_tree.specs.Changes.{marker_if, parent}
use Rattle.list_walk.specs.Walks.{More, Walked, Whole, deleting, keys_on, sweep_start}
use Rattle.operations.specs.Plans.{Falls}
use Rattle.s3_types.specs.Store.{Objects}
use Rattle.s3_types.specs.declared.reply.PageEntry.{PageEntry}
use Rattle.std.proofs.Common.{arith}
use Rattle.std.specs.Prelude.{Bool, List, None, Option, Result, Some, length, true, ℕ, ◌*◌, ◌+◌, ◌<◌, ◌≡◌}
use Rattle.list_walk.specs.Walks as walks

-- ---- it falls

module _ (o : Renaming) (m : Objects) where
  fall_copy : (k l : Option (List ℕ)) (n : ℕ) → 6 < n → Falls (left o) (one_copy k l) m n
  fall_copy (Some k) (Some l) n h = omega (arith, h)
  fall_copy _ _ n h = tt

  fall_begun : (u d : Bool) (n : ℕ) → 2 * sweep_left (prefix_of o.source) sweep_start m + 8 < n → Falls (left o) (begun u d) m n
  fall_begun u d n h = grind arith

  fall_source : (r : Bool) (k : Kind) (n : ℕ) → 2 * sweep_left (prefix_of o.source) sweep_start m + 8 < n
      → Falls (left o) (on_source o r k) m n
  fall_source r k n h = grind arith

  fall_target : (d : Bool) (k : Kind) (n : ℕ) → 2 * sweep_left (prefix_of o.source) sweep_start m + 6 < n
      → Falls (left o) (on_target d k) m n
  fall_target d k n h = grind arith

  fall_inside : (d : Bool) (k : Kind) (n : ℕ) → 2 * sweep_left (prefix_of o.source) sweep_start m + 4 < n
      → Falls (left o) (on_inside o d k) m n
  fall_inside d k n h = grind arith

  fall_above : (d : Bool) (k : Kind) (n : ℕ) → 2 * sweep_left (prefix_of o.source) sweep_start m + 4 < n
      → Falls (left o) (on_above o d k) m n
  fall_above d k n h = grind arith

  fall_found : (s : Spot) (d : Bool) (k : Kind) (b : Bool)
      → Falls (left o) (found o s d k) m (2 * sweep_left (prefix_of o.source) sweep_start m + 4 + looks_left s b)
  fall_found s d k b = grind (arith, fall_source, fall_target, fall_inside, fall_above)

  -- if no file is seen at a path, the next look is below it, once
  pub fall_looked : (s : Spot) (d b : Bool) (k : Option Kind) → (b ≡ true → k ≡ None → ⊥)
      → Falls (left o) (looked o s d k) m (2 * sweep_left (prefix_of o.source) sweep_start m + 4 + looks_left s b)
  fall_looked s d b k h = grind (arith, fall_found)

  fall_places : (ks : List (List ℕ)) (r : Result (List (List ℕ)) (List ℕ)) (n : ℕ) → 2 * length ks + 4 < n
      → Falls (left o) (with_places ks r) m n
  fall_places ks r n h = grind arith

  pub fall_walked : (i : Bool) (w : Walked PageEntry) (n : ℕ) → LessWalked (prefix_of o.source) m w n
      → Falls (left o) (on_walked o i w) m (2 * n + 4)
  fall_walked i (More found) n h = omega (arith, h)
  fall_walked i (Whole found) n h = elim (place_at o i) as (λ q. Falls (left o) (listed_to o q (keys_on found)) m (2 * n + 4)) [
    | None ↦ tt
    | Some q ↦ fall_places (keys_on found) _ (2 * n + 4) (let e = length_keys found in omega (arith, e, h))
  ]

  fall_up : (u : Option (List ℕ)) (n : ℕ) → 1 < n → Falls (left o) (up_to u) m n
  fall_up u n h = grind arith

  pub fall_swept : (w : Option walks.Sweep) (n : ℕ) → LessLeft (prefix_of o.source) m w n → Falls (left o) (swept o w) m (n + 3)
  fall_swept (Some w) n h = omega (arith, h)
  fall_swept None n h = fall_up (marker_if (parent o.source)) (n + 3) (omega arith)

  fall_deleting : (ks : List (List ℕ)) (n : ℕ) → length ks + 3 < n → Falls (left o) (swept o (deleting ks)) m n
  fall_deleting ks n h = grind arith

  pub fall_parent : (k : List ℕ) (l : Look) → Falls (left o) (on_parent k l) m 1
  fall_parent k l = grind arith

  pub fall_all : (ks : List (List ℕ)) (n : ℕ) → length ks + 3 < n → Falls (left o) (on_copied o (All ks)) m n
  fall_all ks n h = fall_deleting ks n h
