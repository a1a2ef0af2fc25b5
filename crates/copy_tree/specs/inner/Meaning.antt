-- Definitions beside those of `Meaning` that no public contract cites.
use Rattle.bucket_ops.specs.Walking.{IsWalking, all_below, keys_below, walk_left}
use Rattle.copy_tree.specs.inner.Parts.{kept}
use Rattle.copy_tree.specs.code.Copy.{Answer, CopyPaths, climb}
use Rattle.copy_tree.specs.inner.Copy.{count_of}
use Rattle.copy_tree.specs.declared.stages.CopyStage.{CopyStage}
use Rattle.copy_tree.specs.declared.stages.CopyStage.TheVariants.{Copy, Here, Source, Target, Up, Walk, WalkTarget}
use Rattle.copy_tree.specs.declared.stages.Parts.{Parts}
use Rattle.fs_ops.specs.Places.{prefix_of}
use Rattle.fs_ops.specs.code.Climbs.{IsClimb}
use Rattle.fs_rename.specs.inner.Copies.{IsCopying, IsOneOf, Move, copies_left, moves_of, sources, targets}
use Rattle.fs_tree.specs.Copies.{Copies, HasPlace, HasSource, IsOverlap, MayCopy, MayStandCopied}
use Rattle.fs_tree.specs.Moves.{AllFit}
use Rattle.fs_tree.specs.Tree.{NoFile}
use Rattle.s3_types.specs.Store.{Objects}
use Rattle.std.specs.Prelude.{List, Option, Some, drop, false, length, true, ℕ, [], ◌*◌, ◌+◌, ◌<◌, ◌∷◌, ◌≡◌, ◌⊎◌}
use Rattle.std.specs.FinMap as fin

-- Each key of the source with its new key.
abbrev pub moves : CopyPaths → Objects → List Move
moves o z = moves_of true o.source o.target z

-- The moves whose new key exists.
abbrev pub standing : CopyPaths → Objects → List Move
standing o z = kept true (moves o z) (all_below (prefix_of o.target) z)

-- The moves whose new key is absent.
abbrev pub absent : CopyPaths → Objects → List Move
absent o z = kept false (moves o z) (all_below (prefix_of o.target) z)

-- The keys and new keys of both.
abbrev pub all_parts : CopyPaths → Objects → Parts
all_parts o z = record {
  stood = sources (standing o z);
  stood_at = targets (standing o z);
  keys = sources (absent o z);
  places = targets
      (absent o z);
}

-- The source has a place at the target, and all its new keys fit.
pub record IsPlaced (o : CopyPaths) (z : Objects) : Type 0 where
  pub place : HasPlace z o.source o.target
  pub fit : AllFit z o.source o.target

-- Each move whose new key exists agrees with it, or is among those still to compare.
pub record IsComparing (o : CopyPaths) (z : Objects) (c : Parts) (n : ℕ) : Type 0 where
  pub placed : IsPlaced o z
  pub parts : c ≡ all_parts o z
  pub some : n < length (standing o z)
  pub agree : (k l : List ℕ) → IsOneOf k l (standing o z) → (fin.get z l ≡ fin.get z k) ⊎ IsOneOf k l (drop n (standing o z))

-- Holds if the first of these keys has these bytes and this header.
abbrev pub StandsFirst : Objects → List (List ℕ) → List ℕ → Option ℕ → Type 0
StandsFirst z [] b h = ⊥
StandsFirst z (k ∷ ks) b h = fin.get z k ≡ Some (record { bytes = b; header = h })

-- What holds at each stage of a copy that was begun with the objects z.
abbrev pub holds : CopyPaths → Objects → CopyStage → Objects → Type 0
holds o z Here m = m ≡ z
holds o z (Walk w) m = (m ≡ z) × (IsOverlap o.source o.target → ⊥) × NoFile z o.source × IsWalking (prefix_of o.source) z w
holds o z (Up ks c) m = (m ≡ z) × HasSource z o.source o.target × (ks ≡ keys_below (prefix_of o.source) z) × IsClimb z (climb o.target) c
holds o z (WalkTarget ks ls w) m = (m ≡ z) × IsPlaced o z × (ks ≡ sources (moves o z)) × (ls ≡ targets (moves o z))
    × IsWalking (prefix_of o.target) z w
holds o z (Source c n) m = (m ≡ z) × IsComparing o z c n
holds o z (Target c n b h) m = (m ≡ z) × IsComparing o z c n × StandsFirst z (drop n c.stood) b h
holds o z (Copy c count) m = MayCopy z o.source o.target × (count ≡ count_of (all_parts o z)) × IsCopying z (absent o z) c m

-- The most requests that are still to come: a page for each thousand keys, a look at each path above the target, and two reads or a copy
-- for each key.
abbrev pub left : CopyPaths → CopyStage → Objects → ℕ
left o Here m = 2 * walk_left (prefix_of o.source) [] m + length (climb o.target) + walk_left (prefix_of o.target) [] m + 4
left o (Walk w) m = 2 * walk_left (prefix_of o.source) w m + length (climb o.target) + walk_left (prefix_of o.target) [] m + 3
left o (Up ks c) m = length c.rest + 1 + walk_left (prefix_of o.target) [] m + 2 * length ks + 3
left o (WalkTarget ks ls w) m = walk_left (prefix_of o.target) w m + 2 * length ks + 2
left o (Source c n) m = 2 * length (drop n c.stood) + length c.keys + 2
left o (Target c n b h) m = 2 * length (drop n c.stood) + length c.keys + 1
left o (Copy c count) m = copies_left c

-- The answer of a copy and the objects that it leaves.
abbrev pub gives : CopyPaths → Objects → Answer → Objects → Type 0
gives o z a m = Copies o.source o.target z a m

-- Holds at every point of a copy.
abbrev pub always : CopyPaths → Objects → Objects → Type 0
always o z m = MayStandCopied o.source o.target z m
