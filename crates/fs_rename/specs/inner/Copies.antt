-- Definitions beside those of `Copies` that no public contract cites.
use Rattle.bucket_ops.specs.Walking.{keys_below}
use Rattle.dir_markers.specs.Markers.{marker_of}
use Rattle.fs_rename.specs.Keys.{new_key}
use Rattle.fs_rename.specs.declared.copying.CopyStep.{CopyStep}
use Rattle.fs_rename.specs.declared.copying.CopyStep.TheVariants.{All, Next}
use Rattle.fs_rename.specs.declared.copying.Copying.{Copying}
use Rattle.fs_tree.specs.Tree.{Stands}
use Rattle.s3_types.specs.Answer.{copied}
use Rattle.s3_types.specs.Store.{Objects}
use Rattle.std.specs.Prelude.{Bool, List, None, false, length, map, take, true, ℕ, [], ◌-◌, ◌<◌, ◌∷◌, ◌≡◌, ◌⊎◌}
use Rattle.text_and_lists.specs.Members.{RisesFrom}
use Rattle.std.specs.FinMap as fin

-- A key and its new key.
abbrev pub Move : Type 0
Move = List ℕ × List ℕ

-- Holds if one of these moves leads from k to l.
abbrev pub IsOneOf : List ℕ → List ℕ → List Move → Type 0
IsOneOf k l [] = ⊥
IsOneOf k l (p ∷ ps) = ((k ≡ p.0) × (l ≡ p.1)) ⊎ IsOneOf k l ps

-- The keys that are moved.
abbrev pub sources : List Move → List (List ℕ)
sources ps = map (λ (p : Move). p.0) ps

-- The new keys.
abbrev pub targets : List Move → List (List ℕ)
targets ps = map (λ (p : Move). p.1) ps

-- The objects after all these copies, in order.
abbrev pub copied_all : Objects → List Move → Objects
copied_all m [] = m
copied_all m (p ∷ ps) = copied_all (copied m p.1 (fin.get m p.0)) ps

-- The first of these moves are copied.
pub record IsCopying (z : Objects) (ps : List Move) (c : Copying) (m : Objects) : Type 0 where
  pub keys : c.keys ≡ sources ps
  pub places : c.places ≡ targets ps
  pub some : c.from < length c.keys
  pub copied : m ≡ copied_all z (take c.from ps)

-- Holds if the copies go on, or all of them are made.
abbrev pub IsCopied : Objects → List Move → CopyStep → Objects → Type 0
IsCopied z ps (Next c) m = IsCopying z ps c m
IsCopied z ps (All ks) m = (ks ≡ sources ps) × (m ≡ copied_all z ps)

-- The number of copies that are still to come.
abbrev pub copies_left : Copying → ℕ
copies_left c = length c.keys - c.from

-- Holds if fewer than n copies are still to come.
abbrev pub LessCopies : CopyStep → ℕ → Type 0
LessCopies (Next c) n = copies_left c < n
LessCopies (All ks) n = 0 < n

-- The keys to move exist, in rising order, and nothing exists at the new keys. Each key has one new key, and no other key has the same.
pub record AreFree (z : Objects) (ps : List Move) : Type 0 where
  pub stands : (k l : List ℕ) → IsOneOf k l ps → Stands z k
  pub free : (k l : List ℕ) → IsOneOf k l ps → fin.get z l ≡ None
  pub one : (k j l : List ℕ) → IsOneOf k l ps → IsOneOf j l ps → k ≡ j
  pub only : (k l i : List ℕ) → IsOneOf k l ps → IsOneOf k i ps → l ≡ i
  pub rises : RisesFrom [] (sources ps)

-- Keys below a text `from`, each with its new key below the text `to`.
abbrev pub moves_to : List ℕ → List ℕ → List (List ℕ) → List Move
moves_to from to ks = map (λ k. (k, new_key from to k)) ks

-- The moves of a source: for a directory each key below it with its marker, for a file its own key.
abbrev pub moves_of : Bool → List ℕ → List ℕ → Objects → List Move
moves_of true p q z = moves_to (marker_of p) (marker_of q) (keys_below (marker_of p) z)
moves_of false p q z = (p, q) ∷ []
