use Rattle.dir_markers.specs.declared.status.Status.{Status}
use Rattle.fs_tree.specs.Changes.{HasOddKey, IsName}
use Rattle.fs_tree.specs.Tree.{IsStatus, Stands}
use Rattle.path_keys.specs.Paths.{below}
use Rattle.s3_types.specs.Names.{is_key}
use Rattle.s3_types.specs.Store.{Objects}
use Rattle.std.proofs.Common.{List, arith, true, ℕ, ◌≡◌, ◌⊎◌}
use Rattle.fs_tree.proofs.listings.Goals as goal

module _ (z : Objects) (keys : (k : List ℕ) → Stands z k → is_key k ≡ true) where
  none_odd : (p : List ℕ) (s : Status) → HasOddKey z p s → ⊥
  none_odd p s h = grind arith

  one : (n p : List ℕ) (s : Status) → (IsName n × IsStatus z p s) ⊎ HasOddKey z p s → IsName n × IsStatus z p s
  one n p s h = grind arith

pub returns : goal.returns
returns c = record { list = record { children = λ p z es keys has e i. one z keys e.name (below p e.name) e.status (has.child e i) } }
