-- Definitions beside those of `Creation` that no public contract cites.
use Rattle.dir_markers.specs.Markers.{created, keys_above}
use Rattle.fs_files.specs.Creation.{Creation, IsCreation}
use Rattle.std.specs.Prelude.{List, ℕ, ◌≡◌}

-- The code's fields for a file to make: the keys of the directories above, and the markers that go.
pub record IsAsked (o : Creation) (keys markers : List (List ℕ)) : Type 0 where
  pub creation : IsCreation o
  pub above : keys ≡ keys_above o.path.key
  pub gone : markers ≡ created o.policy o.path
