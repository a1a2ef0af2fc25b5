-- What the bytes of a file stand for.
use Rattle.log_format.specs.Change.{IsChange}
use Rattle.log_format.specs.Log.{headed, opened}
use Rattle.log_format.specs.Reading.{is_log}
use Rattle.log_format.specs.declared.logged_store.LoggedStore.{LoggedStore}
use Rattle.std.specs.List.{AllByRecursion}
use Rattle.std.specs.Prelude.{List, false, ℕ, [], ◌++◌, ◌∷◌, ◌≡◌, ◌≢◌, ◌⊎◌}

-- The file is no log. It is a base without changes.
pub record IsBare (file : List ℕ) (held : LoggedStore) : Type 0 where
  pub other : is_log file ≡ false
  pub base : held.base ≡ file
  pub none : held.changes ≡ []

-- The file is a log: its base, its changes after open gates, a gate that is not open, and any bytes after that.
pub record IsLog (file : List ℕ) (held : LoggedStore) : Type 0 where
  pub gate : ℕ
  pub behind : List ℕ
  pub not_open : gate ≢ 1
  pub spelled : file ≡ headed held.base ++ (opened held.changes ++ gate ∷ behind)
  pub legal : AllByRecursion IsChange held.changes

-- The file stands for this base and the changes after it.
abbrev pub StandsFor : List ℕ → LoggedStore → Type 0
StandsFor file held = IsBare file held ⊎ IsLog file held
