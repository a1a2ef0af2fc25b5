-- Operations from one path to another, which work in one bucket.
use Rattle.bucket_ops.specs.Phases.{GivesIn}
use Rattle.s3_types.specs.Store.{Objects, Scene}
use Rattle.std.specs.Prelude.{List, None, Option, Some, ℕ, ◌≡◌}

-- Two paths, each by its bucket and its key.
pub record Route : Type 0 where
  pub bucket : List ℕ
  pub source : List ℕ
  pub to_bucket : List ℕ
  pub target : List ℕ

-- In one bucket an operation does to its objects what `gives` says, and nothing else changes. Between two buckets it is refused before
-- anything is sent, and nothing changes.
pub record GivesBetween {A : Type 0} (b c : List ℕ) (gives : Objects → A → Objects → Type 0) (absent refused : A) (z : Scene) (a : A)
    (s : Scene) : Type 0 where
  pub one : b ≡ c → GivesIn b gives absent z a s
  pub other : (b ≡ c → ⊥) → (a ≡ refused) × (s ≡ z)

-- A bound on an operation's requests: `most` of its bucket's objects, or one if the bucket does not exist.
abbrev pub most_in : Option Objects → (Objects → ℕ) → ℕ
most_in None most = 1
most_in (Some m) most = most m
