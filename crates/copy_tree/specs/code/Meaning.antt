-- What holds at each stage of a copy, and what it sends.
use Rattle.bucket_ops.specs.Asks.{Ask, Copy as CopyKey, is_look}
use Rattle.copy_tree.specs.code.Copy.{CopyPaths}
use Rattle.fs_tree.specs.Copies.{MayCopy}
use Rattle.fs_tree.specs.Moves.{IsMove}
use Rattle.s3_types.specs.Store.{Objects}
use Rattle.std.specs.Prelude.{List, None, true, ℕ, ◌≡◌, ◌⊎◌}
use Rattle.std.specs.FinMap as fin

-- Holds if the request looks or reads, or copies a key that may be copied to its new key, which is absent.
abbrev pub sends : CopyPaths → Objects → Ask → Type 0
sends o z a = (is_look a ≡ true) ⊎ ((k : List ℕ) × (l : List ℕ) × (a ≡ CopyKey k l) × MayCopy z o.source o.target
    × IsMove z o.source o.target k l × (fin.get z l ≡ None))
