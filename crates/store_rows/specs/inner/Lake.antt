-- The store with which each stream begins.
use Rattle.s3_types.specs.Store.{Content, Scene, new_bucket, opening}
use Rattle.std.specs.Prelude.{List, ℕ}
use Rattle.std.specs.FinMap as fin

-- The content of a store with one empty bucket. Each part but the last has at least 4 bytes.
abbrev pub lake_content : List ℕ → Content
lake_content bucket = record { buckets = fin.insert fin.empty bucket new_bucket; next = 1; minimum = 4 }

-- This store beside an empty cluster.
abbrev pub lake : List ℕ → Scene
lake bucket = opening (lake_content bucket)
