-- The files that readers of a destination see (Hadoop, S3A committers: the magic directory and `_SUCCESS` are no data).
use Rattle.path_keys.specs.Paths.{Path, below}
use Rattle.s3_types.specs.Pages.{begins}
use Rattle.s3_types.specs.Store.{BucketContent, Content}
use Rattle.s3_types.specs.declared.object.Object.{Object}
use Rattle.std.specs.Option.{option_map}
use Rattle.std.specs.Prelude.{Bool, List, None, Option, Some, bytes_eq, codes, cond, not, true, ℕ, [], ◌&&◌, ◌==◌, ◌∷◌, ◌≡◌}
use Rattle.std.specs.FinMap as fin

-- A view: for each path below a destination the bytes of the file there, or none.
abbrev pub Shown : Type 0
Shown = List ℕ → Option (List ℕ)

-- Holds if two views show the same files.
abbrev pub Same : Shown → Shown → Type 0
Same v u = (p : List ℕ) → v p ≡ u p

-- True if the path is empty or ends in `/`.
abbrev pub is_folder : List ℕ → Bool
is_folder [] = true
is_folder (x ∷ []) = x == 47
is_folder (x ∷ y ∷ p) = is_folder (y ∷ p)

-- True if readers take the path for a file: it is no folder, not below `__magic`, and not `_SUCCESS`.
abbrev pub is_file_path : List ℕ → Bool
is_file_path p = not (is_folder p) && not (begins (codes "__magic/") p) && not (bytes_eq p (codes "_SUCCESS"))

-- The object at a key of a bucket, or none.
abbrev pub object_in : Option BucketContent → List ℕ → Option Object
object_in None k = None
object_in (Some b) k = fin.get b.objects k

-- The object at a key of the bucket with this name, or none.
abbrev pub object_at : Content → List ℕ → List ℕ → Option Object
object_at c bucket k = object_in (fin.get c.buckets bucket) k

-- The file that readers of a destination see at a path, or none.
abbrev pub view : Path → Content → Shown
view dest c p = cond (is_file_path p) (option_map (λ o. o.bytes) (object_at c dest.bucket (below dest.key p))) None
