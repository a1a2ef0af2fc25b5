-- The markers of directories (Hadoop, S3A: directory markers; Hadoop FileSystem specification, directories).
use Rattle.text_and_lists.specs.Parts.{parts_of}
use Rattle.dir_markers.specs.declared.marker.MarkerPolicy.{MarkerPolicy}
use Rattle.dir_markers.specs.declared.marker.MarkerPolicy.TheVariants.{Delete, Keep}
use Rattle.dir_markers.specs.declared.status.Status.{Status}
use Rattle.dir_markers.specs.declared.status.Status.TheVariants.{Directory, File}
use Rattle.path_keys.specs.Paths.{Path}
use Rattle.std.specs.List.{join_with_byte}
use Rattle.std.specs.Prelude.{Bool, List, None, Option, Some, false, if◌then◌else◌, length, map, true, ℕ, [], ◌++◌, ◌==◌, ◌||◌, ◌∷◌}

-- The status of a path: a file if an object has its key, else a directory if something is below it.
abbrev pub status_in : Option ℕ → Bool → Option Status
status_in (Some length) below = Some (File length)
status_in None true = Some Directory
status_in None false = None

-- The key of a directory's marker.
abbrev pub marker_of : List ℕ → List ℕ
marker_of key = key ++ 47 ∷ []

-- The non-empty prefixes of a list without the whole list, the shortest first.
abbrev pub fronts : {X : Type 0} → List X → List (List X)
fronts (x ∷ y ∷ xs) = (x ∷ []) ∷ map (λ front. x ∷ front) (fronts (y ∷ xs))
fronts _ = []

-- The keys of the directories above a path, from the top down, without the root.
abbrev pub keys_above : List ℕ → List (List ℕ)
keys_above key = map (join_with_byte 47) (fronts (parts_of 47 key))

-- The markers to delete after a file was made.
abbrev pub created : MarkerPolicy → Path → List (List ℕ)
created Keep p = []
created Delete p = map marker_of (keys_above p.key)

-- The marker to put after something was deleted from a directory, if nothing is left below it.
abbrev pub deleted : Path → Bool → Option (List ℕ)
deleted p below = if below || length p.key == 0 then None else Some (marker_of p.key)
