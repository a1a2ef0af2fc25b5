-- The markers of a listing: the kind of each, and which are surplus or missing (Hadoop, S3A: directory markers, the marker tool).
use Rattle.dir_markers.specs.Markers.{keys_above, marker_of}
use Rattle.fs_tree.specs.Tree.{is_marker}
use Rattle.fs_tree.specs.declared.markers.MarkerEntry.{MarkerEntry}
use Rattle.fs_tree.specs.declared.markers.MarkerKind.{MarkerKind}
use Rattle.fs_tree.specs.declared.markers.MarkerKind.TheVariants.{Leaf, Odd, Surplus}
use Rattle.s3_types.specs.Names.{trimmed}
use Rattle.s3_types.specs.Pages.{begins, text_in}
use Rattle.s3_types.specs.declared.reply.PageEntry.{PageEntry}
use Rattle.s3_types.specs.declared.reply.PageEntry.TheVariants.{Object as Single, Prefix}
use Rattle.std.specs.List.{filter}
use Rattle.std.specs.Prelude.{Bool, List, cond, false, if◌then◌else◌, map, not, true, ℕ, [], ◌&&◌, ◌++◌, ◌==◌, ◌∷◌}

-- True if the next key begins with this one. Keys that begin with it follow directly after it.
abbrev pub goes_on : List ℕ → List PageEntry → Bool
goes_on k [] = false
goes_on k (e ∷ es) = begins k (text_in e)

-- The kind of a marker with so many bytes, where `more` says whether another key begins with it.
abbrev pub kind_of : ℕ → Bool → MarkerKind
kind_of n more = if n == 0 then (if more then Surplus else Leaf) else Odd

-- An entry's marker, if it is one. The entries after it show whether other keys begin with it.
abbrev pub marker_at : PageEntry → List PageEntry → List MarkerEntry
marker_at (Prefix t) es = []
marker_at (Single k n) es = cond (is_marker k) (record { key = k; kind = kind_of n (goes_on k es) } ∷ []) []

-- The markers of a listing.
abbrev pub markers_in : List PageEntry → List MarkerEntry
markers_in [] = []
markers_in (e ∷ es) = marker_at e es ++ markers_in es

-- True if the directory exists without the marker.
abbrev pub is_surplus : MarkerKind → Bool
is_surplus Surplus = true
is_surplus _ = false

-- The keys of the surplus markers of a listing.
abbrev pub surplus_in : List PageEntry → List (List ℕ)
surplus_in es = map (λ x. x.key) (filter (λ x. is_surplus x.kind) (markers_in es))

-- The markers of the directories above the file or directory of a key.
abbrev pub markers_above : List ℕ → List (List ℕ)
markers_above k = map marker_of (keys_above (trimmed k))

-- True if a marker is below the path, and the key before does not begin with it.
abbrev pub is_due : List ℕ → List ℕ → List ℕ → Bool
is_due q before t = begins q t && not (begins t before)

-- The markers above an entry, unless they are above the key before it too.
abbrev pub missing_at : List ℕ → List ℕ → PageEntry → List (List ℕ)
missing_at q before (Prefix t) = []
missing_at q before (Single k n) = filter (is_due q before) (markers_above k)

-- The markers missing after a key, below a path with this prefix.
abbrev pub missing_from : List ℕ → List ℕ → List PageEntry → List (List ℕ)
missing_from q before [] = []
missing_from q before (e ∷ es) = missing_at q before e ++ missing_from q (text_in e) es

-- The missing markers of a listing.
abbrev pub missing_in : List ℕ → List PageEntry → List (List ℕ)
missing_in q es = missing_from q [] es
