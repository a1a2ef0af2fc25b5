-- Definitions beside those of `Deciding` that no public contract cites.
use Rattle.audit_claims.specs.Claims.{AllListed, IsFirstMissing, Tags}
use Rattle.audit_claims.specs.Etags.{TagMap}
use Rattle.audit_judge.specs.Changes.{change_all}
use Rattle.audit_judge.specs.Deciding.{bench_of}
use Rattle.audit_judge.specs.Following.{Follows}
use Rattle.audit_judge.specs.inner.Narrowed.{paths_of_all}
use Rattle.audit_judge.specs.Scene.{Scene}
use Rattle.audit_judge.specs.inner.Scene.{shows_sign}
use Rattle.audit_judge.specs.declared.change.Change.{Change}
use Rattle.audit_judge.specs.declared.moment.Need.{Need}
use Rattle.audit_judge.specs.declared.reason.Reason.{Reason}
use Rattle.judging.specs.Listed.{Listed}
use Rattle.soundness.specs.Moments.{Moment}
use Rattle.soundness.specs.declared.marker.Marker.{Marker}
use Rattle.std.specs.List.{find}
use Rattle.std.specs.Prelude.{Bool, List, None, Option, Some, false, map, true, ℕ, ◌<◌, ◌≡◌, ◌≢◌, ◌⊎◌}
use Rattle.std.specs.FinMap as fin
use Rattle.soundness.specs.declared.marker.Marker.TheVariants as markers
use Rattle.audit_judge.specs.declared.moment.Need.TheVariants as needs
use Rattle.audit_judge.specs.declared.reason.Reason.TheVariants as told
use Rattle.audit_judge.specs.declared.signs.Sign.TheVariants as signs

-- The knowledge before these changes follows the moments so far.
pub record Followed
    (s : Scene) (begun : Bool) (was : Marker) (needed : Bool) (rows : List (List Bool)) (changes : List Change)
    (moments : List (Moment Tags)) : Type 0 where
  pub before : TagMap
  pub follows : Follows (bench_of s begun was needed rows before) moments
  pub shown : s.shown ≡ change_all changes before

-- The knowledge before these changes follows the moments of some run.
abbrev pub FollowedSome :
    Scene → (begun : Bool) → Marker → (needed : Bool) → List (List Bool) → List Change → Type 0
FollowedSome s begun was needed rows changes =
    (moments : List (Moment Tags)) × Followed s begun was needed rows changes moments

-- The path that differs, if the commit has not begun.
abbrev pub early_of : (begun : Bool) → Option (List ℕ) → Option (List ℕ)
early_of true o = None
early_of false o = o

-- The path that differs, if an old marker exists.
abbrev pub stale_of : Marker → Option (List ℕ) → Option (List ℕ)
stale_of markers.Absent o = None
stale_of markers.Old o = o
stale_of markers.New o = None

-- The paths at which candidates are checked when a new marker exists: the changed ones, or all paths of the attempts if the marker has
-- just been put.
abbrev pub whole_paths : Marker → Listed Tags → List (List ℕ) → List (List ℕ)
whole_paths markers.Absent listed changed = paths_of_all listed
whole_paths markers.Old listed changed = paths_of_all listed
whole_paths markers.New listed changed = changed

-- The paths at which files that are left are looked for: the changed ones, or all that readers see if the marker has just been put.
abbrev pub left_paths : Marker → TagMap → List (List ℕ) → List (List ℕ)
left_paths markers.Absent shown changed = map (λ e. e.0) (fin.entries shown)
left_paths markers.Old shown changed = map (λ e. e.0) (fin.entries shown)
left_paths markers.New shown changed = changed

-- The reason that a new marker gives, by the least task without an attempt left and the first path with a file left.
abbrev pub marked_of : Option ℕ → Option (List ℕ) → Option Reason
marked_of (Some t) o = Some (told.Half t)
marked_of None (Some p) = Some (told.Left p)
marked_of None None = None

-- Whether a choice is needed, and which task has no attempt to choose.
abbrev pub IsNeed : Scene → Marker → (needed : Bool) → (changed : List (List ℕ)) → Need → Type 0
IsNeed s marker needed changed needs.Calm =
    (needed ≡ false) × (marker ≢ markers.New) × (find (shows_sign signs.Differs s) changed ≡ None)
IsNeed s marker needed changed (needs.Missing t) =
    (needed ≡ false) × ((marker ≡ markers.New) ⊎ (find (shows_sign signs.Differs s) changed ≢ None)) × (t < s.tasks)
    × IsFirstMissing s.claimed.listed t
IsNeed s marker needed changed needs.Choice = (needed ≡ true) ⊎ AllListed s.claimed.listed s.tasks
