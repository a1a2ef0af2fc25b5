-- A recording without the lines that are about other places.
use Rattle.std.specs.Prelude.{ℕ, List, [], ◌∷◌, ◌++◌, Bool, true, false, Some, Result, Ok, Err, ◌≡◌, ◌↔◌}
use Rattle.std.specs.List.{All, filter, list_any}
use Rattle.soundness.specs.Moments.{Moment, Sound}
use Rattle.soundness.specs.declared.keeps.Keeps.{Keeps}
use Rattle.text_and_lists.specs.Reading.{◌>>=◌}
use Rattle.path_keys.specs.Paths.{Path, below}
use Rattle.trace_reader.specs.declared.fault.TraceFault.{TraceFault}
use Rattle.trace_reader.specs.declared.line.TraceLine.{TraceLine}
use Rattle.trace_reader.specs.declared.line.TraceLine.TheVariants as line
use Rattle.audit_claims.specs.Claims.{Tags}
use Rattle.audit_model.specs.Moments.{claim, moment_if, opening}
use Rattle.audit_model.specs.Recorded.{Recorded, after, begin}
use Rattle.audit_objects.specs.Objects.{Objects}

-- ---- the facts that lines state, once they are read

-- The facts of these lines added to those before them, or their first fault.
abbrev pub after_all : List TraceLine → Recorded → Result Recorded TraceFault
after_all [] r = Ok r
after_all (l ∷ ls) r = after (Some r) l >>= after_all ls

-- The moment after a line and those after the others, if the line has no fault.
abbrev pub behind : Result Recorded TraceFault → (Recorded → List (Moment Tags)) → List (Moment Tags)
behind (Err fault) others = []
behind (Ok r) others = moment_if r ++ others r

-- The moments after lines, up to the first fault.
abbrev pub moments_of : List TraceLine → Recorded → List (Moment Tags)
moments_of [] r = []
moments_of (l ∷ ls) r = behind (after (Some r) l) (moments_of ls)

-- ---- places

-- Some of the places of objects, by their buckets and keys.
abbrev pub Places : Type 0
Places = (bucket key : List ℕ) → Bool

-- Each place below the destination belongs to these places.
abbrev pub Covers : Path → Places → Type 0
Covers dest places = (p : List ℕ) → places dest.bucket (below dest.key p) ≡ true

-- True if the line names an object of the opening at one of these places, puts, copies or deletes one there, or is about no object.
abbrev pub touches : Places → TraceLine → Bool
touches places (line.Object bucket key tags) = places bucket key
touches places (line.Put bucket key tags) = places bucket key
touches places (line.Copy bucket source key) = places bucket key
touches places (line.Delete bucket keys) = list_any (places bucket) keys
touches places _ = true

-- The lines without those that are about objects at other places alone.
abbrev pub within : Places → List TraceLine → List TraceLine
within places lines = filter (touches places) lines

-- The line may come after the job's and before the run begins.
abbrev pub Opens : TraceLine → Type 0
Opens (line.Attempt task attempt) = Unit {0}
Opens (line.File path tags) = Unit {0}
Opens (line.Object bucket key tags) = Unit {0}
Opens line.Still = Unit {0}
Opens _ = ⊥

-- The line may come after a run has begun, and a copy to one of these places has its source at one of them.
abbrev pub MayFollow : Places → TraceLine → Type 0
MayFollow places (line.Job dest keeps tasks) = ⊥
MayFollow places (line.Attempt task attempt) = ⊥
MayFollow places (line.File path tags) = ⊥
MayFollow places (line.Object bucket key tags) = ⊥
MayFollow places (line.Copy bucket source key) = places bucket key ≡ true → places bucket source ≡ true
MayFollow places _ = Unit {0}

-- At these places the same objects exist.
abbrev pub SameAt : Places → Objects → Objects → Type 0
SameAt places a b = (bucket key : List ℕ) → places bucket key ≡ true → a bucket key ≡ b bucket key

-- Two recordings state the same facts about the job and its commit, and about the objects at these places.
pub record Agree (places : Places) (r s : Recorded) : Type 0 where
  pub dest : r.dest ≡ s.dest
  pub keeps : r.keeps ≡ s.keeps
  pub tasks : r.tasks ≡ s.tasks
  pub claimed : r.claimed ≡ s.claimed
  pub begun : r.begun ≡ s.begun
  pub marked : r.marked ≡ s.marked
  pub opening : SameAt places r.opening s.opening
  pub objects : SameAt places r.objects s.objects

-- No change and no commit has come: each object is as it was when the run began.
pub record Waits (r : Recorded) : Type 0 where
  pub running : r.running ≡ false
  pub marked : r.marked ≡ false
  pub objects : (bucket key : List ℕ) → r.objects bucket key ≡ r.opening bucket key

-- The lines without those about other places have no fault, and state the same facts. Readers were safe exactly if they were with all
-- lines.
pub record IsSplit (places : Places) (lines : List TraceLine) (r s end : Recorded) : Type 0 where
  pub last : Recorded
  pub said : after_all (within places lines) s ≡ Ok last
  pub agree : Agree places end last
  pub safe : Sound (claim end) (opening end) (moments_of lines r)
      ↔ Sound (claim last) (opening last) (moments_of (within places lines) s)

-- If each place below the destination belongs to some places, and copies to these places come from them, lines about other places can be
-- removed.
pub record Split : Type 0 where
  -- This holds for the lines that follow two recordings that agree.
  pub behind_others : (places : Places) (first rest : List TraceLine) (r s end : Recorded) → Covers r.dest places → Agree places r s
      → Waits r → Waits s → All Opens first → All (MayFollow places) rest → after_all (first ++ rest) r ≡ Ok end
      → IsSplit places (first ++ rest) r s end
  -- This holds for all lines after the job's.
  pub of_job : (places : Places) (first rest : List TraceLine) (dest : Path) (keeps : Keeps) (tasks : ℕ) (end : Recorded)
      → Covers dest places → All Opens first → All (MayFollow places) rest → after_all (first ++ rest) (begin dest keeps tasks) ≡ Ok end
      → IsSplit places (first ++ rest) (begin dest keeps tasks) (begin dest keeps tasks) end
