-- What readers see as a trace goes on.
use Rattle.std.specs.Prelude.{ℕ, List, [], ◌∷◌, ◌++◌, Bool, Option, Some, None, Result, Ok, Err, cond, is_some}
use Rattle.soundness.specs.Claims.{Claim}
use Rattle.soundness.specs.Moments.{Moment, Shown}
use Rattle.soundness.specs.Paths.{is_visible}
use Rattle.soundness.specs.declared.marker.Marker.{Marker}
use Rattle.soundness.specs.declared.marker.Marker.TheVariants as markers
use Rattle.judging.specs.Listed.{claim_of}
use Rattle.audit_claims.specs.Claims.{Tags}
use Rattle.text_and_lists.specs.Reading.{◌>>=◌}
use Rattle.trace_reader.specs.declared.fault.TraceFault.{TraceFault}
use Rattle.path_keys.specs.Paths.{Path, below}
use Rattle.audit_objects.specs.Objects.{Objects}
use Rattle.audit_model.specs.Recorded.{Recorded, marker_key, read_after}

-- What readers see below a destination.
abbrev pub shown_of : Path → Objects → Shown Tags
shown_of dest objects p = cond (is_visible p) (objects dest.bucket (below dest.key p)) None

-- The success marker that exists, if one does, by whether a request put it.
abbrev pub marker_if : (exists marked : Bool) → Marker
marker_if exists marked = cond exists (cond marked markers.New markers.Old) markers.Absent

-- The success marker that exists, if one does.
abbrev pub marker_of : Recorded → Marker
marker_of r = marker_if (is_some (r.objects r.dest.bucket (marker_key r.dest))) r.marked

-- The moment after the lines so far.
abbrev pub moment : Recorded → Moment Tags
moment r = record { begun = r.begun; marker = marker_of r; shown = shown_of r.dest r.objects }

-- What readers saw when the run began.
abbrev pub opening : Recorded → Shown Tags
opening r = shown_of r.dest r.opening

-- The claim of the job.
abbrev pub claim : Recorded → Claim Tags
claim r = claim_of r.keeps r.tasks r.claimed.listed

-- The moment after a line, if it is the commit or the first change or comes after them.
abbrev pub moment_if : Recorded → List (Moment Tags)
moment_if r = cond r.running (moment r ∷ []) []

-- The moment after a line and those after the others, if the line has no fault.
abbrev pub moments_behind : Result Recorded TraceFault → (Option Recorded → List (Moment Tags)) → List (Moment Tags)
moments_behind (Err fault) others = []
moments_behind (Ok r) others = moment_if r ++ others (Some r)

-- The moments after lines, up to the first fault.
abbrev pub moments : List (List ℕ) → Option Recorded → List (Moment Tags)
moments [] said = []
moments (l ∷ ls) said = moments_behind (read_after said l) (moments ls)

-- The facts of these lines added to those before them, or their first fault.
abbrev pub said_by : List (List ℕ) → Option Recorded → Result (Option Recorded) TraceFault
said_by [] said = Ok said
said_by (l ∷ ls) said = read_after said l >>= λ r. said_by ls (Some r)
