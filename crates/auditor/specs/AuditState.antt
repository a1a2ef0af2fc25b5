-- The knowledge of an audit about the lines so far.
use Rattle.audit_claims.specs.Claims.{Tags}
use Rattle.audit_judge.specs.Bench.{Bench, now, opened}
use Rattle.audit_judge.specs.Following.{Follows, Waits}
use Rattle.audit_model.specs.Moments.{marker_of, opening, shown_of}
use Rattle.audit_model.specs.Recorded.{Recorded}
use Rattle.audit_objects.specs.Objects.{ObjectMap, at}
use Rattle.path_keys.specs.Paths.{Path}
use Rattle.soundness.specs.Moments.{Moment, Same}
use Rattle.std.specs.Prelude.{Bool, List, false, min, true, ℕ, [], ◌-◌, ◌^◌, ◌≡◌}

-- The knowledge of an audit.
pub record AuditState : Type 0 where
  pub dest : Path
  -- The claim, what readers saw when the run began, and what they see now.
  pub bench : Bench
  -- The objects of all buckets.
  pub objects : ObjectMap
  -- How many requests changed something, at most 2^64 - 1.
  pub changes : ℕ

-- The audit's knowledge is what the lines say.
pub record Tells (h : AuditState) (r : Recorded) : Type 0 where
  pub dest : h.dest ≡ r.dest
  pub keeps : h.bench.keeps ≡ r.keeps
  pub tasks : h.bench.tasks ≡ r.tasks
  pub claimed : h.bench.claimed ≡ r.claimed
  pub opening : Same (opened h.bench) (opening r)
  pub shown : Same (now h.bench).shown (shown_of r.dest r.objects)
  pub marker : h.bench.marker ≡ marker_of r
  pub begun : h.bench.begun ≡ r.begun
  pub started : h.bench.started ≡ r.running
  pub objects : (b k : List ℕ) → at h.objects b k ≡ r.objects b k
  pub changes : h.changes ≡ min r.changes (2 ^ 64 - 1)

-- The judge knows the moments so far. There are none before the run begins.
abbrev pub Stands : Bool → Bench → List (Moment Tags) → Type 0
Stands false b moments = Waits b × moments ≡ []
Stands true b moments = Follows b moments

-- The audit knows what the lines say, and the judge knows the moments after them.
pub record At (h : AuditState) (r : Recorded) (moments : List (Moment Tags)) : Type 0 where
  pub tells : Tells h r
  pub stands : Stands h.bench.started h.bench moments
  -- Before the run begins no request has put the success marker.
  pub unmarked : h.bench.started ≡ false → r.marked ≡ false
