-- The facts that requests add to those of the lines so far.
use Rattle.std.specs.Prelude.{◌≡◌, ℕ, ◌+◌, ◌-◌, ◌^◌, List, [], ◌∷◌, true, false, Option, Some, Result, Ok, cond, min}
use Rattle.audit_claims.specs.Claims.{Tags}
use Rattle.audit_judge.specs.Bench.{Bench}
use Rattle.audit_judge.specs.Changes.{change_all, changed as changed_bench, paths_of}
use Rattle.audit_judge.specs.Deciding.{Answers}
use Rattle.audit_judge.specs.declared.change.Change.{Change}
use Rattle.audit_judge.specs.declared.reason.Reason.{Reason}
use Rattle.audit_judge.specs.Following.{Follows, Waits}
use Rattle.audit_model.specs.Answers.{seen_paths}
use Rattle.audit_model.specs.Recorded.{Recorded, changed, is_marker}
use Rattle.audit_objects.specs.Objects.{delete, put}
use Rattle.auditor.specs.AuditState.{At, AuditState}
use Rattle.auditor.specs.inner.Paths.{given}
use Rattle.path_keys.specs.Paths.{Path}
use Rattle.soundness.specs.Moments.{Moment}
use Rattle.soundness.specs.declared.marker.Marker.{Marker}
use Rattle.soundness.specs.declared.marker.Marker.TheVariants.{Old}
use Rattle.trace_reader.specs.declared.fault.TraceFault.{TraceFault}

-- No path changes.
abbrev pub no_paths : Path → List (List ℕ)
no_paths dest = []

-- The facts after an object with these tags was put.
abbrev pub put_after : (bucket key : List ℕ) → Tags → Recorded → Result Recorded TraceFault
put_after bucket key tags r = Ok (changed (put bucket key tags r.objects) (is_marker r.dest bucket key) r)

-- The facts after the objects at these keys of a bucket were deleted.
abbrev pub delete_after : (bucket : List ℕ) → (keys : List (List ℕ)) → Recorded → Result Recorded TraceFault
delete_after bucket keys r = Ok (changed (delete bucket keys r.objects) false r)

-- The run has begun, if it had not; nothing else has changed.
pub record Begun (before after : AuditState) : Type 0 where
  pub same : after ≡ record before { bench = after.bench }
  pub bench : after.bench ≡ record before.bench { started = true; candidates = after.bench.candidates }
  pub follows : (r : Recorded) (moments : List (Moment Tags)) → At before r moments → Follows after.bench moments

-- The judge knows an object that exists when the run begins: the file that readers see there, or an old success marker.
pub record Opened (before after : AuditState) (bucket key : List ℕ) (tags : Tags) : Type 0 where
  pub same : after ≡ record before { bench = after.bench }
  pub bench : after.bench ≡ record before.bench {
    opening = change_all (given (seen_paths before.dest bucket (key ∷ [])) (Some tags)) before.bench.opening;
    shown = change_all (given (seen_paths before.dest bucket (key ∷ [])) (Some tags)) before.bench.shown;
    marker = cond (is_marker before.dest bucket key) Old before.bench.marker;
  }
  pub waits : Waits after.bench

-- The judge received the changes of one more request and the marker that then exists, and answered.
pub record Answered (before after : AuditState) (items : List Change) (marker : Marker) (r : Option Reason) : Type 0 where
  pub dest : after.dest ≡ before.dest
  pub objects : after.objects ≡ before.objects
  pub changes : after.changes ≡ min (before.changes + 1) (2 ^ 64 - 1)
  pub bench : after.bench
      ≡ record (changed_bench items marker before.bench) { needed = after.bench.needed; candidates = after.bench.candidates }
  pub answers : (moments : List (Moment Tags)) → Follows before.bench moments
      → Answers before.bench moments (paths_of items) r after.bench
