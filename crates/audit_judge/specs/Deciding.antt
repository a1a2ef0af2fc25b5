-- The decisions of a judge about one more moment.
use Rattle.audit_claims.specs.Claims.{Tags}
use Rattle.audit_claims.specs.Etags.{TagMap}
use Rattle.audit_judge.specs.Bench.{Bench, claim, now, opened}
use Rattle.audit_judge.specs.Following.{Follows}
use Rattle.audit_judge.specs.Reasons.{IsFirst}
use Rattle.audit_judge.specs.Scene.{Scene}
use Rattle.audit_judge.specs.declared.reason.Reason.{Reason}
use Rattle.soundness.specs.Moments.{Moment}
use Rattle.soundness.specs.declared.marker.Marker.{Marker}
use Rattle.std.specs.Prelude.{Bool, List, None, Option, Some, ℕ, [], ◌++◌, ◌∷◌}

-- The knowledge of a judge, from its parts.
abbrev pub bench_of : Scene → (begun : Bool) → Marker → (needed : Bool) → List (List Bool) → TagMap → Bench
bench_of s begun marker needed rows shown = record {
  keeps = s.keeps;
  tasks = s.tasks;
  claimed = s.claimed;
  opening = s.opening;
  shown = shown;
  begun = begun;
  marker = marker;
  started = s.started;
  needed = needed;
  candidates = rows;
}

-- The right answer of a judge: None as long as the run is sound, else the first reason why it is not.
abbrev pub Answers : Bench → List (Moment Tags) → (changed : List (List ℕ)) → Option Reason → Bench → Type 0
Answers b moments changed None after = Follows after (moments ++ now after ∷ [])
Answers b moments changed (Some reason) after = IsFirst (claim b) (opened b) moments (now after) changed reason
