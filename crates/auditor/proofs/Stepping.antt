-- The result of one more line for the knowledge of an audit.
use Rattle.std.proofs.Common.{Bool, Err, List, None, Ok, Option, Result, Some, [], ap, cond, false, subst, sym, true, ℕ, ◌++◌, ◌∙◌, ◌∷◌}
use Rattle.std.proofs.Common.{◌≡◌}
use Rattle.std.proofs.lemmas.Bool.{false≢true}
use Rattle.audit_claims.specs.Claims.{Tags}
use Rattle.audit_judge.specs.Bench.{Bench, claim, now, opened}
use Rattle.audit_judge.specs.Changes.{changed, paths_of}
use Rattle.audit_judge.specs.Deciding.{Answers}
use Rattle.audit_judge.specs.Following.{Follows}
use Rattle.audit_judge.specs.Reasons.{IsFirst}
use Rattle.audit_judge.specs.declared.change.Change.{Change}
use Rattle.audit_judge.specs.declared.reason.Reason.{Reason}
use Rattle.audit_laws.specs.Alike.{SameElements}
use Rattle.audit_model.specs.Recorded.{Recorded}
use Rattle.auditor.specs.AuditState.{At, AuditState, Stands, Tells}
use Rattle.auditor.specs.inner.AuditState.{BreaksBy, GoesBy, Stepped, moments_after}
use Rattle.path_keys.specs.Paths.{Path}
use Rattle.soundness.specs.Moments.{Moment}
use Rattle.soundness.specs.declared.marker.Marker.{Marker}
use Rattle.trace_reader.specs.declared.fault.TraceFault.{TraceFault}

-- The knowledge is what the lines say, if the last one has no fault.
abbrev pub Told : AuditState → Result Recorded TraceFault → Type 0
Told h (Ok r) = Tells h r
Told h (Err fault) = ⊥

-- The judge follows one more moment.
follows_on : (b : Bench) (moments : List (Moment Tags)) → b.started ≡ true → Follows b (moments ++ now b ∷ [])
    → Stands b.started b (moments_after b moments)
follows_on b moments e f =
    subst (λ (s : Bool). Stands s b (moments ++ cond_of s)) (sym e) f
  where
    cond_of : Bool → List (Moment Tags)
    cond_of s = cond s (now b ∷ []) []

-- A request changed what readers see, and the judge answered.
pub changing : (o n : AuditState) (s : Bench) (items : List Change) (marker : Marker) (adds : Recorded → Result Recorded TraceFault)
    (paths : Path → List (List ℕ)) (r : Option Reason)
    → s ≡ record o.bench { started = true; candidates = s.candidates }
    → ((q : Recorded) (moments : List (Moment Tags)) → At o q moments → Follows s moments)
    → n.bench ≡ record (changed items marker s) { needed = n.bench.needed; candidates = n.bench.candidates }
    → ((moments : List (Moment Tags)) → Follows s moments → Answers s moments (paths_of items) r n.bench)
    → ((q : Recorded) → Tells o q → Told n (adds q))
    → ((q : Recorded) → Tells o q → SameElements (paths_of items) (paths q.dest))
    → Stepped o n adds paths (Ok r)
changing o n s items marker adds paths None is follows after answers told same =
    λ q moments at. by q moments at (adds q) (told q at.tells)
  where
    by : (q : Recorded) (moments : List (Moment Tags)) → At o q moments → (x : Result Recorded TraceFault) → Told n x → GoesBy n moments x
    by q moments at (Err fault) t = t
    by q moments at (Ok z) t = record {
      tells = t;
      stands = follows_on n.bench moments (ap (λ (b : Bench). b.started) after ∙ ap (λ (b : Bench). b.started) is)
          (answers moments (follows q moments at));
      unmarked = λ e. absurd (false≢true (sym e ∙ ap (λ (b : Bench). b.started) after ∙ ap (λ (b : Bench). b.started) is));
    }
changing o n s items marker adds paths (Some reason) is follows after answers told same =
    λ q moments at. by q moments at (adds q) (told q at.tells)
  where
    by : (q : Recorded) (moments : List (Moment Tags)) → At o q moments → (x : Result Recorded TraceFault) → Told n x
        → BreaksBy o n moments x (paths q.dest) reason
    by q moments at (Err fault) t = t
    by q moments at (Ok z) t = record {
      tells = t;
      paths = paths_of items;
      are = same q at.tells;
      first = subst (λ (b : Bench). IsFirst (claim b) (opened b) moments (now n.bench) (paths_of items) reason) is
          (answers moments (follows q moments at));
    }
