-- The knowledge after a line that comes before the run begins.
use Rattle.std.proofs.Common.{Bool, Err, List, None, Ok, Option, Result, Some, [], ap, cond, false, length, not, refl, subst, sym, true}
use Rattle.std.proofs.Common.{ℕ, ◌++◌, ◌∙◌, ◌∷◌, ◌≡◌, ◌<◌, is_none, is_some, nat_eq}
use Rattle.std.proofs.lemmas.Bool.{false≢true}
use Rattle.std.specs.FinMap as fin
use Rattle.std.specs.List.{Contains}
use Rattle.std.specs.Str.{bytes_eq}
use Rattle.audit_claims.specs.Claims.{Claimed, Tags, last_has, with_next}
use Rattle.audit_claims.specs.Fits.{after_fit, fit_by, fit_of}
use Rattle.audit_claims.specs.declared.claims.FileFit.{FileFit}
use Rattle.audit_claims.specs.declared.claims.FileFit.TheVariants as fits
use Rattle.audit_judge.specs.Bench.{Bench, now, opened}
use Rattle.audit_judge.specs.Changes.{change_all}
use Rattle.audit_judge.specs.Following.{Waits, new_bench}
use Rattle.audit_judge.specs.declared.change.Change.{Change}
use Rattle.audit_laws.proofs.Seen.{marker_laws, one_of, seen_laws}
use Rattle.audit_model.specs.Answers.{seen_paths}
use Rattle.audit_model.specs.Moments.{marker_if, marker_of, opening, shown_of}
use Rattle.audit_model.specs.Recorded.{Recorded, attempt_after, begin, file_after, is_marker, marker_key, object_after, is_own}
use Rattle.audit_objects.specs.Objects.{ObjectMap, Objects, at, no_objects, put, same_place}
use Rattle.auditor.proofs.Stepping.{Told}
use Rattle.auditor.proofs.Telling.{shown_by}
use Rattle.auditor.specs.AuditState.{At, AuditState, Stands, Tells}
use Rattle.auditor.specs.inner.AuditState.{GoesBy, Stepped, moments_after}
use Rattle.auditor.specs.inner.Paths.{given, has_path}
use Rattle.auditor.specs.inner.Steps.{Opened, no_paths}
use Rattle.text_and_lists.specs.Order.{text_cmp}
use Rattle.text_and_lists.specs.Reading.{check, ◌>>=◌}
use Rattle.judging.specs.Listed.{has_attempt, owner}
use Rattle.path_keys.specs.Paths.{Path, below}
use Rattle.soundness.specs.Moments.{Moment}
use Rattle.soundness.specs.Paths.{is_visible}
use Rattle.soundness.specs.declared.keeps.Keeps.{Keeps}
use Rattle.soundness.specs.declared.marker.Marker.{Marker}
use Rattle.soundness.specs.declared.marker.Marker.TheVariants as markers
use Rattle.trace_reader.specs.declared.fault.TraceFault.{TraceFault}
use Rattle.trace_reader.specs.declared.fault.TraceFault.TheVariants.{Repeated, SamePath}

-- ---- the judge still waits

waiting : (b : Bench) (moments : List (Moment Tags)) (s : Bool) → s ≡ false → Waits b → moments ≡ []
    → Stands s b (moments ++ cond s (now b ∷ []) [])
waiting b moments true e w m = absurd (false≢true (sym e))
waiting b moments false e w m = (w, ap (λ (l : List (Moment Tags)). l ++ []) m)

none_yet : (b : Bench) (moments : List (Moment Tags)) (s : Bool) → s ≡ false → Stands s b moments → moments ≡ []
none_yet b moments true e h = absurd (false≢true (sym e))
none_yet b moments false e h = h.1

waits_of : (b : Bench) (moments : List (Moment Tags)) (s : Bool) → s ≡ false → Stands s b moments → Waits b
waits_of b moments true e h = absurd (false≢true (sym e))
waits_of b moments false e h = h.0

-- One more line before the run begins.
pub waits_on : (o n : AuditState) (q r : Recorded) (moments : List (Moment Tags)) → At o q moments → o.bench.started ≡ false
    → n.bench.started ≡ false → Waits n.bench → Tells n r → r.marked ≡ q.marked → At n r (moments_after n.bench moments)
waits_on o n q r moments at early still w t m = record {
  tells = t;
  stands = waiting n.bench moments n.bench.started still w (none_yet o.bench moments o.bench.started early at.stands);
  unmarked = λ e. m ∙ at.unmarked early;
}

-- A judge that waits can take a line before the run begins.
pub at_waits : (h : AuditState) (q : Recorded) (moments : List (Moment Tags)) → At h q moments → h.bench.started ≡ false → Waits h.bench
at_waits h q moments at early = waits_of h.bench moments h.bench.started early at.stands

-- ---- the job's line

pub begun : (h : AuditState) (dest : Path) (keeps : Keeps) (tasks : ℕ) → h.dest ≡ dest → h.bench ≡ new_bench keeps tasks
    → Waits h.bench → ((b k : List ℕ) → at h.objects b k ≡ None) → h.changes ≡ 0 → At h (begin dest keeps tasks) []
begun h dest keeps tasks d b w o c = record {
  tells = record {
    dest = d;
    keeps = ap (λ (b : Bench). b.keeps) b;
    tasks = ap (λ (b : Bench). b.tasks) b;
    claimed = ap (λ (b : Bench). b.claimed) b;
    opening = λ p. ap (λ (b : Bench). fin.get b.opening p) b ∙ fin.get-empty text_cmp p ∙ none_shown p (is_visible p);
    shown = λ p. ap (λ (b : Bench). fin.get b.shown p) b ∙ fin.get-empty text_cmp p ∙ none_shown p (is_visible p);
    marker = ap (λ (b : Bench). b.marker) b;
    begun = ap (λ (b : Bench). b.begun) b;
    started = ap (λ (b : Bench). b.started) b;
    objects = o;
    changes = c;
  };
  stands = subst (λ (s : Bool). Stands s h.bench []) (sym (ap (λ (b : Bench). b.started) b)) (w, refl);
  unmarked = λ e. refl;
}
  where
    none_shown : (p : List ℕ) (v : Bool) → None ≡ cond v (no_objects dest.bucket (below dest.key p)) None
    none_shown p true = refl
    none_shown p false = refl

-- ---- an opening object

-- The judge knows no file at the path of an object that does not exist.
pub unopened : (h : AuditState) (q : Recorded) (moments : List (Moment Tags)) (bucket key : List ℕ) (p : List ℕ) → At h q moments
    → h.bench.started ≡ false → at h.objects bucket key ≡ None → Contains (seen_paths h.dest bucket (key ∷ [])) p
    → fin.get h.bench.opening p ≡ None
unopened h q moments bucket key p a early free c =
    let s = (seen_laws.seen h.dest bucket (key ∷ []) p).0 c in
    let k : key ≡ below h.dest.key p = one_of key (below h.dest.key p) s.2 in
    let there : q.objects h.dest.bucket (below h.dest.key p) ≡ None =
    (λ i. q.objects (sym s.1 i) (sym k i)) ∙ sym (a.tells.objects bucket key) ∙ free in
    ap (λ m. fin.get m p) (sym (at_waits h q moments a early).shows) ∙ a.tells.shown p
    ∙ subst (λ (d : Path). shown_of d q.objects p ≡ None) a.tells.dest
    (ap (λ v. cond v (q.objects h.dest.bucket (below h.dest.key p)) None) s.0 ∙ there)

-- A success marker among the opening objects is an old one.
old_marker : (d dest : Path) (bucket key : List ℕ) (tags : Tags) (objects : Objects) (marked : Bool) (was : Marker) → d ≡ dest
    → marked ≡ false → was ≡ marker_if (is_some (objects dest.bucket (marker_key dest))) marked
    → cond (is_marker d bucket key) markers.Old was
    ≡ marker_if (is_some (put bucket key tags objects dest.bucket (marker_key dest))) marked
old_marker d dest bucket key tags objects marked was same m w =
    ap (λ (p : Path). cond (is_marker p bucket key) markers.Old was) same ∙ by (is_marker dest bucket key) refl
  where
    by : (b : Bool) → is_marker dest bucket key ≡ b → cond (is_marker dest bucket key) markers.Old was
        ≡ marker_if (is_some (put bucket key tags objects dest.bucket (marker_key dest))) marked
    by true h = rw (marker_laws.marker_put dest bucket key tags objects, h, m) refl
    by false h = rw (marker_laws.marker_put dest bucket key tags objects, h) w

pub opened_so : (o m n : AuditState) (bucket key : List ℕ) (tags : Tags) → at o.objects bucket key ≡ None → o.bench.started ≡ false
    → Opened o m bucket key tags → n ≡ record m { objects = n.objects }
    → ((b k : List ℕ) → at n.objects b k ≡ put bucket key tags (at m.objects) b k)
    → Stepped o n (object_after bucket key tags) no_paths (Ok None)
opened_so o m n bucket key tags free early is e objs = λ q moments a.
    let z : Recorded = record q { opening = put bucket key tags q.opening; objects = put bucket key tags q.objects } in
    let new : is_none (q.objects bucket key) ≡ true = ap is_none (sym (a.tells.objects bucket key) ∙ free) in
    let items : List Change = given (seen_paths o.dest bucket (key ∷ [])) (Some tags) in
    let whole : n.bench ≡ record o.bench {
      opening = change_all items o.bench.opening;
      shown = change_all items o.bench.shown;
      marker = cond (is_marker o.dest bucket key) markers.Old o.bench.marker;
    } = ap (λ (h : AuditState). h.bench) e ∙ is.bench in
    let kept : (h : Path) → h ≡ q.dest → (p : List ℕ)
    → has_path p (seen_paths h bucket (key ∷ [])) ≡ has_path p (seen_paths q.dest bucket (key ∷ [])) =
    λ h s p. ap (λ (d : Path). has_path p (seen_paths d bucket (key ∷ []))) s in
    subst (λ (b : Bool). GoesBy n moments (check b Repeated >>= λ _. Ok z)) (sym new)
    (waits_on o n q z moments a early (ap (λ (b : Bench). b.started) whole ∙ early)
    (subst Waits (sym (ap (λ (h : AuditState). h.bench) e)) is.waits)
    (record {
      dest = ap (λ (h : AuditState). h.dest) e ∙ ap (λ (h : AuditState). h.dest) is.same ∙ a.tells.dest;
      keeps = ap (λ (b : Bench). b.keeps) whole ∙ a.tells.keeps;
      tasks = ap (λ (b : Bench). b.tasks) whole ∙ a.tells.tasks;
      claimed = ap (λ (b : Bench). b.claimed) whole ∙ a.tells.claimed;
      opening = λ p. ap (λ (b : Bench). fin.get b.opening p) whole
          ∙ shown_by (seen_paths o.dest bucket (key ∷ [])) (seen_paths q.dest bucket (key ∷ [])) (Some tags) (shown_of q.dest q.opening)
          (shown_of q.dest (put bucket key tags q.opening)) o.bench.opening (kept o.dest a.tells.dest) a.tells.opening
          (seen_laws.put_seen q.dest bucket key tags q.opening) (seen_laws.put_other q.dest bucket key tags q.opening) p;
      shown = λ p. ap (λ (b : Bench). fin.get b.shown p) whole
          ∙ shown_by (seen_paths o.dest bucket (key ∷ [])) (seen_paths q.dest bucket (key ∷ [])) (Some tags) (shown_of q.dest q.objects)
          (shown_of q.dest (put bucket key tags q.objects)) o.bench.shown (kept o.dest a.tells.dest) a.tells.shown
          (seen_laws.put_seen q.dest bucket key tags q.objects) (seen_laws.put_other q.dest bucket key tags q.objects) p;
      marker = ap (λ (b : Bench). b.marker) whole
          ∙ old_marker o.dest q.dest bucket key tags q.objects q.marked o.bench.marker a.tells.dest (a.unmarked early) a.tells.marker;
      begun = ap (λ (b : Bench). b.begun) whole ∙ a.tells.begun;
      started = ap (λ (b : Bench). b.started) whole ∙ a.tells.started;
      objects = λ b k. objs b k ∙ ap (λ v. cond (same_place bucket key b k) (Some tags) v)
          (ap (λ (h : AuditState). at h.objects b k) is.same ∙ a.tells.objects b k);
      changes = ap (λ (h : AuditState). h.changes) e ∙ ap (λ (h : AuditState). h.changes) is.same ∙ a.tells.changes;
    }) refl)

pub opened_again : (o n : AuditState) (bucket key : List ℕ) (tags : Tags) → is_some (at o.objects bucket key) ≡ true
    → Stepped o n (object_after bucket key tags) no_paths (Err Repeated)
opened_again o n bucket key tags there = λ free q moments a.
    let same : is_none (q.objects bucket key) ≡ false = some_there (q.objects bucket key)
    (ap is_some (sym (a.tells.objects bucket key)) ∙ there) in
    rw same refl
  where
    some_there : (x : Option Tags) → is_some x ≡ true → is_none x ≡ false
    some_there None e = absurd (false≢true e)
    some_there (Some t) e = refl
