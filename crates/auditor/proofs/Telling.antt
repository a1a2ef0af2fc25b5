-- The knowledge after a request that changed objects is what the lines say.
use Rattle.std.proofs.Common.{Bool, List, None, Option, Some, [], ap, arith, cond, false, is_some, length, map, min, not, refl, subst, sym}
use Rattle.std.proofs.Common.{true}
use Rattle.std.proofs.Common.{ℕ, ◌+◌, ◌-◌, ◌^◌, ◌∙◌, ◌∷◌, ◌≡◌, ◌||◌, ◌&&◌}
use Rattle.std.proofs.lemmas.Bool.{false≢true}
use Rattle.std.specs.FinMap as fin
use Rattle.std.specs.List.{Contains, list_any}
use Rattle.std.specs.Str.{bytes_eq}
use Rattle.judging.proofs.Changed.{among}
use Rattle.audit_claims.specs.Claims.{Tags}
use Rattle.audit_judge.specs.Bench.{Bench, now, opened}
use Rattle.audit_judge.specs.Changes.{change_all, changed as changed_bench, paths_of}
use Rattle.audit_judge.specs.declared.change.Change.{Change}
use Rattle.audit_laws.specs.Alike.{SameElements}
use Rattle.audit_model.specs.Answers.{seen_paths}
use Rattle.audit_model.specs.Moments.{marker_if, marker_of, opening, shown_of}
use Rattle.audit_model.specs.Recorded.{Recorded, changed, is_marker, marker_key}
use Rattle.audit_objects.specs.Objects.{Objects, ObjectMap, at, delete, put}
use Rattle.audit_laws.proofs.Judge.{changed_all}
use Rattle.audit_laws.proofs.Seen.{marker_laws}
use Rattle.auditor.specs.AuditState.{AuditState, Tells}
use Rattle.auditor.specs.inner.Paths.{given, has_path}
use Rattle.path_keys.specs.Paths.{Path}
use Rattle.soundness.specs.Moments.{Shown}
use Rattle.soundness.specs.declared.marker.Marker.{Marker}
use Rattle.soundness.specs.declared.marker.Marker.TheVariants as markers

-- One more request, counted up to the most.
counted : (n : ℕ) → min (min n (2 ^ 64 - 1) + 1) (2 ^ 64 - 1) ≡ min (n + 1) (2 ^ 64 - 1)
counted n = grind (arith)

-- A request has changed the objects, and with them what readers see and the marker.
pub record Made (o n : AuditState) (items : List Change) (s : Bench) (marker : Marker) : Type 0 where
  pub dest : n.dest ≡ o.dest
  pub start : s ≡ record o.bench { started = true; candidates = s.candidates }
  pub bench : n.bench ≡ record (changed_bench items marker s) { needed = n.bench.needed; candidates = n.bench.candidates }
  pub changes : n.changes ≡ min (o.changes + 1) (2 ^ 64 - 1)

-- The knowledge, by what readers then see at each path below the destination.
pub told : (o n : AuditState) (items : List Change) (s : Bench) (marker : Marker) (r : Recorded) (objects : Objects) (marked : Bool)
    → Made o n items s marker → Tells o r
    → ((p : List ℕ) → fin.get (change_all items o.bench.shown) p ≡ shown_of r.dest objects p)
    → marker ≡ marker_if (is_some (objects r.dest.bucket (marker_key r.dest))) (r.marked || marked)
    → ((b k : List ℕ) → at n.objects b k ≡ objects b k)
    → Tells n (changed objects marked r)
told o n items s marker r objects marked m t shown is objs =
    let whole : n.bench ≡ record (changed_bench items marker o.bench) {
      started = true;
      needed = n.bench.needed;
      candidates = n.bench.candidates;
    } = m.bench ∙ ap (λ (b : Bench). record (changed_bench items marker b) { needed = n.bench.needed; candidates = n.bench.candidates })
    m.start in
    record {
      dest = m.dest ∙ t.dest;
      keeps = ap (λ (b : Bench). b.keeps) whole ∙ t.keeps;
      tasks = ap (λ (b : Bench). b.tasks) whole ∙ t.tasks;
      claimed = ap (λ (b : Bench). b.claimed) whole ∙ t.claimed;
      opening = λ p. ap (λ (b : Bench). fin.get b.opening p) whole ∙ t.opening p;
      shown = λ p. ap (λ (b : Bench). fin.get b.shown p) whole ∙ shown p;
      marker = ap (λ (b : Bench). b.marker) whole ∙ is;
      begun = ap (λ (b : Bench). b.begun) whole ∙ t.begun;
      started = ap (λ (b : Bench). b.started) whole;
      objects = objs;
      changes = m.changes ∙ ap (λ k. min (k + 1) (2 ^ 64 - 1)) t.changes ∙ counted r.changes;
    }

-- ---- the changed paths all have the same tags

-- Readers then see at every path what they should.
pub shown_by : (ps paths : List (List ℕ)) (e : Option Tags) (before : Shown Tags) (after : Shown Tags) (held : fin.FinMap _ Tags)
    → ((p : List ℕ) → has_path p ps ≡ has_path p paths)
    → ((p : List ℕ) → fin.get held p ≡ before p)
    → ((p : List ℕ) → Contains paths p → after p ≡ e)
    → ((p : List ℕ) → (Contains paths p → ⊥) → after p ≡ before p)
    → (p : List ℕ) → fin.get (change_all (given ps e) held) p ≡ after p
shown_by ps paths e before after held same was seen other p = by (has_path p ps) refl
  where
    by : (b : Bool) → has_path p ps ≡ b → fin.get (change_all (given ps e) held) p ≡ after p
    by true h = changed_all.there e ps held p ((among ps p).0 h) ∙ sym (seen p ((among paths p).0 (sym (same p) ∙ h)))
    by false h =
        changed_all.elsewhere e ps held p (λ c. absurd (false≢true (sym h ∙ (among ps p).1 c)))
        ∙ was p ∙ sym (other p (λ c. absurd (false≢true (sym h ∙ same p ∙ (among paths p).1 c))))

pub same_elements : (ps paths : List (List ℕ)) → ((p : List ℕ) → has_path p ps ≡ has_path p paths) → SameElements ps paths
same_elements ps paths same = record {
  on = λ p c. (among paths p).0 (sym (same p) ∙ (among ps p).1 c);
  back = λ p c. (among ps p).0 (same p ∙ (among paths p).1 c);
}

-- ---- the marker

marked_new : (m : Bool) → markers.New ≡ marker_if true (m || true)
marked_new true = refl
marked_new false = refl

marked_same : (e m : Bool) → marker_if e m ≡ marker_if e (m || false)
marked_same e true = refl
marked_same e false = refl

pub marker_after_put : (dest : Path) (bucket key : List ℕ) (tags : Tags) (objects : Objects) (m : Bool) (was marker : Marker)
    → was ≡ marker_if (is_some (objects dest.bucket (marker_key dest))) m
    → marker ≡ cond (is_marker dest bucket key) markers.New was
    → marker ≡ marker_if (is_some (put bucket key tags objects dest.bucket (marker_key dest))) (m || is_marker dest bucket key)
marker_after_put dest bucket key tags objects m was marker w e = by (is_marker dest bucket key) refl
  where
    by : (b : Bool) → is_marker dest bucket key ≡ b
        → marker ≡ marker_if (is_some (put bucket key tags objects dest.bucket (marker_key dest))) (m || is_marker dest bucket key)
    by true h = rw (marker_laws.marker_put dest bucket key tags objects, h) (e ∙ rw h (marked_new m))
    by false h = rw (marker_laws.marker_put dest bucket key tags objects, h) (e ∙ rw h
        (w ∙ marked_same (is_some (objects dest.bucket (marker_key dest))) m))

pub marker_after_delete : (dest : Path) (bucket : List ℕ) (keys : List (List ℕ)) (objects : Objects) (m : Bool) (was marker : Marker)
    → was ≡ marker_if (is_some (objects dest.bucket (marker_key dest))) m
    → marker ≡ cond (list_any (λ key. is_marker dest bucket key) keys) markers.Absent was
    → marker ≡ marker_if (is_some (delete bucket keys objects dest.bucket (marker_key dest))) (m || false)
marker_after_delete dest bucket keys objects m was marker w e = by (list_any (λ key. is_marker dest bucket key) keys) refl
  where
    by : (b : Bool) → list_any (λ key. is_marker dest bucket key) keys ≡ b
        → marker ≡ marker_if (is_some (delete bucket keys objects dest.bucket (marker_key dest))) (m || false)
    by true h = rw (marker_laws.marker_delete dest bucket keys objects, h) (e ∙ rw h refl)
    by false h = rw (marker_laws.marker_delete dest bucket keys objects, h) (e ∙ rw h
        (w ∙ marked_same (is_some (objects dest.bucket (marker_key dest))) m))
