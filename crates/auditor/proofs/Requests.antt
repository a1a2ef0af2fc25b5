-- The knowledge after a request.
use Rattle.std.proofs.Common.{Bool, List, None, Ok, Option, Some, [], ap, cond, false, is_some, min, refl, subst, sym, true, ℕ, ◌+◌, ◌-◌}
use Rattle.std.proofs.Common.{◌^◌, ◌∙◌, ◌∷◌, ◌≡◌, ◌||◌}
use Rattle.std.specs.FinMap as fin
use Rattle.std.specs.List.Sorted.{IsStrictlySortedBy}
use Rattle.std.specs.List.{Contains, list_any}
use Rattle.audit_claims.specs.Claims.{Tags}
use Rattle.audit_judge.specs.Bench.{Bench}
use Rattle.audit_judge.specs.Changes.{change_all, changed as changed_bench, paths_of}
use Rattle.audit_judge.specs.Deciding.{Answers}
use Rattle.audit_judge.specs.Following.{Follows, FollowsSome}
use Rattle.audit_judge.specs.declared.change.Change.{Change}
use Rattle.audit_judge.specs.declared.reason.Reason.{Reason}
use Rattle.audit_laws.proofs.Seen.{seen_laws}
use Rattle.audit_laws.specs.Alike.{SameElements}
use Rattle.audit_model.specs.Answers.{seen_paths}
use Rattle.audit_model.specs.Moments.{marker_if, shown_of}
use Rattle.audit_model.specs.Recorded.{Recorded, changed, is_marker, marker_key}
use Rattle.audit_objects.specs.Objects.{Objects, at, delete, put, same_place}
use Rattle.auditor.proofs.Stepping.{Told, changing}
use Rattle.auditor.proofs.Telling.{Made, marker_after_delete, marker_after_put, same_elements, shown_by, told as telling}
use Rattle.auditor.specs.inner.Destinations.{in_list}
use Rattle.auditor.specs.AuditState.{AuditState, Tells}
use Rattle.auditor.specs.inner.AuditState.{AtSome, Stepped}
use Rattle.auditor.specs.inner.Paths.{given, has_path}
use Rattle.auditor.specs.inner.Steps.{Answered, Begun, delete_after, put_after}
use Rattle.text_and_lists.specs.Order.{text_cmp}
use Rattle.path_keys.specs.Paths.{Path}
use Rattle.soundness.specs.Moments.{Moment}
use Rattle.soundness.specs.declared.marker.Marker.{Marker}
use Rattle.soundness.specs.declared.marker.Marker.TheVariants as markers

-- The judge follows some moments once the run has begun.
pub follows_some : (o s : AuditState) → AtSome o → Begun o s → FollowsSome s.bench
follows_some o s some begun = (some.1, begun.follows some.0 some.1 some.2)

-- The paths of these changes.
pub given_paths : (ps : List (List ℕ)) (e : Option Tags) → paths_of (given ps e) ≡ ps
given_paths [] e = refl
given_paths (p ∷ ps) e = ap (λ l. p ∷ l) (given_paths ps e)

-- The paths of changes of at most one path rise.
pub one_rises : (path : Option (List ℕ)) (e : Option Tags) → IsStrictlySortedBy text_cmp (paths_of (given (in_list path) e))
unfolding IsStrictlySortedBy
one_rises None e = tt
one_rises (Some p) e = (tt, tt)

-- The knowledge after the judge received the changes.
made : (o s m n : AuditState) (items : List Change) (marker : Marker) (r : Option Reason) → Begun o s → m ≡ record s { objects = m.objects }
    → Answered m n items marker r → Made o n items s.bench marker
made o s m n items marker r begun e told = record {
  dest = told.dest ∙ ap (λ (h : AuditState). h.dest) e ∙ ap (λ (h : AuditState). h.dest) begun.same;
  start = begun.bench;
  bench = told.bench
      ∙ ap (λ (h : AuditState). record (changed_bench items marker h.bench) { needed = n.bench.needed; candidates = n.bench.candidates }) e;
  changes = told.changes ∙ ap (λ (h : AuditState). min (h.changes + 1) (2 ^ 64 - 1))
      (e ∙ ap (λ (h : AuditState). record h { objects = m.objects }) begun.same);
}

-- A request that gives some paths the same tags, or removes their files.
pub requested : (o s m n : AuditState) (ps : List (List ℕ)) (e : Option Tags) (items : List Change) (marker : Marker) (r : Option Reason)
    (objects : Recorded → Objects) (marked : Recorded → Bool) (paths : Path → List (List ℕ))
    → Begun o s → m ≡ record s { objects = m.objects } → items ≡ given ps e
    → ((p : List ℕ) → has_path p ps ≡ has_path p (paths s.dest))
    → Answered m n items marker r
    → ((q : Recorded) → Tells o q → (b k : List ℕ) → at m.objects b k ≡ objects q b k)
    → ((q : Recorded) (p : List ℕ) → Contains (paths q.dest) p → shown_of q.dest (objects q) p ≡ e)
    → ((q : Recorded) (p : List ℕ) → (Contains (paths q.dest) p → ⊥) → shown_of q.dest (objects q) p ≡ shown_of q.dest q.objects p)
    → ((q : Recorded) → Tells o q → marker ≡ marker_if (is_some (objects q q.dest.bucket (marker_key q.dest))) (q.marked || marked q))
    → Stepped o n (λ q. Ok (changed (objects q) (marked q) q)) paths (Ok r)
requested o s m n ps e items marker r objects marked paths begun em is same told objs seen other mark =
    let mk : Made o n items s.bench marker = made o s m n items marker r begun em told in
    let at_dest : (q : Recorded) → Tells o q → s.dest ≡ q.dest = λ q t. ap (λ (h : AuditState). h.dest) begun.same ∙ t.dest in
    let kept : (q : Recorded) → Tells o q → (p : List ℕ) → has_path p ps ≡ has_path p (paths q.dest) =
    λ q t p. same p ∙ ap (λ (d : Path). has_path p (paths d)) (at_dest q t) in
    let bench_is : m.bench ≡ s.bench = ap (λ (h : AuditState). h.bench) em in
    changing o n s.bench items marker (λ q. Ok (changed (objects q) (marked q) q)) paths r begun.bench begun.follows mk.bench
    (λ moments f. subst (λ (b : Bench). Answers b moments (paths_of items) r n.bench) bench_is
    (told.answers moments (subst (λ (b : Bench). Follows b moments) (sym bench_is) f)))
    (λ q t. telling o n items s.bench marker q (objects q) (marked q) mk t
    (λ p. ap (λ (l : List Change). fin.get (change_all l o.bench.shown) p) is
    ∙ shown_by ps (paths q.dest) e (shown_of q.dest q.objects) (shown_of q.dest (objects q)) o.bench.shown (kept q t) t.shown (seen q)
    (other q) p)
    (mark q t) (λ b k. ap (λ x. at x b k) told.objects ∙ objs q t b k))
    (λ q t. subst (λ (l : List (List ℕ)). SameElements l (paths q.dest)) (sym (ap paths_of is ∙ given_paths ps e))
    (same_elements ps (paths q.dest) (kept q t)))

pub put_step : (o s m n : AuditState) (bucket key : List ℕ) (tags : Tags) (path : Option (List ℕ)) (items : List Change) (marker : Marker)
    (r : Option Reason) → Begun o s → m ≡ record s { objects = m.objects } → items ≡ given (in_list path) (Some tags)
    → in_list path ≡ seen_paths s.dest bucket (key ∷ [])
    → marker ≡ cond (is_marker s.dest bucket key) markers.New s.bench.marker
    → ((b k : List ℕ) → at m.objects b k ≡ put bucket key tags (at s.objects) b k)
    → Answered m n items marker r
    → Stepped o n (put_after bucket key tags) (λ dest. seen_paths dest bucket (key ∷ [])) (Ok r)
put_step o s m n bucket key tags path items marker r begun em is same mark objs told =
    requested o s m n (in_list path) (Some tags) items marker r (λ q. put bucket key tags q.objects) (λ q. is_marker q.dest bucket key)
    (λ dest. seen_paths dest bucket (key ∷ [])) begun em is (λ p. ap (has_path p) same) told
    (λ q t b k. objs b k ∙ ap (λ v. cond (same_place bucket key b k) (Some tags) v)
    (ap (λ (h : AuditState). at h.objects b k) begun.same ∙ t.objects b k))
    (λ q. seen_laws.put_seen q.dest bucket key tags q.objects) (λ q. seen_laws.put_other q.dest bucket key tags q.objects)
    (λ q t. marker_after_put q.dest bucket key tags q.objects q.marked o.bench.marker marker t.marker
    (mark ∙ (λ i. cond (is_marker (at_dest q t i) bucket key) markers.New (at_marker i))))
  where
    at_dest : (q : Recorded) → Tells o q → s.dest ≡ q.dest
    at_dest q t = ap (λ (h : AuditState). h.dest) begun.same ∙ t.dest

    at_marker : s.bench.marker ≡ o.bench.marker
    at_marker = ap (λ (b : Bench). b.marker) begun.bench

pub delete_step : (o s m n : AuditState) (bucket : List ℕ) (keys ps : List (List ℕ)) (items : List Change) (marker : Marker)
    (r : Option Reason) → Begun o s → m ≡ record s { objects = m.objects } → items ≡ given ps None
    → ((p : List ℕ) → has_path p ps ≡ has_path p (seen_paths s.dest bucket keys))
    → marker ≡ cond (list_any (λ key. is_marker s.dest bucket key) keys) markers.Absent s.bench.marker
    → ((b k : List ℕ) → at m.objects b k ≡ delete bucket keys (at s.objects) b k)
    → Answered m n items marker r
    → Stepped o n (delete_after bucket keys) (λ dest. seen_paths dest bucket keys) (Ok r)
delete_step o s m n bucket keys ps items marker r begun em is same mark objs told =
    requested o s m n ps None items marker r (λ q. delete bucket keys q.objects) (λ q. false)
    (λ dest. seen_paths dest bucket keys) begun em is same told
    (λ q t b k. objs b k ∙ ap (λ v. cond (list_any (λ key. same_place bucket key b k) keys) None v)
    (ap (λ (h : AuditState). at h.objects b k) begun.same ∙ t.objects b k))
    (λ q. seen_laws.delete_seen q.dest bucket keys q.objects) (λ q. seen_laws.delete_other q.dest bucket keys q.objects)
    (λ q t. marker_after_delete q.dest bucket keys q.objects q.marked o.bench.marker marker t.marker
    (mark ∙ (λ i. cond (list_any (λ key. is_marker (at_dest q t i) bucket key) keys) markers.Absent (at_marker i))))
  where
    at_dest : (q : Recorded) → Tells o q → s.dest ≡ q.dest
    at_dest q t = ap (λ (h : AuditState). h.dest) begun.same ∙ t.dest

    at_marker : s.bench.marker ≡ o.bench.marker
    at_marker = ap (λ (b : Bench). b.marker) begun.bench
