-- The deletion of a path, stage by stage.
use Rattle.text_and_lists.proofs.Less.{irrefl}
use Rattle.text_and_lists.proofs.Members.{in_back, in_front, same_or_other, text_gone, text_here, text_is, text_left, text_other, text_true}
use Rattle.text_and_lists.proofs.Members.{true_or_false}
use Rattle.text_and_lists.specs.Members.{IsIn, RisesFrom}
use Rattle.text_and_lists.specs.Order.{text_cmp, text_eq, text_total}
use Rattle.bucket_ops.proofs.AskLaws.{gone_still}
use Rattle.bucket_ops.proofs.Below.{below_stands, gone_in, is_in, kept_out, stands_below}
use Rattle.bucket_ops.proofs.Sweeps.{sweep_falls, sweep_fits, sweep_goes}
use Rattle.bucket_ops.specs.Asks.{Drop, edited, reply_in}
use Rattle.bucket_ops.specs.Looks.{look_of}
use Rattle.bucket_ops.specs.Phases.{IsPhases, MayAsk}
use Rattle.bucket_ops.specs.Sweeping.{IsDeleting, IsSweeping, sweep_asks, sweep_left}
use Rattle.bucket_ops.specs.inner.Sweeping.{IsSwept, LessLeft}
use Rattle.bucket_ops.specs.Walking.{fits, keys_below}
use Rattle.bucket_ops.specs.declared.look.Look.{Look}
use Rattle.bucket_ops.specs.declared.look.Look.TheVariants.{Nothing, There}
use Rattle.dir_markers.specs.Markers.{marker_of}
use Rattle.fs_ops.proofs.AtPathLaws.{looks_there, still_look}
use Rattle.fs_ops.proofs.Deleting.{deletes}
use Rattle.fs_ops.proofs.Looks.{at_key, below_key, none_listed}
use Rattle.fs_ops.proofs.StepLaws.{phases_of}
use Rattle.fs_ops.specs.Places.{NoFileAt, drop_asks, drop_marker_asks, prefix_of}
use Rattle.fs_ops.specs.code.Delete.{Asks, DeleteAnswer, Deletion, GoesWith, InPart, IsBatch, IsDue, IsKept, Removed, always, asks, first}
use Rattle.fs_ops.specs.inner.Delete.{ends}
use Rattle.fs_ops.specs.code.Delete.{gives, here as here_at, holds, inside, left, on, on_here, on_inside, on_parent, on_sweep, sends, swept}
use Rattle.fs_ops.specs.code.Delete.{up, up_to}
use Rattle.fs_ops.specs.code.Steps.{goes_by}
use Rattle.fs_ops.specs.inner.Steps.{IsStages}
use Rattle.fs_ops.specs.declared.delete.DeleteStage.{DeleteStage}
use Rattle.fs_ops.specs.declared.delete.DeleteStage.TheVariants.{Below, DropFile, DropMarker, Here, Parent, PutMarker, Sweep}
use Rattle.fs_ops.specs.declared.delete.Inside.{Inside}
use Rattle.fs_ops.specs.declared.delete.Inside.TheVariants.{Children, Empty, MarkerAlone}
use Rattle.fs_tree.proofs.Above.{key_no_marker}
use Rattle.fs_tree.proofs.Begins.{begins_all}
use Rattle.fs_tree.proofs.Dropping.{if_marker, marker_key, marker_not_below}
use Rattle.fs_tree.specs.Changes.{IsMarked, IsWithoutBelow, marker_if, parent}
use Rattle.fs_tree.specs.Tree.{HasChildren, HasFile, IsEmpty, NoneBelow, SomeBelow, is_marker, marker}
use Rattle.fs_tree.specs.declared.answers.FsRefusal.TheVariants.{IsRoot, NoSuchBucket, NotEmpty, NotFound}
use Rattle.list_walk.specs.Walks.{Deleting as Batch, Listing, all_go, sweep_hears, sweep_start}
use Rattle.operations.specs.Plans.{Falls, Goes}
use Rattle.operations.specs.declared.plan.Step.{Step}
use Rattle.operations.specs.declared.plan.Step.TheVariants.{End, Next}
use Rattle.path_keys.specs.Paths.{is_key}
use Rattle.s3_types.specs.Answer.{head, without}
use Rattle.s3_types.specs.Pages.{begins, listed, page, text_in}
use Rattle.s3_types.specs.Store.{Objects}
use Rattle.s3_types.specs.declared.object.Object.{Object}
use Rattle.s3_types.specs.declared.reply.PageEntry.{PageEntry}
use Rattle.std.proofs.Common.{ap, arith, inl, inr, refl, subst, sym, ◌∙◌}
use Rattle.std.proofs.lemmas.Bool.{false≢true}
use Rattle.std.proofs.lemmas.List.{length-take, take-append-drop}
use Rattle.std.specs.Ordering.{is_lt}
use Rattle.std.specs.Prelude.{Bool, Err, List, None, Ok, Option, Some, drop, false, if◌then◌else◌, map, take, true, ℕ, [], ◌+◌, ◌<◌, ◌∷◌}
use Rattle.std.specs.Prelude.{◌≡◌, ◌⊎◌}
use Rattle.store_frame.proofs.Flat.{listed_rises}
use Rattle.std.specs.FinMap as fin
use Rattle.list_walk.specs.Walks as walks

-- After the removal of all keys below a prefix none is left there, and the others are as they were.
without_below : (x : ℕ) (q : List ℕ) (z : Objects) → IsWithoutBelow (x ∷ q) z (without z (keys_below (x ∷ q) z))
without_below x q z = grind (arith, kept_out, below_stands, gone_still, gone_in, stands_below)

-- ---- what the first two entries below a directory show

abbrev Tells : Objects → List ℕ → Inside → Type 0
Tells z p Empty = NoneBelow z (marker_of p)
Tells z p MarkerAlone = IsEmpty z p
Tells z p Children = HasChildren z p

module _ (z : Objects) (x : ℕ) (p : List ℕ) where
  abbrev Q : List ℕ
  Q = marker_of (x ∷ p)

  alone : (e : PageEntry) → listed Q false [] z ≡ e ∷ [] → text_in e ≡ Q → IsEmpty z (x ∷ p)
  alone e h f =
      ((below_stands Q z Q (subst (λ l. IsIn Q (map text_in l)) (sym h) (inl (sym f)))).1, λ k b n. by k b n (fin.get z k) refl)
    where
      other : (k : List ℕ) → (k ≡ Q → ⊥) → IsIn k (map text_in (e ∷ [])) → ⊥
      other k n (inl g) = n (g ∙ f)
      other k n (inr g) = g

      by : (k : List ℕ) → begins Q k ≡ true → (k ≡ Q → ⊥) → (o : Option Object) → fin.get z k ≡ o → fin.get z k ≡ None
      by k b n None g = g
      by k b n (Some v) g = absurd (other k n (subst (λ l. IsIn k (map text_in l)) h (stands_below x (marker_of p) z k v b g)))

  child : (k : List ℕ) → IsIn k (keys_below Q z) → (k ≡ Q → ⊥) → HasChildren z (x ∷ p)
  child k i n = let w = below_stands Q z k i in (k, w.0, n, w.1.0, w.1.1)

  one : (e : PageEntry) → listed Q false [] z ≡ e ∷ [] → (b : Bool) → text_eq (text_in e) Q ≡ b
      → Tells z (x ∷ p) (if b then MarkerAlone else Children)
  one e h true f = alone e h (text_is (text_in e) Q f)
  one e h false f = child (text_in e) (subst (λ l. IsIn (text_in e) (map text_in l)) (sym h) (inl refl))
      (λ g. false≢true (sym f ∙ text_true (text_in e) Q g))

  two : (e f : PageEntry) (es : List PageEntry) → listed Q false [] z ≡ e ∷ f ∷ es → HasChildren z (x ∷ p)
  two e f es h = elim (same_or_other (text_in e) Q) [
    | inr n ↦ child (text_in e) (subst (λ l. IsIn (text_in e) (map text_in l)) (sym h) (inl refl)) n
    | inl g ↦ child (text_in f) (subst (λ l. IsIn (text_in f) (map text_in l)) (sym h) (inr (inl refl))) (later g)
  ]
    where
      rises : is_lt (text_cmp (text_in e) (text_in f)) ≡ true
      rises = (subst (λ l. RisesFrom [] (map text_in l)) h (listed_rises Q [] z)).1.0

      later : text_in e ≡ Q → text_in f ≡ Q → ⊥
      later g i = false≢true (sym (irrefl text_total Q) ∙ ap (λ v. is_lt (text_cmp v Q)) (sym g) ∙ ap (λ v. is_lt (text_cmp (text_in e) v))
          (sym i) ∙ rises)

  inside_tells : Tells z (x ∷ p) (inside Q (take 2 (listed Q false [] z)))
  inside_tells = by (listed Q false [] z) refl
    where
      by : (l : List PageEntry) → listed Q false [] z ≡ l → Tells z (x ∷ p) (inside Q (take 2 l))
      by [] e = none_listed x (marker_of p) z e
      by (e ∷ []) h = one e h (text_eq (text_in e) Q) refl
      by (e ∷ f ∷ es) h = two e f es h

-- ---- stages

pub parent_key : (P : Look → Type 0) (u k : List ℕ) (m : Objects) → marker_if u ≡ Some k → (SomeBelow m k → P There)
    → (NoneBelow m k → P Nothing)
    → P (look_of (page 1 (listed k false [] m)))
parent_key P [] k m h f g = absurd (cc)
parent_key P (x ∷ u) k m h f g =
    subst (λ k. (SomeBelow m k → P There) → (NoneBelow m k → P Nothing) → P (look_of (page 1 (listed k false [] m))))
    (if_marker (x ∷ u) k h) (below_key P x (marker_of u) m) f g

module _ (recursive : Bool) (z : Objects) where
  abbrev D : List ℕ → Deletion
  D p = record { path = p; recursive = recursive }

  abbrev On : List ℕ → Step DeleteStage DeleteAnswer → Objects → Type 0
  On p y m = Goes (holds (D p) z) (ends (D p) z) y m

  upward : (p : List ℕ) (m : Objects) → Removed (D p) z m → On p (up (D p)) m
  upward p m h = by (marker_if (parent p)) refl
    where
      by : (u : Option (List ℕ)) → marker_if (parent p) ≡ u → On p (up_to u) m
      by None e = (m, h, subst (λ u. IsMarked u m m) (sym e) refl)
      by (Some k) e = (e, h)

  below : (x : ℕ) (p : List ℕ) (i : Inside) → fin.get z (x ∷ p) ≡ None → Tells z (x ∷ p) i → On (x ∷ p) (on_inside recursive i) z
  below x p i h g = grind arith

  drop_marker : (x : ℕ) (p : List ℕ) → fin.get z (x ∷ p) ≡ None → IsEmpty z (x ∷ p)
      → Removed (D (x ∷ p)) z (fin.remove z (marker_of (x ∷ p)))
  drop_marker x p h g = grind (arith, begins_all, same_or_other, text_gone, text_left)

  not_so : recursive ≡ true → recursive ≡ false → ⊥
  not_so e f = false≢true (sym f ∙ e)

  after_sweep : (x : ℕ) (p : List ℕ) (m : Objects) (w : Option walks.Sweep) → fin.get z (x ∷ p) ≡ None → SomeBelow z (marker_of (x ∷ p))
      → recursive ≡ true → IsSwept (marker_of (x ∷ p)) z w m → On (x ∷ p) (swept (D (x ∷ p)) w) m
  after_sweep x p m (Some w) f s e h = (f, s, e, h)
  after_sweep x p m None f s e h =
      upward (x ∷ p) m (inr (
        f,
        s,
        λ g. absurd (not_so e g),
        subst (IsWithoutBelow (marker_of (x ∷ p)) z) (sym h)
            (without_below x (marker_of p) z),
      ))

  sweeping : (x : ℕ) (p : List ℕ) (w : walks.Sweep) (m : Objects) → fin.get z (x ∷ p) ≡ None → SomeBelow z (marker_of (x ∷ p))
      → recursive ≡ true → IsSweeping (marker_of (x ∷ p)) z w m
      → On (x ∷ p) (on_sweep (D (x ∷ p)) w (reply_in m (sweep_asks (marker_of (x ∷ p)) w))
      (fits (reply_in m (sweep_asks (marker_of (x ∷ p)) w)))) (edited (sweep_asks (marker_of (x ∷ p)) w) m)
  sweeping x p w m f s e h =
      subst (λ b. On (x ∷ p) (on_sweep (D (x ∷ p)) w (reply_in m (sweep_asks (marker_of (x ∷ p)) w)) b)
      (edited (sweep_asks (marker_of (x ∷ p)) w) m)) (sym (sweep_fits (marker_of (x ∷ p)) w m))
      (after_sweep x p (edited (sweep_asks (marker_of (x ∷ p)) w) m) (sweep_hears all_go w (reply_in m (sweep_asks (marker_of (x ∷ p)) w)))
      f s e (sweep_goes (marker_of (x ∷ p)) z w m h))

  -- the step after the reply that S3 must give
  step : (p : List ℕ) (x : DeleteStage) (m : Objects) → holds (D p) z x m
      → On p (on (D p) x (reply_in m (asks (D p) x))) (edited (asks (D p) x) m)
  step p (Parent k) m h = parent_key (λ l. On p (on_parent k l) m) (parent p) k m h.0
      (λ s. (m, h.1, subst (λ u. IsMarked u m m) (sym h.0) (inl (s, refl)))) (λ n. (h.0, h.1, n))
  step p (PutMarker k) m h = (m, h.1, subst (λ u. IsMarked u m (fin.insert m k marker)) (sym h.0) (inr (h.2, refl)))
  step [] Here m h = (refl, h)
  step (x ∷ p) Here m h =
      subst (λ m. On (x ∷ p) (here_at (look_of (head (fin.get m (x ∷ p))))) m) (sym h)
      (at_key (λ l. On (x ∷ p) (here_at l) z) z (x ∷ p) (λ s. (s, refl)) (λ n. (n, refl)))
  step [] DropFile m h = absurd h.0.1
  step (x ∷ p) DropFile m h = upward (x ∷ p) (fin.remove m (x ∷ p)) (inl (h.0, ap (λ m. fin.remove m (x ∷ p)) h.1))
  step (x ∷ p) Below m h =
      subst (λ m. On (x ∷ p) (on_inside recursive (inside (marker_of (x ∷ p)) (take 2 (listed (marker_of (x ∷ p)) false [] m)))) m)
      (sym h.1)
      (below x p (inside (marker_of (x ∷ p)) (take 2 (listed (marker_of (x ∷ p)) false [] z))) h.0 (inside_tells z x p))
  step (x ∷ p) DropMarker m h =
      subst (λ m. On (x ∷ p) (up (D (x ∷ p))) (fin.remove m (marker_of (x ∷ p)))) (sym h.2)
      (upward (x ∷ p) (fin.remove z (marker_of (x ∷ p))) (drop_marker x p h.0 h.1))
  step [] _ m h = absurd h.0
  step (x ∷ p) (Sweep w) m h = sweeping x p w m h.0 h.1 h.2 h.3

-- ---- there is something to delete

due_empty : (recursive : Bool) (p : List ℕ) (z : Objects) → NoFileAt z p → IsEmpty z p
    → IsDue (record { path = p; recursive = recursive }) z
due_empty recursive [] z f h = absurd f
due_empty recursive (x ∷ p) z f h = inr (f, (marker_of (x ∷ p), begins_all (marker_of (x ∷ p)), h.0.0, h.0.1), λ _. h)

due_removed : (o : Deletion) (z m : Objects) → Removed o z m → IsDue o z
due_removed o z m h = grind arith

-- ---- at every point

-- The marker above does not belong to the deleted path.
stays_above : (p : List ℕ) (recursive : Bool) (z : Objects) → is_key p ≡ true → (q : List ℕ) → marker_if (parent p) ≡ Some q
    → GoesWith (record { path = p; recursive = recursive }) z q → ⊥
stays_above [] recursive z key q e (inl h) = h.0.1
stays_above [] recursive z key q e (inr h) = h.0
stays_above (x ∷ p) recursive z key q e (inl h) =
    false≢true (sym (key_no_marker x p key) ∙ ap is_marker (sym h.1) ∙ marker_key (parent (x ∷ p)) q e)
stays_above (x ∷ p) recursive z key q e (inr h) = marker_not_below x p (parent (x ∷ p)) q refl e h.1

module _ (o : Deletion) (z : Objects) where
  abbrev Gone : Objects → List ℕ → Type 0
  Gone m k = (fin.get m k ≡ fin.get z k) ⊎ ((fin.get m k ≡ None) × GoesWith o z k)

  as_kept : (m : Objects) (k : List ℕ) → Gone m k → IsKept o z m k
  as_kept m k h = grind arith

  gone_below : (ks : List (List ℕ)) → NoFileAt z o.path → ((k : List ℕ) → IsIn k ks → begins (prefix_of o.path) k ≡ true) → (k : List ℕ)
      → Gone (without z ks) k
  gone_below ks free b k = elim (is_in k ks) [ inl h ↦ inr (gone_in z ks k h, inr (free, b k h)) | inr g ↦ inl (kept_out z ks k g) ]

  gone_swept : (w : walks.Sweep) (m : Objects) → NoFileAt z o.path → IsSweeping (prefix_of o.path) z w m → (k : List ℕ) → Gone m k
  gone_swept w m h g k = grind (arith, gone_below, below_stands, in_front)

  gone_removed : (n : Objects) → Removed o z n → (k : List ℕ) → Gone n k
  gone_removed n (inl h) k = subst (λ m. Gone m k) (sym h.1) (by (same_or_other k o.path))
    where
      by : (k ≡ o.path) ⊎ (k ≡ o.path → ⊥) → Gone (fin.remove z o.path) k
      by (inl e) = inr (text_gone z o.path k e, inl (h.0, e))
      by (inr g) = inl (text_left z o.path k g)
  gone_removed n (inr h) k = elim (true_or_false (begins (prefix_of o.path) k))
      [ inl t ↦ inr (h.3.gone k t, inr (h.0, t)) | inr f ↦ inl (h.3.others k f) ]

  -- if the marker above is put, nothing was there
  pub was_free : is_key o.path ≡ true → (q : List ℕ) (n : Objects) → marker_if (parent o.path) ≡ Some q → Removed o z n → NoneBelow n q
      → fin.get z q ≡ None
  was_free key q n e h none = elim (gone_removed n h q) [
    | inl g ↦ sym g ∙ none q (begins_all q)
    | inr g ↦ absurd (stays_above o.path o.recursive z key q e g.1)
  ]

  kept_marked : (q : List ℕ) (n : Objects) → marker_if (parent o.path) ≡ Some q → fin.get z q ≡ None → ((k : List ℕ) → Gone n k)
      → (k : List ℕ) → IsKept o z (fin.insert n q marker) k
  kept_marked q n e free h k = elim (same_or_other k q) [
    | inl i ↦ inr (inr (e ∙ ap Some (sym i), ap (fin.get z) i ∙ free, text_here n q k marker i))
    | inr i ↦ elim (h k) [ inl g ↦ inl (text_other n q k marker i ∙ g) | inr g ↦ inr (inl (text_other n q k marker i ∙ g.0, g.1)) ]
  ]

  during : (x : DeleteStage) (m : Objects) → holds o z x m → InPart o z m
  during Here m h = inl h
  during DropMarker m h = inl h.2
  during (Sweep w) m h = inr (inr (h.0, h.1, λ e. absurd (false≢true (sym e ∙ h.2))), λ k. as_kept m k (gone_swept w m h.0 h.3 k))
  during (Parent q) m h = inr (due_removed o z m h.1, λ k. as_kept m k (gone_removed m h.1 k))
  during (PutMarker q) m h = inr (due_removed o z m h.1, λ k. as_kept m k (gone_removed m h.1 k))
  during _ m h = inl h.1

  marked_end : is_key o.path ≡ true → (q : Option (List ℕ)) (n m : Objects) → marker_if (parent o.path) ≡ q → Removed o z n → IsMarked q n m
      → (k : List ℕ) → IsKept o z m k
  marked_end key None n m e h g k = subst (λ m. IsKept o z m k) (sym g) (as_kept n k (gone_removed n h k))
  marked_end key (Some q) n m e h (inl g) k = subst (λ m. IsKept o z m k) (sym g.1) (as_kept n k (gone_removed n h k))
  marked_end key (Some q) n m e h (inr g) k =
      subst (λ m. IsKept o z m k) (sym g.1) (kept_marked q n e (was_free key q n e h g.0) (gone_removed n h) k)

  at_end : (a : DeleteAnswer) (m : Objects) → ends o z a m → always o z m
  at_end (Ok x) m h key = inr (due_removed o z h.0 h.1, marked_end key (marker_if (parent o.path)) h.0 m refl h.1 h.2)
  at_end (Err IsRoot) m h key = inl h.1
  at_end (Err NotFound) m h key = inl h.1
  at_end (Err NotEmpty) m h key = inl h.3
  at_end (Err r) m h key = absurd h

  -- ---- the requests that are left

  fall_up : (u : Option (List ℕ)) (m : Objects) (n : ℕ) → 1 < n → Falls (left o) (up_to u) m n
  fall_up u m n h = grind arith

  fall_root : (p : List ℕ) (l : Look) (m : Objects) → Falls (left o) (on_here p l) m (sweep_left (prefix_of o.path) sweep_start m + 4)
  fall_root p l m = grind arith

  fall_inside : (i : Inside) (m : Objects) → Falls (left o) (on_inside o.recursive i) m (sweep_left (prefix_of o.path) sweep_start m + 3)
  fall_inside i m = grind arith

  fall_swept : (w : Option walks.Sweep) (m : Objects) (n : ℕ) → LessLeft (prefix_of o.path) m w n → Falls (left o) (swept o w) m (n + 2)
  fall_swept (Some w) m n h = omega (arith, h)
  fall_swept None m n h = fall_up (marker_if (parent o.path)) m (n + 2) (omega (arith, h))

falls_sweep : (o : Deletion) (w : walks.Sweep) (m : Objects)
    → Falls (left o) (on_sweep o w (reply_in m (sweep_asks (prefix_of o.path) w)) (fits (reply_in m (sweep_asks (prefix_of o.path) w))))
    (edited (sweep_asks (prefix_of o.path) w) m) (sweep_left (prefix_of o.path) w m + 2)
falls_sweep o w m =
    subst (λ b. Falls (left o) (on_sweep o w (reply_in m (sweep_asks (prefix_of o.path) w)) b) (edited (sweep_asks (prefix_of o.path) w) m)
    (sweep_left (prefix_of o.path) w m + 2)) (sym (sweep_fits (prefix_of o.path) w m))
    (fall_swept o m (sweep_hears all_go w (reply_in m (sweep_asks (prefix_of o.path) w))) (edited (sweep_asks (prefix_of o.path) w) m)
    (sweep_left (prefix_of o.path) w m) (sweep_falls (prefix_of o.path) w m))

falls : (o : Deletion) (z : Objects) (x : DeleteStage) (m : Objects)
    → Falls (left o) (on o x (reply_in m (asks o x))) (edited (asks o x) m) (left o x m)
falls o z x m = grind (arith, still_look, fall_root, fall_up, fall_inside, falls_sweep)

stays : (o : Deletion) (x : DeleteStage) (m : Objects) → left o x (edited (asks o x) m) ≡ left o x m
stays o x m = grind arith

goes : (o : Deletion) (z : Objects) (y : Step DeleteStage DeleteAnswer) (m : Objects) → Goes (holds o z) (ends o z) y m
    → Goes (holds o z) (gives o z) y m
goes o z (Next x) m h = h
goes o z (End a) m h = (λ k. deletes o.recursive o.path z a m k h, at_end o z a m h)

stages : IsStages {O = Deletion} first asks on holds gives always left
stages = record {
  begin = λ o z. refl;
  goes_on = λ o z x m h. goes o z (on o x (reply_in m (asks o x))) (edited (asks o x) m) (step o.recursive z o.path x m h);
  falls = λ o z x m h. falls o z x m;
  stays = λ o z x m h. stays o x m;
  during = λ o z x m h key. during o z x m h;
  at_end = λ o z a m h. h.1;
}

pub delete_laws : IsPhases {O = Deletion} first asks (goes_by on) holds gives always left (Err NoSuchBucket)
delete_laws = phases_of (Err NoSuchBucket) stages

-- ---- the requests

-- A file's own key is deleted.
drops_file_key : (p : List ℕ) (z : Objects) → HasFile z p → drop_asks p ≡ Drop p
drops_file_key [] z h = absurd h.1
drops_file_key (x ∷ p) z h = refl

drops_marker_key : (p : List ℕ) (z : Objects) → NoFileAt z p → drop_marker_asks p ≡ Drop (marker_of p)
drops_marker_key [] z h = absurd h
drops_marker_key (x ∷ p) z h = refl

-- The keys that are deleted next are below the directory.
batch_of : (o : Deletion) (z m : Objects) (k : List ℕ) (ks : List (List ℕ)) → NoFileAt z o.path → o.recursive ≡ true
    → IsDeleting z (keys_below (prefix_of o.path) z) (k ∷ ks) m
    → IsBatch o z (take 1000 (k ∷ ks))
batch_of o z m k ks free e h = record {
  recursive = e;
  directory = free;
  few = omega (arith, length-take 1000 (k ∷ ks));
  each = λ j i. below_stands (prefix_of o.path) z j (subst (IsIn j) h.1 (in_back j h.0 (k ∷ ks) (taken 1000 (k ∷ ks) j i)));
}
  where
    taken : (n : ℕ) (ls : List (List ℕ)) (j : List ℕ) → IsIn j (take n ls) → IsIn j ls
    taken n ls j i = subst (IsIn j) (take-append-drop n ls) (in_front j (take n ls) (drop n ls) i)

swept_asks : (o : Deletion) (z m : Objects) (w : walks.Sweep) → NoFileAt z o.path → SomeBelow z (prefix_of o.path) → o.recursive ≡ true
    → IsSweeping (prefix_of o.path) z w m
    → Asks o z (sweep_asks (prefix_of o.path) w)
swept_asks o z m (Listing keys) free s e h = inl refl
swept_asks o z m (Batch k ks) free s e h =
    inr (inr (free, s, λ f. absurd (false≢true (sym f ∙ e))), inr (inr (inl (k, take 999 ks, refl, batch_of o z m k ks free e h))))

pub delete_asked : MayAsk {O = Deletion} asks holds sends
delete_asked o z Here m h key = inl (looks_there o.path)
delete_asked o z DropFile m h key = inr (inl h.0, inl (h.0, drops_file_key o.path z h.0))
delete_asked o z DropMarker m h key = inr (due_empty o.recursive o.path z h.0 h.1, inr (inl (h.0, h.1, drops_marker_key o.path z h.0)))
delete_asked o z (Sweep w) m h key = swept_asks o z m w h.0 h.1 h.2 h.3
delete_asked o z (PutMarker k) m h key = inr (due_removed o z m h.1, inr (inr (inr (k, refl, h.0, was_free o z key k m h.0 h.1 h.2))))
delete_asked o z _ m h key = inl refl
