-- A sweep of the job's magic directory leaves nothing there, if only the driver changes it.
use Rattle.text_and_lists.proofs.Members.{filter_in, in_filter, none_some, text_true}
use Rattle.text_and_lists.specs.Members.{IsIn}
use Rattle.text_and_lists.specs.Order.{text_cmp, text_ties, text_total}
use Rattle.job_invariant.proofs.Aborting.{dropped_in}
use Rattle.job_invariant.proofs.Going.{effect_so}
use Rattle.job_invariant.proofs.Shapes.{all_covered, key_after, key_before, last_so, more_keys, page_each, page_is, rest, still_covered}
use Rattle.job_invariant.proofs.Shapes.{store_is}
use Rattle.job_invariant.proofs.Undone.{stood_before}
use Rattle.job_invariant.specs.Driver.{AllUnder, FitsSweep, SweepsUnder}
use Rattle.job_invariant.specs.Emptying.{Empties, EmptiesBy, OnlyThose, ThoseOrBehind}
use Rattle.job_invariant.specs.Stores.{at_key}
use Rattle.job_model.specs.JobScript.{Script}
use Rattle.list_walk.specs.Walks.{Deleting, Listing, Sweep, all_go, deleting, page_after, sweep_asks, sweep_hears, swept, walked, walked_by}
use Rattle.magic_paths.specs.Layout.{magic_prefix}
use Rattle.s3_types.specs.Answer.{answer, apply, apply_store, with_objects, without}
use Rattle.s3_types.specs.Moment.{effect}
use Rattle.s3_types.specs.Pages.{begins}
use Rattle.s3_types.specs.Requests.{only_reads}
use Rattle.s3_types.specs.Store.{Content, Objects, Scene}
use Rattle.s3_types.specs.declared.journal.Outcome.{Outcome}
use Rattle.s3_types.specs.declared.limits.TheConstants.{MOST_ENTRIES}
use Rattle.s3_types.specs.declared.object.Object.{Object}
use Rattle.s3_types.specs.declared.reply.Reply.{Reply}
use Rattle.s3_types.specs.declared.request.Request.{Request}
use Rattle.s3_types.specs.declared.request.Request.TheVariants.{DeleteObjects}
use Rattle.std.proofs.Common.{Bool, List, None, Option, Some, ap, arith, codes, cond, drop, false, inl, inr, length, nat_lt, refl, subst}
use Rattle.std.proofs.Common.{suc, sym, take, true, zero, ℕ, [], ◌++◌, ◌∙◌, ◌∷◌, ◌≡◌, ◌≤◌, ◌⊎◌}
use Rattle.std.proofs.lemmas.Bool.{false≢true, le-ltb}
use Rattle.std.specs.List.{filter}
use Rattle.std.specs.Ordering.{eq_by_cmp, is_lt}
use Rattle.store_frame.proofs.Framed.{frame, with_bucket}
use Rattle.store_frame.proofs.Reading.{reads_nothing}
use Rattle.store_frame.specs.Held.{HasBucket}
use Rattle.std.specs.FinMap as fin

-- ---- scenes

pub still_there : (w : Script) (s : Scene) (r : Request) (o : Outcome) → HasBucket s.content w.dest.bucket
    → HasBucket (effect s r o).content w.dest.bucket
still_there w s r o h = effect_so (λ u. HasBucket u.content w.dest.bucket) s r o h ((frame s w.dest.bucket r h).there h.0 h.1)

pub reads_same : (s : Scene) (r : Request) (o : Outcome) → only_reads r ≡ true → effect s r o ≡ s
reads_same s r o h = effect_so (λ u. u ≡ s) s r o refl (reads_nothing s r h)

-- ---- keys that are deleted

gone_still : (o : Objects) (ks : List (List ℕ)) (k : List ℕ) → fin.get o k ≡ None → fin.get (without o ks) k ≡ None
gone_still o [] k e = e
gone_still o (q ∷ ks) k e = gone_still (fin.remove o q) ks k (fin.get-remove text_total o q k ∙ elim (eq_by_cmp text_cmp k q) as
    (λ b. cond b None (fin.get o k) ≡ None) [ true ↦ refl | false ↦ e ])

deleted_gone : (o : Objects) (ks : List (List ℕ)) (k : List ℕ) → IsIn k ks → fin.get (without o ks) k ≡ None
deleted_gone o [] k i = absurd i
deleted_gone o (q ∷ ks) k (inl e) = gone_still (fin.remove o q) ks k (fin.get-remove text_total o q k ∙ ap (λ b. cond b None (fin.get o k))
    (sym (text_ties k q) ∙ text_true k q e))
deleted_gone o (q ∷ ks) k (inr i) = deleted_gone (fin.remove o q) ks k i

pub split_in : {X : Type 0} (n : ℕ) (ks : List X) (k : X) → IsIn k ks → IsIn k (take n ks) ⊎ IsIn k (drop n ks)
split_in zero ks k i = inr i
split_in (suc n) [] k i = absurd i
split_in (suc n) (q ∷ ks) k (inl e) = inl (inl e)
split_in (suc n) (q ∷ ks) k (inr i) = elim (split_in n ks k i) [ inl h ↦ inl (inr h) | inr h ↦ inr h ]

taken_few : (n : ℕ) (ks : List (List ℕ)) → length (take n ks) ≤ n
taken_few zero ks = omega arith
taken_few (suc n) [] = omega arith
taken_few (suc n) (k ∷ ks) = let old = taken_few n ks in omega arith

pub magic_some : (p r k : List ℕ) → begins (p ++ (codes "/__magic/job-" ++ r)) k ≡ true → is_lt (text_cmp [] k) ≡ true
magic_some [] r [] h = absurd (false≢true h)
magic_some (x ∷ p) r [] h = absurd (false≢true h)
magic_some p r (x ∷ k) h = refl

-- Its first state.
pub sweep_begins : (w : Script) (c : Content) → Empties w c (Listing [])
sweep_begins w c k x h go e = inr (magic_some w.dest.key _ k h)

-- A sweep that goes on, or is done.
abbrev pub EmptiedBy : Script → List ℕ → (List ℕ → Bool) → Content → Option Sweep → Type 0
EmptiedBy w p goes c None = OnlyThose w p goes c []
EmptiedBy w p goes c (Some t) = SweepsUnder p t × EmptiesBy w p goes c t

abbrev pub Emptied : Script → Content → Option Sweep → Type 0
Emptied w c t = EmptiedBy w (magic_prefix w.dest.key w.job) all_go c t

deletes_on : (w : Script) (p : List ℕ) (goes : List ℕ → Bool) (c : Content) (keys : List (List ℕ)) → AllUnder p keys
    → OnlyThose w p goes c keys → EmptiedBy w p goes c (deleting keys)
deletes_on w p goes c keys h g = grind arith

module _ (w : Script) (s : Scene) (there : HasBucket s.content w.dest.bucket) (prefix : List ℕ) (goes : List ℕ → Bool) where
  -- ---- a page

  module _ (keys : List (List ℕ)) (all : AllUnder prefix keys) (cover : ThoseOrBehind w prefix goes s.content keys) where
    paged : (more : Bool) → nat_lt 1000 (length (rest w s there prefix keys)) ≡ more
        → EmptiedBy w prefix goes s.content (swept goes (walked_by more (more_keys w s there prefix keys)))
    paged true e = (
      page_each w s there prefix keys (λ k. begins prefix k ≡ true) (λ k h. h) all,
      λ k x h go e. still_covered w s there
          prefix keys k x e h (cover k x h go e),
    )
    paged false few =
        let found = more_keys w s there prefix keys in
        deletes_on w prefix goes s.content (filter goes found) (λ k i. page_each w s there prefix keys (λ k. begins prefix k ≡ true)
        (λ k h. h) all k (in_filter goes k found i).0)
        (λ k x h go e. filter_in goes k found (all_covered w s there prefix keys k x e h few (cover k x h go e)) go)

  -- ---- a batch

  module _ (keys : List (List ℕ)) (all : AllUnder prefix keys) (cover : OnlyThose w prefix goes s.content keys) where
    abbrev first : List (List ℕ)
    first = take 1000 keys

    abbrev batch : Request
    batch = DeleteObjects w.dest.bucket first

    batch_is : apply_store s.content batch ≡ with_bucket s.content w.dest.bucket (with_objects there.0 (without there.0.objects first))
        s.content.next
    batch_is =
        store_is w s there.0 there.1 batch
        ∙ ap (λ b. with_bucket s.content w.dest.bucket (with_objects there.0 (cond b there.0.objects (without there.0.objects first)))
        s.content.next) (le-ltb MOST_ENTRIES (length first) (taken_few 1000 keys))

    left_at : (k : List ℕ) → at_key w (apply s batch).content k ≡ fin.get (without there.0.objects first) k
    left_at k = ap (λ c. at_key w c k) batch_is ∙ key_after w s there.0 there.1 (with_objects there.0 (without there.0.objects first))
        s.content.next k

    stood_at : (k : List ℕ) (x : Object) → at_key w (apply s batch).content k ≡ Some x → at_key w s.content k ≡ Some x
    stood_at k x e = key_before w s there.0 there.1 k ∙ stood_before there.0.objects first k x (sym (left_at k) ∙ e)

    cover_left : OnlyThose w prefix goes (apply s batch).content (drop 1000 keys)
    cover_left k x h go e = elim (split_in 1000 keys k (cover k x h go (stood_at k x e))) [
      | inl i ↦ absurd (none_some (left_at k ∙ deleted_gone there.0.objects first k i) e)
      | inr i ↦ i
    ]

  -- ---- a page or a batch

  abbrev asked : Sweep → Request
  asked t = sweep_asks w.dest.bucket prefix t

  -- After its answer.
  pub swept_by : (t : Sweep) → SweepsUnder prefix t → EmptiesBy w prefix goes s.content t → (x : Reply) → x ≡ answer s (asked t)
      → EmptiedBy w prefix goes (apply s (asked t)).content (sweep_hears goes t x)
  swept_by (Listing keys) all h x e =
      subst (λ (u : Scene). EmptiedBy w prefix goes u.content (swept goes (walked keys x)))
      (sym (reads_nothing s (page_after w.dest.bucket prefix keys) refl))
      (subst (λ y. EmptiedBy w prefix goes s.content (swept goes y)) (sym (page_is w s there prefix keys x e)) (paged keys all h _ refl))
  swept_by (Deleting q qs) all h x e =
      deletes_on w prefix goes (apply s (asked (Deleting q qs))).content (drop 1000 (q ∷ qs)) (λ k i. all k (dropped_in 1000 (q ∷ qs) k i))
      (cover_left (q ∷ qs) all h)

  -- In the same state, also if its request took effect.
  pub still_by : (t : Sweep) → SweepsUnder prefix t → EmptiesBy w prefix goes s.content t → (o : Outcome)
      → EmptiesBy w prefix goes (effect s (asked t) o).content t
  still_by (Listing keys) all h o = subst (λ (u : Scene). EmptiesBy w prefix goes u.content (Listing keys))
      (sym (reads_same s (page_after w.dest.bucket prefix keys) o refl)) h
  still_by (Deleting q qs) all h o = effect_so (λ u. EmptiesBy w prefix goes u.content (Deleting q qs)) s (asked (Deleting q qs)) o h
      (λ k x b go e. h k x b go (stood_at (q ∷ qs) all h k x e))

-- A sweep of the job's magic directory.
pub sweep_empties : (w : Script) (s : Scene) (there : HasBucket s.content w.dest.bucket) (t : Sweep) → FitsSweep w t → Empties w s.content t
    → (x : Reply) → let r = sweep_asks w.dest.bucket (magic_prefix w.dest.key w.job) t in x ≡ answer s r
    → Emptied w (apply s r).content (sweep_hears all_go t x)
sweep_empties w s there t all h x e = swept_by w s there (magic_prefix w.dest.key w.job) all_go t all h x e

pub sweep_still : (w : Script) (s : Scene) (there : HasBucket s.content w.dest.bucket) (t : Sweep) → FitsSweep w t → Empties w s.content t
    → (o : Outcome) → Empties w (effect s (sweep_asks w.dest.bucket (magic_prefix w.dest.key w.job) t) o).content t
sweep_still w s there t all h o = still_by w s there (magic_prefix w.dest.key w.job) all_go t all h o

-- The same keys are below the directory.
pub sweep_same : (w : Script) (c d : Content) (t : Sweep)
    → ((k : List ℕ) → begins (magic_prefix w.dest.key w.job) k ≡ true → at_key w d k ≡ at_key w c k) → Empties w c t → Empties w d t
sweep_same w c d t h g = grind arith
