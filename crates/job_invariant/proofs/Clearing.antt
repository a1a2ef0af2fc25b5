-- The driver's abort or clean leaves nothing of the job, if nobody else sends.
use Rattle.text_and_lists.proofs.Members.{filter_in, in_back, in_front, map_in, none_some, same_or_not, text_exact, text_gone, text_true}
use Rattle.text_and_lists.proofs.Members.{true_or_false}
use Rattle.text_and_lists.specs.Members.{IsIn}
use Rattle.text_and_lists.specs.Order.{text_cmp}
use Rattle.job_invariant.proofs.Emptying.{Emptied, still_there, sweep_begins, sweep_empties, sweep_still}
use Rattle.job_invariant.proofs.Going.{Each, each_so, effect_so, step_by}
use Rattle.job_invariant.proofs.Live.{find_in, page_all, page_covers, refs_is, refs_rest}
use Rattle.job_invariant.proofs.Shapes.{abort_turns, id_before}
use Rattle.job_invariant.proofs.Staged.{removed_stood}
use Rattle.job_invariant.proofs.Undone.{deletes_drop}
use Rattle.job_invariant.specs.Clearing.{Clears, FilesIn, LiveIn, LiveOrBehind, ref_at}
use Rattle.job_invariant.specs.Stores.{at_id}
use Rattle.job_invariant.specs.inner.Stores.{end_left}
use Rattle.job_model.specs.JobScript.{Script}
use Rattle.job_protocol.specs.Cleanups.{Aborting, Clean, CleanOver, Naming, Removing, Sweeping, Walking, aborting, clean_after, clean_asks}
use Rattle.job_protocol.specs.Cleanups.{clean_hears, naming, removing, sweeping, walking}
use Rattle.job_protocol.specs.Scope.{NoneLive, NothingLeft}
use Rattle.job_protocol.specs.Seen.{is_magic, is_staging}
use Rattle.job_protocol.specs.Setup.{dest_prefix}
use Rattle.list_walk.proofs.Uploads.{refs_append}
use Rattle.list_walk.specs.Walks.{Deleting, Listing, Sweep, all_go, last_ref, sweep_asks, sweep_hears, uploads_after, walked_by}
use Rattle.list_walk.specs.Walks.{walked_uploads}
use Rattle.magic_paths.specs.Layout.{cluster_prefix, magic_prefix}
use Rattle.retries.specs.Retries.{Retried, step}
use Rattle.s3_types.specs.Answer.{answer, apply}
use Rattle.s3_types.specs.Moment.{IsHonestOutcome, effect}
use Rattle.s3_types.specs.Pages.{begins}
use Rattle.s3_types.specs.Requests.{only_reads}
use Rattle.s3_types.specs.Store.{Content, Scene, Upload}
use Rattle.s3_types.specs.declared.journal.Outcome.{Outcome}
use Rattle.s3_types.specs.declared.journal.Outcome.TheVariants.{ReplyLost}
use Rattle.s3_types.specs.declared.reply.Reply.{Reply}
use Rattle.s3_types.specs.declared.request.Committer.{Committer}
use Rattle.s3_types.specs.declared.request.Committer.TheVariants.{Magic}
use Rattle.s3_types.specs.declared.request.Request.{Request}
use Rattle.s3_types.specs.declared.request.Request.TheVariants.{AbortUpload, ClusterDelete, ClusterList}
use Rattle.s3_types.specs.declared.request.UploadRef.{UploadRef}
use Rattle.std.proofs.Common.{Bool, List, None, Option, Some, ap, arith, false, inl, inr, length, nat_lt, refl, subst, sym, take, true, ℕ}
use Rattle.std.proofs.Common.{[], ◌++◌, ◌∙◌, ◌∷◌, ◌≡◌}
use Rattle.std.specs.List.{filter}
use Rattle.store_frame.proofs.Reading.{reads_nothing}
use Rattle.store_frame.specs.Held.{HasBucket}
use Rattle.std.specs.FinMap as fin
use Rattle.s3_types.specs.Multipart as multipart

-- ---- its end

nothing_staging : (c : Committer) (w : Script) (s : Scene) → is_staging c ≡ true → NoneLive w s.content → FilesIn w s [] → NothingLeft c w s
nothing_staging Magic w s m none bare = absurd cc
nothing_staging _ w s m none bare = (
  none,
  λ p bytes e. elim (true_or_false (begins (cluster_prefix w.job) p))
      [ inl b ↦ absurd (bare p bytes e b) | inr b ↦ b ],
)

none_in : (w : Script) (c : Content) → LiveIn w c [] → NoneLive w c
none_in w c h id u e = elim (true_or_false (begins (dest_prefix w) u.key)) [ inl b ↦ absurd (h id u e b) | inr b ↦ b ]

module _ (w : Script) (s : Scene) where
  clears_aborting : (c : Committer) → c ≡ w.committer → (us : List UploadRef) → HasBucket s.content w.dest.bucket → LiveIn w s.content us
      → Clears w s (aborting c us)
  clears_aborting c e (u ∷ us) there h = (there, h)
  clears_aborting Magic e [] there h = (ap is_magic (sym e), none_in w s.content h, there, (λ q i. absurd i), sweep_begins w s.content)
  clears_aborting _ e [] there h = (ap is_staging (sym e), none_in w s.content h)

  clears_sweeping : (t : Option Sweep) → is_magic w.committer ≡ true → NoneLive w s.content → HasBucket s.content w.dest.bucket
      → Emptied w s.content t → Clears w s (sweeping t)
  clears_sweeping t h g e f = grind arith

  clears_removing : (ps : List (List ℕ)) → is_staging w.committer ≡ true → NoneLive w s.content → FilesIn w s ps → Clears w s (removing ps)
  clears_removing [] m none h = λ d. nothing_staging w.committer w s m none h
  clears_removing (p ∷ ps) m none h = (m, none, h)

-- ---- its requests

module _ (w : Script) (s : Scene) where
  -- A page of live uploads.
  module _ (there : HasBucket s.content w.dest.bucket) (found : List UploadRef) (cover : LiveOrBehind w s.content found) where
    abbrev rest : List UploadRef
    rest = refs_rest w s there found

    here : (id : ℕ) (u : Upload) → at_id w s.content id ≡ Some u → fin.get there.0.uploads id ≡ Some u
    here id u e = sym (id_before w s there.0 there.1 id) ∙ e

    cover_more : LiveOrBehind w s.content (found ++ take 1000 rest)
    cover_more id u e b = elim (cover id u e b) [
      | inl i ↦ inl (in_front (ref_at id u) found (take 1000 rest) i)
      | inr l ↦ elim (page_covers (dest_prefix w) (last_ref None found) there.0.uploads id u (here id u e) b l 1000) [
        | inl i ↦ inl (in_back (ref_at id u) found (take 1000 rest) i)
        | inr g ↦ inr (ap (λ v. multipart.is_behind v (ref_at id u)) (refs_append None found (take 1000 rest)) ∙ g)
      ]
    ]

    cover_all : nat_lt 1000 (length rest) ≡ false → LiveIn w s.content (found ++ take 1000 rest)
    cover_all few id u e b = elim (cover id u e b) [
      | inl i ↦ in_front (ref_at id u) found (take 1000 rest) i
      | inr l ↦ in_back (ref_at id u) found (take 1000 rest) (page_all (dest_prefix w) (last_ref None found) there.0.uploads id u
          (here id u e) b l 1000 few)
    ]

    paged : (more : Bool) → nat_lt 1000 (length rest) ≡ more → Clears w s (walking w.committer (walked_by more (found ++ take 1000 rest)))
    paged true e = (there, cover_more)
    paged false e = clears_aborting w s w.committer refl (found ++ take 1000 rest) there (cover_all e)

  -- An abort of an upload.
  module _ (there : HasBucket s.content w.dest.bucket) (u : UploadRef) (us : List UploadRef) (live : LiveIn w s.content (u ∷ us)) where
    abbrev abort : Request
    abort = AbortUpload w.dest.bucket u.key u.upload

    left_of : (o : Option Upload) (x : Upload) → end_left u.key o ≡ Some x → (o ≡ Some x) × (x.key ≡ u.key → ⊥)
    left_of o x h = grind (arith, text_true)

    was_live : (id : ℕ) (x : Upload) → at_id w (apply s abort).content id ≡ Some x → (at_id w s.content id ≡ Some x)
        × (id ≡ u.upload → x.key ≡ u.key → ⊥)
    was_live id x h = grind (arith, abort_turns, same_or_not, left_of)

    live_less : LiveIn w (apply s abort).content us
    live_less id x e b =
        let h = was_live id x e in
        elim (live id x h.0 b) [
          | inl is ↦ absurd (h.1 (ap (λ (v : UploadRef). v.upload) is) (ap (λ (v : UploadRef). v.key) is))
          | inr i ↦ i
        ]

  -- Deletions leave uploads as they are.
  sweep_live : (t : Sweep) → HasBucket s.content w.dest.bucket → NoneLive w s.content
      → NoneLive w (apply s (sweep_asks w.dest.bucket (magic_prefix w.dest.key w.job) t)).content
  sweep_live (Listing keys) there none = subst (λ (u : Scene). NoneLive w u.content)
      (sym (reads_nothing s (sweep_asks w.dest.bucket (magic_prefix w.dest.key w.job) (Listing keys)) refl)) none
  sweep_live (Deleting q qs) there none = λ id u e. none id u (sym ((deletes_drop w s (take 1000 (q ∷ qs)) there).uploads id) ∙ e)

  -- A file in the cluster.
  named : (p bytes : List ℕ) → fin.get s.files p ≡ Some bytes → IsIn p (fin.keys s.files)
  named p bytes e = map_in (λ (q : List ℕ × List ℕ). q.0) (p, bytes) (fin.entries s.files)
      (find_in text_cmp text_exact (fin.entries s.files) p bytes (sym (fin.get-entries s.files p) ∙ e))

  -- ---- it goes on

  read_clears : (op : Clean) (q : Request) → only_reads q ≡ true → Clears w s op → Clears w (apply s q) op
  read_clears op q reads h = subst (λ (u : Scene). Clears w u op) (sym (reads_nothing s q reads)) h

  module _ (retries : ℕ) (spare : ℕ) (repeated : Bool) where
    abbrev at : Clean → Retried Clean
    at op = record { operation = op; spare = spare; repeated = repeated }

    heard : (op : Clean) → Clears w s op → Each (λ q. (x : Reply) → x ≡ answer s q → Clears w (apply s q) (clean_hears w op x))
        (clean_asks w op)
    heard (Walking found) h = λ x e.
        read_clears (walking w.committer (walked_uploads found x)) (uploads_after w.dest.bucket (dest_prefix w) found) refl
        (subst (λ y. Clears w s (walking w.committer y)) (sym (refs_is w s h.0 found x e)) (paged h.0 found h.1 _ refl))
    heard (Aborting u us) h = λ x e.
        let q = AbortUpload w.dest.bucket u.key u.upload in
        clears_aborting w (apply s q) w.committer refl us (still_there w s q ReplyLost h.0) (live_less h.0 u us h.1)
    heard (Sweeping t) h = λ x e.
        let q = sweep_asks w.dest.bucket (magic_prefix w.dest.key w.job) t in
        clears_sweeping w (apply s q) (sweep_hears all_go t x) h.0 (sweep_live t h.2 h.1) (still_there w s q ReplyLost h.2)
        (sweep_empties w s h.2 t h.3 h.4 x e)
    heard Naming h = λ x e.
        read_clears (naming x) (ClusterList (cluster_prefix w.job)) refl (subst (λ y. Clears w s (naming y)) (sym e)
        (clears_removing w s (filter (begins (cluster_prefix w.job)) (fin.keys s.files)) h.0 h.1
        (λ p bytes g b. filter_in (begins (cluster_prefix w.job)) p (fin.keys s.files) (named p bytes g) b)))
    heard (Removing p ps) h = λ x e.
        clears_removing w (apply s (ClusterDelete p)) ps h.0 h.1
        (λ q bytes y b. elim (h.2 q bytes (removed_stood s.files p q bytes y) b)
        [ inl is ↦ absurd (none_some (text_gone s.files p q is) y) | inr i ↦ i ])
    heard (CleanOver end) h = tt

    still : (op : Clean) → Clears w s op → Each (λ q. Clears w (apply s q) op) (clean_asks w op)
    still (Walking found) h = read_clears (Walking found) (uploads_after w.dest.bucket (dest_prefix w) found) refl h
    still (Aborting u us) h = (
      still_there w s (AbortUpload w.dest.bucket u.key u.upload) ReplyLost h.0,
      λ id x e b. h.1 id x
          (was_live h.0 u us h.1 id x e).0 b,
    )
    still (Sweeping t) h = (
      h.0,
      sweep_live t h.2 h.1,
      still_there w s (sweep_asks w.dest.bucket (magic_prefix w.dest.key w.job) t)
          ReplyLost h.2,
      h.3,
      sweep_still w s h.2 t h.3 h.4 ReplyLost,
    )
    still Naming h = read_clears Naming (ClusterList (cluster_prefix w.job)) refl h
    still (Removing p ps) h = (h.0, h.1, λ q bytes e b. h.2 q bytes (removed_stood s.files p q bytes e) b)
    still (CleanOver end) h = tt

    pub clean_clears : (op : Clean) → Clears w s op → (r : Request) → clean_asks w op ≡ Some r → (o : Outcome)
        → IsHonestOutcome o (answer s r)
        → Clears w (effect s r o) (step retries (clean_after w) (at op) o).operation
    clean_clears op h r e o honest =
        step_by (λ v. Clears w (effect s r v)) retries (clean_after w) (at op) (answer s r) o honest
        (each_so (λ q. (x : Reply) → x ≡ answer s q → Clears w (apply s q) (clean_hears w op x)) r e (heard op h))
        (λ none. effect_so (λ u. Clears w u op) s r o h (each_so (λ q. Clears w (apply s q) op) r e (still op h))) (λ none d. absurd cc)
