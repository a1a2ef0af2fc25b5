-- The driver's abort or clean of the job keeps the facts with each of its requests, its state fits afterwards, and it changes nothing that
-- readers of the destination see.
use Rattle.text_and_lists.proofs.Members.{in_append, in_filter, some_is}
use Rattle.text_and_lists.specs.Members.{IsIn}
use Rattle.job_invariant.proofs.Aborting.{dropped_in, taken, taken_in}
use Rattle.job_invariant.proofs.Driving.{IsClearing, aborts, batches, clearing_hides, clearing_keeps, reads, removes}
use Rattle.job_invariant.proofs.Going.{Each, each_so, step_by}
use Rattle.job_invariant.proofs.Live.{refs_is}
use Rattle.job_invariant.proofs.Shapes.{more_keys, page_each, page_is}
use Rattle.job_invariant.proofs.Shows.{HidesAll, hidden_shows}
use Rattle.job_invariant.specs.Driver.{AllBelow, AllCluster, AllMagic, FitsClean}
use Rattle.job_invariant.specs.Facts.{Hold}
use Rattle.job_invariant.specs.Told.{Told, driver_entry, tell}
use Rattle.job_model.specs.JobScript.{Script}
use Rattle.job_model.specs.Legal.{IsLegal}
use Rattle.job_protocol.specs.Cleanups.{Aborting, Clean, CleanOver, Naming, Removing, Sweeping, Walking, aborting, clean_after, clean_asks}
use Rattle.job_protocol.specs.Cleanups.{clean_hears, naming, removing, sweeping, walking}
use Rattle.job_protocol.specs.Seen.{Seen, Times, is_begun, see}
use Rattle.job_protocol.specs.Setup.{dest_prefix}
use Rattle.job_protocol.specs.View.{Same, view}
use Rattle.list_walk.specs.Walks.{Deleting, Listing, all_go, deleting, last_ref, swept, walked_by}
use Rattle.magic_paths.specs.Layout.{cluster_prefix, magic_prefix}
use Rattle.retries.specs.Retries.{Retried, step}
use Rattle.s3_types.specs.Answer.{answer}
use Rattle.s3_types.specs.Moment.{IsHonestOutcome, effect}
use Rattle.s3_types.specs.Pages.{begins}
use Rattle.s3_types.specs.Requests.{only_reads}
use Rattle.s3_types.specs.Store.{Uploads}
use Rattle.s3_types.specs.declared.journal.Outcome.{Outcome}
use Rattle.s3_types.specs.declared.reply.Reply.{Reply}
use Rattle.s3_types.specs.declared.request.Committer.{Committer}
use Rattle.s3_types.specs.declared.request.Request.{Request}
use Rattle.s3_types.specs.declared.request.UploadRef.{UploadRef}
use Rattle.std.proofs.Common.{Bool, List, None, Some, ap, arith, drop, false, inl, inr, refl, subst, sym, take, true, ℕ, [], ◌++◌, ◌||◌}
use Rattle.std.proofs.Common.{◌∙◌, ◌∷◌, ◌≡◌}
use Rattle.std.proofs.Math.Bool.{or-true}
use Rattle.std.specs.List.{filter}
use Rattle.std.specs.FinMap as fin
use Rattle.s3_types.specs.Multipart as multipart

-- ---- what is found

filtered : {X : Type 0} (f : X → Bool) (x : X) (xs : List X) → IsIn x (filter f xs) → f x ≡ true
filtered f x xs i = (in_filter f x xs i).1

module _ (w : Script) where
  refs_below : (found : List UploadRef) (m : Uploads) → AllBelow w found
      → AllBelow w (found ++ take 1000 (multipart.listed (dest_prefix w) (last_ref None found) m))
  refs_below found m h u i = elim (in_append u found (take 1000 (multipart.listed (dest_prefix w) (last_ref None found) m)) i) [
    | inl old ↦ h u old
    | inr new ↦ filtered (λ r. begins (dest_prefix w) r.key) u _ (taken 1000 (multipart.listed (dest_prefix w) (last_ref None found) m) u
        new)
  ]

  fits_aborting : (c : Committer) (us : List UploadRef) → AllBelow w us → FitsClean w true (aborting c us)
  fits_aborting c us h = grind arith

  fits_walking : (c : Committer) (more : Bool) (found : List UploadRef) → AllBelow w found
      → FitsClean w true (walking c (walked_by more found))
  fits_walking c more found h = grind arith

  fits_deleting : (keys : List (List ℕ)) → AllMagic w keys → FitsClean w true (sweeping (deleting keys))
  fits_deleting [] h = tt
  fits_deleting (q ∷ qs) h = (refl, h)

  fits_walked : (more : Bool) (keys : List (List ℕ)) → AllMagic w keys → FitsClean w true (sweeping (swept all_go (walked_by more keys)))
  fits_walked true keys h = (refl, h)
  fits_walked false keys h = fits_deleting (filter all_go keys) (λ q i. h q (in_filter all_go q keys i).0)

  fits_removing : (ps : List (List ℕ)) → AllCluster w ps → FitsClean w true (removing ps)
  fits_removing [] h = tt
  fits_removing (p ∷ ps) h = (refl, h)

module _ (w : Script) (minimum : ℕ) (k : Times) (s : Seen) (m : Told) (n : ℕ) (j : IsLegal w) (h : Hold w minimum s m) where
  -- What it sends.
  pub clean_asked : (t : Clean) → FitsClean w m.cleaned t → (r : Request) → clean_asks w t ≡ Some r
      → IsClearing w m.cleaned (Unit {0}) (Unit {0}) r
  clean_asked (Aborting u us) fits r e = subst (IsClearing w m.cleaned (Unit {0}) (Unit {0})) (some_is e)
      (aborts u (λ z. fits.1 u (inl refl)))
  clean_asked (Sweeping (Deleting q qs)) fits r e = subst (IsClearing w m.cleaned (Unit {0}) (Unit {0})) (some_is e)
      (batches (take 1000 (q ∷ qs)) fits.0 (λ z x i. fits.1 x (taken_in 1000 (q ∷ qs) x i)))
  clean_asked (Removing p ps) fits r e = subst (IsClearing w m.cleaned (Unit {0}) (Unit {0})) (some_is e) (removes p fits.0)
  clean_asked (CleanOver end) fits r e = absurd cc
  clean_asked _ fits r e = reads r (ap only_reads (sym (some_is e)))

  -- It keeps the facts.
  pub clean_keeps : (t : Clean) → FitsClean w m.cleaned t → (r : Request) → clean_asks w t ≡ Some r → (o : Outcome)
      → Hold w minimum (see w k s (driver_entry n r o)) (tell w m (driver_entry n r o))
  clean_keeps t fits r e o = clearing_keeps j k s m n r o (clean_asked t fits r e) h

  -- Readers of the destination see no change, since it changes only keys below the magic directory.
  pub clean_hides : (t : Clean) → FitsClean w m.cleaned t → (r : Request) → clean_asks w t ≡ Some r → HidesAll w r
  clean_hides t fits r e = clearing_hides r (clean_asked t fits r e) tt

  pub clean_shows : (t : Clean) → FitsClean w m.cleaned t → (r : Request) → clean_asks w t ≡ Some r → (o : Outcome)
      → Same (view w.dest (effect s.scene r o).content) (view w.dest s.scene.content)
  clean_shows t fits r e o = hidden_shows j s.scene r o h.there (clean_hides t fits r e)

  -- Its state fits afterwards.
  module _ (timely : is_begun m.cleans_at n ≡ true) (retries : ℕ) (spare : ℕ) (repeated : Bool) where
    now : (m.cleaned || is_begun m.cleans_at n) ≡ true
    now = ap (λ b. m.cleaned || b) timely ∙ or-true m.cleaned

    abbrev at : Clean → Retried Clean
    at op = record { operation = op; spare = spare; repeated = repeated }

    -- A state that fits before the clean-up has begun fits after it.
    begun : (op : Clean) → FitsClean w m.cleaned op → FitsClean w true op
    begun op h = grind arith

    heard : (op : Clean) → FitsClean w m.cleaned op
        → Each (λ q. (x : Reply) → x ≡ answer s.scene q → FitsClean w true (clean_hears w op x)) (clean_asks w op)
    heard (Walking found) below = λ x e.
        subst (λ y. FitsClean w true (walking w.committer y)) (sym (refs_is w s.scene h.there found x e))
        (fits_walking w w.committer _ _ (refs_below w found h.there.0.uploads below))
    heard (Aborting u us) fits = λ x y. fits_aborting w w.committer us (λ v i. fits.1 v (inr i))
    heard (Sweeping (Listing keys)) fits = λ x e.
        let p = magic_prefix w.dest.key w.job in
        subst (λ y. FitsClean w true (sweeping (swept all_go y))) (sym (page_is w s.scene h.there p keys x e))
        (fits_walked w _ (more_keys w s.scene h.there p keys) (page_each w s.scene h.there p keys (λ k. begins p k ≡ true) (λ k b. b)
        fits.1))
    heard (Sweeping (Deleting q qs)) fits = λ x y. fits_deleting w (drop 1000 (q ∷ qs)) (λ v i. fits.1 v (dropped_in 1000 (q ∷ qs) v i))
    heard Naming fits = λ x e. subst (λ y. FitsClean w true (naming y)) (sym e)
        (fits_removing w (filter (begins (cluster_prefix w.job)) (fin.keys s.scene.files))
        (λ p i. filtered (begins (cluster_prefix w.job)) p (fin.keys s.scene.files) i))
    heard (Removing p ps) fits = λ x y. fits_removing w ps (λ v i. fits.1 v (inr i))
    heard (CleanOver end) fits = tt

    pub clean_goes : (op : Clean) → FitsClean w m.cleaned op → (r : Request) → clean_asks w op ≡ Some r → (o : Outcome)
        → IsHonestOutcome o (answer s.scene r)
        → FitsClean w (m.cleaned || is_begun m.cleans_at n) (step retries (clean_after w) (at op) o).operation
    clean_goes op fits r e o honest =
        subst (λ b. FitsClean w b (step retries (clean_after w) (at op) o).operation) (sym now)
        (step_by (λ v. FitsClean w true) retries (clean_after w) (at op) (answer s.scene r) o honest
        (each_so (λ q. (x : Reply) → x ≡ answer s.scene q → FitsClean w true (clean_hears w op x)) r e (heard op fits))
        (λ none. begun op fits) (λ none. tt))
