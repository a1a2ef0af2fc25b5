-- The answers to requests for pages, if their bucket exists.
use Rattle.job_invariant.proofs.Shapes.{answer_is}
use Rattle.job_model.specs.JobScript.{Script}
use Rattle.list_walk.proofs.Keys.{page_keys}
use Rattle.list_walk.specs.Fitting.{FitsPage, FitsSweep, FitsUploads}
use Rattle.list_walk.specs.Walks.{Deleting, Listing, Sweep, last_of, page_after, sweep_asks, uploads_after}
use Rattle.s3_types.specs.Answer.{answer}
use Rattle.s3_types.specs.Store.{Scene}
use Rattle.s3_types.specs.declared.request.UploadRef.{UploadRef}
use Rattle.std.proofs.Common.{List, refl, subst, sym, ℕ}
use Rattle.store_frame.specs.Held.{HasBucket}

-- ---- answers

module _ (w : Script) (s : Scene) (there : HasBucket s.content w.dest.bucket) where
  pub page_fits : (p : List ℕ) (keys : List (List ℕ)) → FitsPage (answer s (page_after w.dest.bucket p keys))
  page_fits p keys = subst FitsPage (sym (answer_is w s there.0 there.1 (page_after w.dest.bucket p keys) refl))
      (page_keys 1000 p (last_of keys) there.0.objects)

  pub sweep_fits : (p : List ℕ) (v : Sweep) → FitsSweep v (answer s (sweep_asks w.dest.bucket p v))
  sweep_fits p (Listing keys) = page_fits p keys
  sweep_fits p (Deleting k ks) = tt

  pub uploads_fit : (p : List ℕ) (found : List UploadRef) → FitsUploads (answer s (uploads_after w.dest.bucket p found))
  uploads_fit p found = subst FitsUploads (sym (answer_is w s there.0 there.1 (uploads_after w.dest.bucket p found) refl)) tt
