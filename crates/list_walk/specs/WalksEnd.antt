-- Laws on how much walks and sweeps have left.
use Rattle.list_walk.specs.Fitting.{FitsPage, FitsSweep, FitsUploads}
use Rattle.list_walk.specs.Left.{adds_key, files_left, keys_left, left_of, one_if, refs_left, sets_upload, sweep_left, uploads_left}
use Rattle.list_walk.specs.Left.{walk_left}
use Rattle.list_walk.specs.Walks.{More, Sweep, Walked, Whole, page_after, sweep_asks, sweep_hears, uploads_after, walked, walked_uploads}
use Rattle.s3_types.specs.Answer.{answer, apply}
use Rattle.s3_types.specs.Store.{Scene}
use Rattle.s3_types.specs.declared.request.Request.{Request}
use Rattle.s3_types.specs.declared.request.UploadRef.{UploadRef}
use Rattle.std.specs.Prelude.{Bool, List, Option, length, ℕ, ◌*◌, ◌+◌, ◌<◌, ◌≡◌, ◌≤◌}

-- One request adds at most one key, one live upload and one cluster file.
pub record Growth : Type 0 where
  pub keys : (b p after : List ℕ) (s : Scene) (r : Request) → keys_left b p after (apply s r) ≤ keys_left b p after s + one_if (adds_key r)
  pub refs : (b p : List ℕ) (after : Option UploadRef) (s : Scene) (r : Request)
      → refs_left b p after (apply s r) ≤ refs_left b p after s + one_if (sets_upload r)
  pub files : (p : List ℕ) (s : Scene) (r : Request) → files_left p (apply s r) ≤ files_left p s + 1

-- A walk over keys that goes on has less left than n.
abbrev pub LessWalk : List ℕ → List ℕ → Scene → ℕ → Walked (List ℕ) → Type 0
LessWalk b p s n (More keys) = walk_left b p keys s < n
LessWalk b p s n (Whole keys) = Unit {0}

-- A walk over keys changes nothing, and has less left after each answer.
pub record WalkLaws : Type 0 where
  pub still : (b p : List ℕ) (keys : List (List ℕ)) (s : Scene) → apply s (page_after b p keys) ≡ s
  pub falls : (b p : List ℕ) (keys : List (List ℕ)) (s : Scene) → FitsPage (answer s (page_after b p keys))
      → LessWalk b p s (walk_left b p keys s) (walked keys (answer s (page_after b p keys)))
  -- A request raises that by at most 1, and only if it may add a key.
  pub others : (b p : List ℕ) (keys : List (List ℕ)) (s : Scene) (r : Request)
      → walk_left b p keys (apply s r) ≤ walk_left b p keys s + one_if (adds_key r)

-- A sweep has less left after each answer.
pub record SweepLaws : Type 0 where
  -- It falls with the answer that the store gives.
  pub falls : (b p : List ℕ) (goes : List ℕ → Bool) (w : Sweep) (s : Scene) → FitsSweep w (answer s (sweep_asks b p w))
      → left_of b p (sweep_hears goes w (answer s (sweep_asks b p w))) (apply s (sweep_asks b p w)) < sweep_left b p w s
  pub some : (b p : List ℕ) (w : Sweep) (s : Scene) → 0 < sweep_left b p w s
  -- It does not rise by an effect of its own.
  pub no_rise : (b p : List ℕ) (w : Sweep) (s : Scene) → sweep_left b p w (apply s (sweep_asks b p w)) ≤ sweep_left b p w s
  -- A request raises it by at most 1, and only if it may add a key.
  pub others : (b p : List ℕ) (w : Sweep) (s : Scene) (r : Request)
      → sweep_left b p w (apply s r) ≤ sweep_left b p w s + one_if (adds_key r)

-- A walk over uploads that goes on has less left than n; one that is whole found fewer than n.
abbrev pub LessUploads : List ℕ → List ℕ → Scene → ℕ → Walked UploadRef → Type 0
LessUploads b p s n (More found) = uploads_left b p found s < n
LessUploads b p s n (Whole found) = length found < n

-- A walk over live uploads changes nothing, and has less left after each answer.
pub record UploadLaws : Type 0 where
  pub still : (b p : List ℕ) (found : List UploadRef) (s : Scene) → apply s (uploads_after b p found) ≡ s
  pub falls : (b p : List ℕ) (found : List UploadRef) (s : Scene) → FitsUploads (answer s (uploads_after b p found))
      → LessUploads b p s (uploads_left b p found s) (walked_uploads found (answer s (uploads_after b p found)))
  -- A request raises that by at most 2, and only if it sets an upload.
  pub others : (b p : List ℕ) (found : List UploadRef) (s : Scene) (r : Request)
      → uploads_left b p found (apply s r) ≤ uploads_left b p found s + 2 * one_if (sets_upload r)
