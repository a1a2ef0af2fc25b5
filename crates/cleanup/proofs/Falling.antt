-- The bound on the requests that a clean has left falls.
use Rattle.cleanup.specs.Fits.{FitsClean}
use Rattle.cleanup.specs.CleansEnd.{CleansEnd}
use Rattle.cleanup.specs.Left.{after_left, left_at}
use Rattle.job_model.specs.Jobs.{Job}
use Rattle.job_protocol.specs.AtWork.{job_script}
use Rattle.job_protocol.specs.Cleanups.{Aborting, Clean, CleanOver, Naming, Removing, Sweeping, Walking, aborting, clean_asks, clean_hears}
use Rattle.job_protocol.specs.Cleanups.{removing, sweeping, walking}
use Rattle.list_walk.proofs.Counting.{one_most}
use Rattle.list_walk.proofs.Falling.{sweep_laws, upload_laws}
use Rattle.list_walk.proofs.Growing.{growth}
use Rattle.list_walk.specs.WalksEnd.{LessUploads}
use Rattle.list_walk.specs.Left.{adds_key, left_of, one_if, sets_upload, uploads_left}
use Rattle.list_walk.specs.Walks.{More, Walked, Whole, all_go, sweep_asks, sweep_hears, sweep_start, uploads_after, walked_uploads}
use Rattle.s3_types.specs.Answer.{answer, apply}
use Rattle.s3_types.specs.Pages.{begins}
use Rattle.s3_types.specs.Store.{Scene}
use Rattle.s3_types.specs.declared.request.Committer.{Committer}
use Rattle.s3_types.specs.declared.request.Committer.TheVariants.{Magic}
use Rattle.s3_types.specs.declared.request.Request.{Request}
use Rattle.s3_types.specs.declared.request.Request.TheVariants.{AbortUpload, ClusterDelete}
use Rattle.s3_types.specs.declared.request.UploadRef.{UploadRef}
use Rattle.std.proofs.Common.{List, None, Option, Some, ap, arith, false, length, refl, subst, sym, ℕ, ◌++◌, ◌+◌, ◌<◌, ◌≡◌, ◌≤◌}
use Rattle.std.specs.List.{filter}
use Rattle.std.specs.Prelude.{IfSome, codes}
use Rattle.std.specs.FinMap as fin
use Rattle.magic_paths.specs.Layout as layout

-- A fact about the current request.
pub of_some : (P : Request → Type 0) (o : Option Request) (r : Request) → o ≡ Some r → IfSome o P → P r
of_some P o r h g = grind arith

-- ---- after the uploads are aborted

after_keeps : (c : Committer) (j : Job) (s : Scene) (r : Request) → adds_key r ≡ false → (apply s r).files ≡ s.files
    → after_left c j (apply s r) ≤ after_left c j s
after_keeps Magic j s r a f =
    let o = sweep_laws.others j.dest.bucket (layout.magic_prefix j.dest.key j.job) sweep_start s r in
    let z : one_if (adds_key r) ≡ 0 = ap one_if a in
    omega (arith, o, z)
after_keeps _ j s r a f = let e = ap (λ m. length (filter (begins (layout.cluster_prefix j.job)) (fin.keys m))) f in omega (arith, e)

after_rises : (c : Committer) (j : Job) (s : Scene) (r : Request) → after_left c j (apply s r) ≤ after_left c j s + 1
after_rises Magic j s r =
    let o = sweep_laws.others j.dest.bucket (layout.magic_prefix j.dest.key j.job) sweep_start s r in
    let z = one_most (adds_key r) in
    omega (arith, o, z)
after_rises _ j s r = let o = growth.files (layout.cluster_prefix j.job) s r in omega (arith, o)

aborting_left : (j : Job) (us : List UploadRef) (s : Scene) → left_at j (aborting j.committer us) s ≡ length us + after_left j.committer j s
aborting_left j us s = grind arith

removing_left : (j : Job) (ps : List (List ℕ)) (s : Scene) → left_at j (removing ps) s ≡ length ps
removing_left j ps s = grind arith

-- ---- the bound falls

walked_left : (j : Job) (s : Scene) (n : ℕ) (x : Walked UploadRef) → LessUploads j.dest.bucket (j.dest.key ++ codes "/") s n x
    → left_at j (walking j.committer x) s < n + after_left j.committer j s
walked_left j s n (More found) h = omega (arith, h)
walked_left j s n (Whole found) h = let e = aborting_left j found s in omega (arith, h, e)

abbrev Falls : Job → Clean → Scene → Request → Type 0
Falls j c s r = FitsClean c (answer s r) → left_at j (clean_hears (job_script j) c (answer s r)) (apply s r) < left_at j c s

falls_at : (j : Job) (c : Clean) (s : Scene) → IfSome (clean_asks (job_script j) c) (Falls j c s)
falls_at j (Walking found) s = λ h.
    let a = answer s (uploads_after j.dest.bucket (j.dest.key ++ codes "/") found) in
    subst (λ z. left_at j (walking j.committer (walked_uploads found a)) z < left_at j (Walking found) s)
    (sym (upload_laws.still j.dest.bucket (j.dest.key ++ codes "/") found s))
    (walked_left j s (uploads_left j.dest.bucket (j.dest.key ++ codes "/") found s) (walked_uploads found a)
    (upload_laws.falls j.dest.bucket (j.dest.key ++ codes "/") found s h))
falls_at j (Aborting u us) s = λ h.
    let e = aborting_left j us (apply s (AbortUpload j.dest.bucket u.key u.upload)) in
    let k = after_keeps j.committer j s (AbortUpload j.dest.bucket u.key u.upload) refl refl in
    omega (arith, e, k)
falls_at j (Sweeping w) s = λ h.
    let r = sweep_asks j.dest.bucket (layout.magic_prefix j.dest.key j.job) w in
    let f = sweep_laws.falls j.dest.bucket (layout.magic_prefix j.dest.key j.job) all_go w s h in
    let e = elim (sweep_hears all_go w (answer s r)) as (λ o. left_at j (sweeping o) (apply s r) ≡ left_of j.dest.bucket
    (layout.magic_prefix j.dest.key j.job) o (apply s r))
    [ Some v ↦ refl | None ↦ refl ] in
    omega (arith, f, e)
falls_at j Naming s = λ h. let e = removing_left j (filter (begins (layout.cluster_prefix j.job)) (fin.keys s.files)) s in omega (arith, e)
falls_at j (Removing p ps) s = λ h. let e = removing_left j ps (apply s (ClusterDelete p)) in omega (arith, e)
falls_at j (CleanOver end) s = tt

some_left : (j : Job) (c : Clean) (s : Scene) → IfSome (clean_asks (job_script j) c) (λ r. 0 < left_at j c s)
some_left j c s = grind arith

no_rise_at : (j : Job) (c : Clean) (s : Scene) → IfSome (clean_asks (job_script j) c) (λ r. left_at j c (apply s r) ≤ left_at j c s)
no_rise_at j (Walking found) s = let i = ap (left_at j (Walking found)) (upload_laws.still j.dest.bucket (j.dest.key ++ codes "/") found s)
    in omega (arith, i)
no_rise_at j (Aborting u us) s = let k = after_keeps j.committer j s (AbortUpload j.dest.bucket u.key u.upload) refl refl in omega
    (arith, k)
no_rise_at j (Sweeping w) s = sweep_laws.no_rise j.dest.bucket (layout.magic_prefix j.dest.key j.job) w s
no_rise_at j (CleanOver end) s = tt
no_rise_at j _ s = omega arith

others_at : (j : Job) (c : Clean) (s : Scene) (r : Request) → left_at j c (apply s r) ≤ left_at j c s + 3
others_at j (Walking found) s r =
    let u = upload_laws.others j.dest.bucket (j.dest.key ++ codes "/") found s r in
    let a = after_rises j.committer j s r in
    let o = one_most (sets_upload r) in
    omega (arith, u, a, o)
others_at j (Aborting u us) s r = let a = after_rises j.committer j s r in omega (arith, a)
others_at j (Sweeping w) s r =
    let o = sweep_laws.others j.dest.bucket (layout.magic_prefix j.dest.key j.job) w s r in
    let z = one_most (adds_key r) in
    omega (arith, o, z)
others_at j Naming s r = let o = growth.files (layout.cluster_prefix j.job) s r in omega (arith, o)
others_at j _ s r = omega arith

pub cleans_end : CleansEnd
cleans_end = record {
  falls = λ m s r b e h. of_some (Falls m.plan m.operation s) _ r e (falls_at m.plan m.operation s) h;
  falls_worn = λ m s r e. of_some (λ r. 0 < left_at m.plan m.operation s) _ r e (some_left m.plan m.operation s);
  no_rise = λ m s r e. of_some (λ r. left_at m.plan m.operation (apply s r) ≤ left_at m.plan m.operation s) _ r e
      (no_rise_at m.plan m.operation s);
  others = λ m s r. others_at m.plan m.operation s r;
}
