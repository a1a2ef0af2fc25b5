-- The driver's requests keep the facts: those of a commit, and those of an abort or clean of the job.
use Rattle.text_and_lists.proofs.Members.{false_true, nat_true, some_is}
use Rattle.job_invariant.proofs.Foreign.{frame_leaves, stood}
use Rattle.job_invariant.proofs.Going.{effect_by}
use Rattle.job_invariant.proofs.Keep.{Drops, drops_keep, facts_so, leaves_keep, owned_by}
use Rattle.job_invariant.proofs.Shows.{HidesAll}
use Rattle.job_invariant.proofs.Staged.{remove_drops}
use Rattle.job_invariant.proofs.Undone.{deletes_drop}
use Rattle.job_invariant.specs.Driver.{AllMagic}
use Rattle.job_invariant.specs.Facts.{Facts, Hold}
use Rattle.job_invariant.specs.Foreign.{IsDriving}
use Rattle.job_invariant.specs.Told.{Told, at_event, driver_entry, ends, tell, tell_driver}
use Rattle.job_model.specs.JobScript.{Script}
use Rattle.job_model.specs.Legal.{IsLegal}
use Rattle.job_protocol.specs.Seen.{Seen, Times, see}
use Rattle.job_protocol.specs.Setup.{dest_prefix}
use Rattle.s3_types.specs.Answer.{apply}
use Rattle.s3_types.specs.Moment.{effect}
use Rattle.s3_types.specs.Pages.{begins}
use Rattle.s3_types.specs.Requests.{only_reads}
use Rattle.s3_types.specs.Store.{Scene}
use Rattle.s3_types.specs.declared.journal.Outcome.{Outcome}
use Rattle.s3_types.specs.declared.journal.Outcome.TheVariants.{Answered}
use Rattle.s3_types.specs.declared.request.Request.{Request}
use Rattle.s3_types.specs.declared.request.Request.TheVariants.{AbortUpload, ClusterDelete, DeleteObjects}
use Rattle.s3_types.specs.declared.request.UploadRef.{UploadRef}
use Rattle.std.proofs.Common.{Bool, List, Option, ap, arith, sym, true, ℕ, ◌&&◌, ◌∙◌, ◌≡◌}
use Rattle.std.proofs.lemmas.Bool.{or_parts}

-- ---- what a journal says of the driver changes

-- More uploads are ended.
pub told_more : {w : Script} {minimum : ℕ} {s : Scene} {last : ℕ → Option ℕ} {m : Told} (r : Request) (o : Outcome)
    → Facts w minimum s last m → Facts w minimum s last (tell_driver m r o)
told_more {s = s} {m = m} r o f =
    facts_so s s.files f f.ids (λ a d i. let x = f.owned a d i in owned_by x (λ e u. x.held (or_parts (m.ended d.upload) _ e).0 u))
    f.records f.sets f.standing f.temporaries f.kept

-- The driver has begun to clean up.
pub told_at : {w : Script} {minimum : ℕ} {s : Scene} {last : ℕ → Option ℕ} {m : Told} (n : ℕ) → Facts w minimum s last m
    → Facts w minimum s last (at_event n m)
told_at {s = s} {m = m} n f = facts_so s s.files f f.ids f.owned f.records f.sets (λ c. f.standing (or_parts m.cleaned _ c).0) f.temporaries
    f.kept

-- ---- requests of a commit, and reads

module _ {w : Script} {minimum : ℕ} {last : ℕ → Option ℕ} {m : Told} (j : IsLegal w) (s : Scene) (r : Request) (d : IsDriving w r)
    (f : Facts w minimum s last m) where
  -- The request took effect, and ends what it changes.
  pub driving_effect : (o : Outcome) → Facts w minimum (effect s r o) last (tell_driver m r o)
  driving_effect o =
      effect_by (λ v u. Facts w minimum u last (tell_driver m r v)) s r o (λ none. told_more r o f)
      (λ took. leaves_keep j (frame_leaves w m.drawn (tell_driver m r o).ended s (stood f) r d.keys
      (λ id k e b c. false_true (sym (ap (λ t. t && ends r id) took) ∙ (or_parts (m.ended id) _ e).1) (d.uploads id c)) d.paths)
      (told_more r o f))

-- What the journal shows after an entry of the driver.
driver_sees : {w : Script} {minimum : ℕ} (k : Times) (s : Seen) (m : Told) (n : ℕ) (r : Request) (o : Outcome)
    → Facts w minimum (effect s.scene r o) s.last (tell_driver m r o)
    → Hold w minimum (see w k s (driver_entry n r o)) (tell w m (driver_entry n r o))
driver_sees k s m n r (Answered x) f = told_at n f
driver_sees k s m n r _ f = told_at n f

pub driving_keeps : (w : Script) (minimum : ℕ) (k : Times) (s : Seen) (m : Told) (n : ℕ) (r : Request) (o : Outcome) → IsLegal w
    → IsDriving w r → Hold w minimum s m → Hold w minimum (see w k s (driver_entry n r o)) (tell w m (driver_entry n r o))
driving_keeps w minimum k s m n r o j d f = driver_sees k s m n r o (driving_effect j s.scene r d f o)

pub reads_drive : (w : Script) (r : Request) → only_reads r ≡ true → IsDriving w r
reads_drive w r h = grind arith

-- ---- requests of an abort or clean of the job, which deletes once it has begun

-- The request only reads, or aborts an upload that is below the destination if A, or deletes keys that are the job's own if B, or a file of
-- the cluster.
pub data IsClearing (w : Script) (begun : Bool) (A B : Type 0) : Request → Type 0 where
  reads : (r : Request) → only_reads r ≡ true → IsClearing w begun A B r
  aborts : (u : UploadRef) → (A → begins (dest_prefix w) u.key ≡ true) → IsClearing w begun A B (AbortUpload w.dest.bucket u.key u.upload)
  batches : (keys : List (List ℕ)) → begun ≡ true → (B → AllMagic w keys) → IsClearing w begun A B (DeleteObjects w.dest.bucket keys)
  removes : (p : List ℕ) → begun ≡ true → IsClearing w begun A B (ClusterDelete p)

pub clearing_hides : {w : Script} {begun : Bool} {A B : Type 0} (r : Request) → IsClearing w begun A B r → B → HidesAll w r
clearing_hides r h g = grind arith

module _ {w : Script} {minimum : ℕ} {last : ℕ → Option ℕ} {m : Told} (j : IsLegal w) (s : Scene) (f : Facts w minimum s last m) where
  drops_effect : m.cleaned ≡ true → (r : Request) → Drops w s (apply s r) → (o : Outcome)
      → Facts w minimum (effect s r o) last (tell_driver m r o)
  drops_effect begun r d o = effect_by (λ v u. Facts w minimum u last (tell_driver m r v)) s r o (λ none. told_more r o f)
      (λ took. told_more r o (drops_keep d (λ c. absurd (false_true c begun)) f))

  pub clearing_effect : {A B : Type 0} (r : Request) → IsClearing w m.cleaned A B r → (o : Outcome)
      → Facts w minimum (effect s r o) last (tell_driver m r o)
  clearing_effect _ (reads r h) o = driving_effect j s r (reads_drive w r h) f o
  clearing_effect r (aborts u b) o =
      driving_effect j s (AbortUpload w.dest.bucket u.key u.upload) (record
      { keys = λ b q i. absurd i; uploads = λ id z. nat_true id u.upload (sym (some_is z)); paths = λ p i. absurd i }) f o
  clearing_effect r (batches keys begun all) o = drops_effect begun (DeleteObjects w.dest.bucket keys) (deletes_drop w s keys f.there) o
  clearing_effect r (removes p begun) o = drops_effect begun (ClusterDelete p) (remove_drops w s f.there p) o

pub clearing_keeps : {w : Script} {minimum : ℕ} {A B : Type 0} (j : IsLegal w) (k : Times) (s : Seen) (m : Told) (n : ℕ) (r : Request)
    (o : Outcome) → IsClearing w m.cleaned A B r → Hold w minimum s m
    → Hold w minimum (see w k s (driver_entry n r o)) (tell w m (driver_entry n r o))
clearing_keeps j k s m n r o x f = driver_sees k s m n r o (clearing_effect j s.scene f r x o)
