-- A foreign request leaves the job alone; so does one that changes nothing, and one that begins an upload.
use Rattle.text_and_lists.proofs.Members.{false_true}
use Rattle.text_and_lists.specs.Members.{IsIn}
use Rattle.job_invariant.proofs.Keep.{leaves_keep}
use Rattle.job_invariant.specs.Facts.{Facts, Hold}
use Rattle.job_invariant.specs.Foreign.{IsForeign}
use Rattle.job_invariant.specs.Stores.{IsKnown, at_id}
use Rattle.job_invariant.specs.inner.Stores.{Leaves}
use Rattle.job_invariant.specs.Told.{Told, ends, strange_entry, tell, undoes}
use Rattle.job_invariant.specs.inner.Within.{IsWithin}
use Rattle.job_model.specs.Attempts.{Who}
use Rattle.job_model.specs.JobScript.{Script}
use Rattle.job_model.specs.Known.{Drawn, Known}
use Rattle.job_model.specs.Legal.{IsLegal}
use Rattle.job_protocol.specs.JobCommits.{set_request}
use Rattle.job_protocol.specs.Knowledge.{learn}
use Rattle.job_protocol.specs.Scope.{sends_data}
use Rattle.job_protocol.specs.Seen.{Seen, Times, is_publishing, see}
use Rattle.magic_paths.specs.Layout.{cluster_prefix, magic_prefix}
use Rattle.s3_types.specs.Answer.{apply, bucket_of}
use Rattle.s3_types.specs.Pages.{begins}
use Rattle.s3_types.specs.Requests.{only_reads}
use Rattle.s3_types.specs.Store.{Scene, Upload}
use Rattle.s3_types.specs.declared.journal.Outcome.{Outcome}
use Rattle.s3_types.specs.declared.journal.Outcome.TheVariants.{RequestLost, Slow}
use Rattle.s3_types.specs.declared.request.Committer.{Committer}
use Rattle.s3_types.specs.declared.request.Request.{Request}
use Rattle.std.proofs.Common.{Bool, List, None, Option, Some, arith, false, subst, sym, true, ℕ, [], ◌<◌, ◌≡◌}
use Rattle.store_frame.proofs.Framed.{frame}
use Rattle.store_frame.proofs.Reading.{reads_nothing}
use Rattle.store_frame.specs.Frame.{changed_keys, changed_paths, changed_upload}
use Rattle.store_frame.specs.Held.{HasBucket}

-- What is known of the scene before the request.
pub record Stood (w : Script) (drawn : Who → List Drawn) (s : Scene) : Type 0 where
  pub there : HasBucket s.content w.dest.bucket
  pub fresh : (id : ℕ) (x : Upload) → at_id w s.content id ≡ Some x → id < s.content.next
  pub below : (id : ℕ) → IsKnown drawn id → id < s.content.next

pub stood : {w : Script} {minimum : ℕ} {s : Scene} {last : ℕ → Option ℕ} {m : Told} → Facts w minimum s last m → Stood w m.drawn s
stood {s = s} f = record {
  there = f.there;
  fresh = f.ids.fresh;
  below = λ id k. subst (λ n. n < s.content.next) k.3
      (f.ids.below k.0 k.1 k.2);
}

-- A request that changes neither keys nor paths of the job's own, nor uploads that are open, leaves all of these.
pub frame_leaves : (w : Script) (drawn : Who → List Drawn) (ended : ℕ → Bool) (s : Scene) → Stood w drawn s → (r : Request)
    → (bucket_of r ≡ w.dest.bucket → (k : List ℕ) → IsIn k (changed_keys r) → begins (magic_prefix w.dest.key w.job) k ≡ false)
    → ((id : ℕ) → IsKnown drawn id → ended id ≡ false → bucket_of r ≡ w.dest.bucket → changed_upload r ≡ Some id → ⊥)
    → ((p : List ℕ) → IsIn p (changed_paths r) → begins (cluster_prefix w.job) p ≡ false) → Leaves w drawn ended s (apply s r)
frame_leaves w drawn ended s h r keys uploads paths =
    let g = frame s w.dest.bucket r h.there in
    record {
      there = g.there h.there.0 h.there.1;
      least = g.least;
      later = g.later;
      objects = λ k b. g.keys k (λ e i. false_true (keys e k i) b);
      uploads = λ id k free. g.uploads id (uploads id k free) (h.below id k);
      fresh = g.fresh h.fresh;
      files = λ p b. g.files p (λ i. false_true (paths p i) b);
    }

pub foreign_effect : {w : Script} {minimum : ℕ} {last : ℕ → Option ℕ} {m : Told} → IsLegal w → (s : Scene) (r : Request)
    → IsForeign w m.drawn r → Facts w minimum s last m → Facts w minimum (apply s r) last m
foreign_effect {w = w} {m = m} j s r g f = leaves_keep j (frame_leaves w m.drawn m.ended s (stood f) r g.keys
    (λ id k free b c. g.uploads b id c k) g.paths) f

pub foreign_keeps : (w : Script) (minimum : ℕ) (k : Times) (s : Seen) (m : Told) (n : ℕ) (r : Request) (o : Outcome) → IsLegal w
    → IsForeign w m.drawn r
    → Hold w minimum s m → Hold w minimum (see w k s (strange_entry n r o)) (tell w m (strange_entry n r o))
foreign_keeps w minimum k s m n r Slow j g f = f
foreign_keeps w minimum k s m n r RequestLost j g f = f
foreign_keeps w minimum k s m n r _ j g f = foreign_effect j s.scene r g f

-- ---- requests that only read

-- The request names nothing that changes, and teaches nothing.
pub record NamesNothing (r : Request) : Type 0 where
  pub keys : changed_keys r ≡ []
  pub upload : changed_upload r ≡ None
  pub paths : changed_paths r ≡ []
  pub ends_none : (id : ℕ) → ends r id ≡ false
  pub undo : undoes r ≡ false
  pub learns : (w : Script) (a : Who) (k : Known) (o : Outcome) → learn w a k r o ≡ k
  pub publishing : (w : Script) (s : Scene) (t : ℕ) → is_publishing w s t r ≡ false
  pub within : (w : Script) → IsWithin w r
  pub no_data : sends_data r ≡ false

pub reads_name : (r : Request) → only_reads r ≡ true → NamesNothing r
reads_name r h = grind arith

-- So does the read of a set.
pub set_reads : (c : Committer) (w : Script) (t : ℕ) → only_reads (set_request c w t) ≡ true
set_reads c w t = grind arith

-- It keeps the facts.
pub reads_effect : {w : Script} {minimum : ℕ} {last : ℕ → Option ℕ} {m : Told} (s : Scene) (r : Request) → only_reads r ≡ true
    → Facts w minimum s last m → Facts w minimum (apply s r) last m
reads_effect {w = w} {minimum = minimum} {last = last} {m = m} s r h f = subst (λ u. Facts w minimum u last m) (sym (reads_nothing s r h)) f
