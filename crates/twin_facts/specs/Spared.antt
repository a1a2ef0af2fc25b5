-- What an abort or clean of a job at a shared destination leaves.
use Rattle.text_and_lists.specs.Members.{IsIn}
use Rattle.job_invariant.specs.Foreign.{IsForeign}
use Rattle.job_invariant.specs.Stores.{at_id, at_key, sets_at}
use Rattle.job_invariant.specs.Told.{strange_entry}
use Rattle.job_model.specs.JobScript.{Script}
use Rattle.job_model.specs.Legal.{IsLegal}
use Rattle.job_protocol.specs.Operations.{Setting, TheSparing}
use Rattle.job_protocol.specs.Scope.{NoClusterFile, NoMagicKey}
use Rattle.job_protocol.specs.Seen.{Times, is_magic, is_staging}
use Rattle.job_protocol.specs.Sparing.{Sparing, SparingOver, record_names, set_names}
use Rattle.protocol_runs.specs.Runs.{BeginClean, Beginning, IsOpening, MayBegin, Runs, Stand, begin, begun_driver, is_set, saw}
use Rattle.magic_paths.specs.Layout.{cluster_prefix, magic_prefix}
use Rattle.magic_paths.specs.Places.{is_record}
use Rattle.retries.specs.Retries.{Retried}
use Rattle.s3_types.specs.Pages.{begins}
use Rattle.s3_types.specs.Store.{Content, Scene}
use Rattle.s3_types.specs.declared.journal.Entry.{Entry}
use Rattle.s3_types.specs.declared.journal.Outcome.{Outcome}
use Rattle.s3_types.specs.declared.object.Object.{Object}
use Rattle.s3_types.specs.declared.request.Actor.TheVariants.{Driver}
use Rattle.s3_types.specs.declared.request.Committer.{Committer}
use Rattle.s3_types.specs.declared.request.Committer.TheVariants.{Magic}
use Rattle.s3_types.specs.declared.request.Request.{Request}
use Rattle.s3_types.specs.declared.request.UploadRef.{UploadRef}
use Rattle.std.specs.Prelude.{List, None, Some, true, ℕ, ◌<◌, ◌≡◌}
use Rattle.twin_facts.specs.Sides.{Sends}
use Rattle.std.specs.FinMap as fin
use Rattle.pending_json.specs.Reading as reading
use Rattle.job_model.specs.declared.ends.CleanEnd.TheVariants as ends

-- A file at a place in the job's directory names the upload: a record of the magic committer, or a set or temporary file of a staging
-- committer.
abbrev pub NamedAt : Committer → Script → Scene → List ℕ → UploadRef → Type 0
NamedAt Magic w s k u = (x : Object) × (begins (magic_prefix w.dest.key w.job) k ≡ true) × (is_record k ≡ true)
    × (at_key w s.content k ≡ Some x) × IsIn u (record_names (reading.pending_of x.bytes))
NamedAt _ w s p u = (bytes : List ℕ) × (begins (cluster_prefix w.job) p ≡ true) × (fin.get s.files p ≡ Some bytes)
    × IsIn u (set_names (reading.set_of bytes))

-- The set of a task, at its own place, names the upload.
abbrev pub NamedBySet : Script → Scene → UploadRef → Type 0
NamedBySet w s u = (t : ℕ) × (t < w.tasks) × (bytes : List ℕ) × (sets_at w s t ≡ Some bytes) × IsIn u (set_names (reading.set_of bytes))

-- No upload lives that was named in the first scene, and nothing exists in the job's directory.
pub record SparingLeaves (w : Script) (first s : Scene) : Type 0 where
  pub uploads : (p : List ℕ) (u : UploadRef) → NamedAt w.committer w first p u → at_id w s.content u.upload ≡ None
  pub sets : (u : UploadRef) → NamedBySet w first u → at_id w s.content u.upload ≡ None
  pub keys : is_magic w.committer ≡ true → NoMagicKey w s.content
  pub files : is_staging w.committer ≡ true → NoClusterFile w s

-- The property holds of every run of one job that shares its destination, among strangers.
abbrev pub InEachShared : ((g : Setting) (k : Times) (opening : Content) (es : List Entry) (x : Stand) → Type 0) → Type 0
InEachShared P = (g : Setting) → IsLegal g.script → g.shared ≡ true → (k : Times) (opening : Content) → IsOpening g opening
    → (es : List Entry) (x : Stand) → Runs g k opening es x → P g k opening es x

-- The run goes on, and of the job only the driver sends, for the abort or clean that it is running.
pub data SparesOn (g : Setting) (k : Times) (x : Stand) : Stand → Type 0 where
  spares_begin : SparesOn g k x x
  it_begins : (u : Stand) (b : Beginning) → SparesOn g k x u → MayBegin g u b → begun_driver g u b ≡ u.driver → SparesOn g k x (begin g u b)
  it_sends : (u z : Stand) (t : Retried Sparing) (e : Entry) → SparesOn g k x u → u.driver ≡ Some (TheSparing t) → e.actor ≡ Driver
      → Sends g k u e z → SparesOn g k x z
  other_sends : (u : Stand) (n : ℕ) (r : Request) (o : Outcome) → SparesOn g k x u → IsForeign g.script u.told.drawn r
      → SparesOn g k x (saw g k u (strange_entry n r o))

-- If an abort or clean ends Done and no attempt of its job has sent since it began, it leaves this, whatever others send.
abbrev pub SparingsLeave : Type 0
SparingsLeave = InEachShared (λ g k opening es x. is_set x.driver ≡ true
    → (u : Stand) → SparesOn g k (begin g x BeginClean) u → (t : Retried Sparing) → u.driver ≡ Some (TheSparing t)
    → t.operation ≡ SparingOver ends.Done → SparingLeaves g.script x.seen.scene u.seen.scene)
