-- What a request of an attempt leaves of another's files and records, and of its own.
use Rattle.text_and_lists.proofs.Cuts.{cut_once}
use Rattle.text_and_lists.proofs.Members.{false_true, same_or_other, some_is, true_or_false}
use Rattle.text_and_lists.specs.Members.{IsIn}
use Rattle.job_invariant.proofs.Aborting.{taken_in}
use Rattle.job_invariant.proofs.Legal.{small_attempt, some_dest}
use Rattle.job_invariant.proofs.Owning.{own_directory}
use Rattle.job_invariant.proofs.Shapes.{puts}
use Rattle.job_invariant.proofs.Whose.{who_of}
use Rattle.job_invariant.specs.Facts.{IsAttempt}
use Rattle.job_invariant.specs.Fits.{FitsAbort}
use Rattle.job_invariant.specs.Stores.{at_key}
use Rattle.job_model.specs.Attempts.{Who}
use Rattle.job_model.specs.Files.{File}
use Rattle.job_model.specs.JobScript.{Script}
use Rattle.job_model.specs.Known.{Known}
use Rattle.job_model.specs.Legal.{IsLegal}
use Rattle.job_protocol.specs.Records.{attempt_dir, record_key}
use Rattle.job_protocol.specs.TaskAborts.{Dropping, Sweeping, TaskAbort, TaskAbortOver, task_abort_asks}
use Rattle.job_protocol.specs.TaskCommits.{Publishing, TaskCommit, TaskCommitOver, attempt_prefix, task_commit_asks}
use Rattle.job_protocol.specs.Uploading.{Creating, Sending, Uploading, upload_asks}
use Rattle.job_protocol.specs.Writes.{Write, WriteOver, write_asks}
use Rattle.list_walk.specs.Walks.{Deleting}
use Rattle.magic_paths.proofs.Elements.{decimal_without}
use Rattle.magic_paths.proofs.Tails.{begins_back, begins_behind, below_is}
use Rattle.magic_paths.specs.Layout.{magic_prefix}
use Rattle.s3_types.specs.Answer.{apply, bucket_of}
use Rattle.s3_types.specs.Pages.{begins}
use Rattle.s3_types.specs.Store.{Scene}
use Rattle.s3_types.specs.declared.object.Object.{Object}
use Rattle.s3_types.specs.declared.request.Request.{Request}
use Rattle.s3_types.specs.declared.request.Request.TheVariants.{AbortUpload, DeleteObjects, PutObject}
use Rattle.std.proofs.Common.{List, Option, Some, ap, append_assoc, arith, codes, false, inl, inr, length, length-append, refl, subst, sym}
use Rattle.std.proofs.Common.{take, true, ℕ, [], ◌++◌, ◌∙◌, ◌∷◌, ◌≡◌, ◌≤◌}
use Rattle.std.proofs.lemmas.Fmt.{decimal_injective}
use Rattle.std.proofs.lemmas.List.{append_cancel_left}
use Rattle.std.specs.Fmt.{decimal}
use Rattle.store_frame.proofs.Framed.{frame}
use Rattle.store_frame.specs.Frame.{changed_keys, changed_paths}
use Rattle.store_frame.specs.Held.{HasBucket}
use Rattle.std.specs.FinMap as fin
use Rattle.job_protocol.specs.Writes as writes
use Rattle.job_protocol.specs.TaskCommits as commits

-- ---- the directories of attempts

abbrev inside : ℕ → ℕ → List ℕ → List ℕ
inside t n x = decimal t ++ 95 ∷ (decimal n ++ 47 ∷ (codes "__base/" ++ x))

whole : (w : Script) (a : Who) (x : List ℕ) → attempt_dir w a ++ 47 ∷ x ≡ w.dest.key ++
    (codes "/__magic/job-" ++ (w.job ++ (codes "/tasks/" ++ inside a.task a.attempt x)))
whole w a x = simp append_assoc

-- A key below two attempts' directories is of one attempt.
one_directory : {w : Script} → IsLegal w → (a b : Who) → IsAttempt w a → IsAttempt w b → (x y : List ℕ)
    → attempt_dir w a ++ 47 ∷ x ≡ attempt_dir w b ++ 47 ∷ y → a ≡ b
one_directory {w = w} j a b d e x y same =
    let p = small_attempt j a d in
    let q = small_attempt j b e in
    let behind = append_cancel_left w.dest.key _ _ (sym (whole w a x) ∙ same ∙ whole w b y) in
    let tasks = append_cancel_left (codes "/tasks/") (inside a.task a.attempt x) (inside b.task b.attempt y)
    (append_cancel_left w.job _ _ (append_cancel_left (codes "/__magic/job-") _ _ behind)) in
    let first = cut_once 95 (decimal a.task) (decimal b.task) (decimal a.attempt ++ 47 ∷ (codes "__base/" ++ x))
    (decimal b.attempt ++ 47 ∷ (codes "__base/" ++ y)) (decimal_without 95 a.task refl p.0) (decimal_without 95 b.task refl q.0) tasks
    in
    let second = cut_once 47 (decimal a.attempt) (decimal b.attempt) (codes "__base/" ++ x) (codes "__base/" ++ y)
    (decimal_without 47 a.attempt refl p.1) (decimal_without 47 b.attempt refl q.1) first.back in
    who_of a b (decimal_injective a.task b.task p.0 q.0 first.front) (decimal_injective a.attempt b.attempt p.1 q.1 second.front)

record_is : {w : Script} → IsLegal w → (a : Who) (f : File) → record_key w a f ≡ attempt_dir w a ++ 47 ∷ (f.0 ++ codes ".pending")
record_is {w = w} j a f =
    let some : 1 ≤ length w.dest.key = some_dest j in
    let long : 1 ≤ length (attempt_dir w a) = simp length-append (omega (arith, some)) in
    below_is (attempt_dir w a) (f.0 ++ codes ".pending") long

pub record_own : {w : Script} → IsLegal w → (a : Who) (f : File) → begins (attempt_prefix w a) (record_key w a f) ≡ true
record_own {w = w} j a f = ap (begins (attempt_prefix w a)) (record_is j a f) ∙ begins_behind (attempt_dir w a) (codes "/")
    (47 ∷ (f.0 ++ codes ".pending"))

pub record_below : {w : Script} → IsLegal w → (a : Who) (f : File) → begins (magic_prefix w.dest.key w.job) (record_key w a f) ≡ true
record_below {w = w} j a f = own_directory w a (record_key w a f) (record_own j a f)

-- Another attempt's directory has none of its records.
pub another : {w : Script} → IsLegal w → (a b : Who) → IsAttempt w a → IsAttempt w b → (a ≡ b → ⊥) → (f : File)
    → begins (attempt_prefix w b) (record_key w a f) ≡ false
another {w = w} j a b d e ne f = elim (true_or_false (begins (attempt_prefix w b) (record_key w a f))) [
  | inr out ↦ out
  | inl there ↦
      let r = begins_back (attempt_prefix w b) (record_key w a f) there in
      absurd (ne (one_directory j a b d e (f.0 ++ codes ".pending") r.0 (sym (record_is j a f) ∙ r.1 ∙ append_assoc (attempt_dir w b)
      (codes "/") r.0)))
]

-- ---- keys and paths that stay

abbrev pub HasKey : Script → Scene → List ℕ → Type 0
HasKey w s k = (x : Object) × (at_key w s.content k ≡ Some x)

abbrev pub HasPath : Scene → List ℕ → Type 0
HasPath s p = (b : List ℕ) × (fin.get s.files p ≡ Some b)

module _ (w : Script) (s : Scene) (there : HasBucket s.content w.dest.bucket) where
  abbrev pub Keeps : List ℕ → Request → Type 0
  Keeps k r = HasKey w s k → HasKey w (apply s r) k

  abbrev pub KeepsPath : List ℕ → Request → Type 0
  KeepsPath p r = HasPath s p → HasPath (apply s r) p

  pub key_left : (k : List ℕ) (r : Request) → (bucket_of r ≡ w.dest.bucket → IsIn k (changed_keys r) → ⊥) → Keeps k r
  key_left k r out h = (h.0, (frame s w.dest.bucket r there).keys k out ∙ h.1)

  pub path_left : (p : List ℕ) (r : Request) → (IsIn p (changed_paths r) → ⊥) → KeepsPath p r
  path_left p r out h = (h.0, (frame s w.dest.bucket r there).files p out ∙ h.1)

  key_still : (k : List ℕ) (r : Request) → changed_keys r ≡ [] → Keeps k r
  key_still k r none = key_left k r (λ b i. subst (λ (l : List (List ℕ)). IsIn k l) none i)

  key_put : (k key bytes : List ℕ) (header : Option ℕ) → Keeps k (PutObject w.dest.bucket key bytes header)
  key_put k key bytes header h =
      let g = puts w s there.0 there.1 key bytes header in
      elim (same_or_other k key) [
        | inl is ↦ (_, ap (at_key w (apply s (PutObject w.dest.bucket key bytes header)).content) is ∙ g.here)
        | inr ne ↦ (h.0, g.others k ne ∙ h.1)
      ]

  upload_keys : (k : Known) (f : File) (u : Uploading) (q : List ℕ) → Keeps q (upload_asks w k f u)
  upload_keys k f Creating q = key_left q (upload_asks w k f Creating) (λ b i. i)
  upload_keys k f (Sending p ps) q = key_left q (upload_asks w k f (Sending p ps)) (λ b i. i)

  -- Writes and commits delete no key, and a write deletes no path.
  pub write_keys : (b : Who) (k : Known) (t : Write) (r : Request) → write_asks w b k t ≡ Some r → (q : List ℕ) → Keeps q r
  write_keys b k (writes.Uploads f fs u) r e q = subst (Keeps q) (some_is e) (upload_keys k f u q)
  write_keys b k (WriteOver end) r e q = absurd cc
  write_keys b k _ r e q = subst (Keeps q) (some_is e) (key_put q _ _ _)

  pub write_paths : (b : Who) (k : Known) (t : Write) (r : Request) → write_asks w b k t ≡ Some r → (q : List ℕ) → KeepsPath q r
  write_paths b k t r h q = grind arith

  pub commit_keys : (b : Who) (k : Known) (t : TaskCommit) (r : Request) → task_commit_asks w b k t ≡ Some r → (q : List ℕ) → Keeps q r
  commit_keys b k (Publishing cs) r e q = subst (Keeps q) (some_is e) (key_put q _ _ _)
  commit_keys b k (commits.Uploads f fs u) r e q = subst (Keeps q) (some_is e) (upload_keys k f u q)
  commit_keys b k (TaskCommitOver end) r e q = absurd cc
  commit_keys b k _ r e q = key_still q r (ap changed_keys (sym (some_is e)))

  -- An abort deletes only keys in its own directory.
  pub abort_keys : (b : Who) (k : Known) (t : TaskAbort) → FitsAbort w b k t → (r : Request) → task_abort_asks w b t ≡ Some r → (q : List ℕ)
      → begins (attempt_prefix w b) q ≡ false → Keeps q r
  abort_keys b k (Dropping x xs sent) h r e q out = subst (Keeps q) (some_is e)
      (key_left q (AbortUpload w.dest.bucket x.key x.upload) (λ b i. i))
  abort_keys b k (Sweeping (Deleting p ps)) h r e q out = subst (Keeps q) (some_is e)
      (key_left q (DeleteObjects w.dest.bucket (take 1000 (p ∷ ps))) (λ b i. false_true out (h.1 q (taken_in 1000 (p ∷ ps) q i))))
  abort_keys b k (TaskAbortOver end) h r e q out = absurd cc
  abort_keys b k _ h r e q out = key_still q r (ap changed_keys (sym (some_is e)))
