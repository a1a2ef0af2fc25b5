-- An attempt names only what is its own, and takes nothing back once it has sent its publishing request.
use Rattle.text_and_lists.proofs.Members.{none_some, some_is}
use Rattle.text_and_lists.specs.Members.{IsIn}
use Rattle.job_invariant.proofs.Aborting.{taken_in}
use Rattle.job_invariant.proofs.Foreign.{reads_name}
use Rattle.job_invariant.proofs.Placed.{own_magic, path_below, set_magic}
use Rattle.job_invariant.proofs.Sent.{abort_keeps, create_keeps, delete_keeps, other_put_keeps, part_keeps, read_keeps, record_keeps}
use Rattle.job_invariant.proofs.Sent.{remove_keeps, rename_keeps, set_keeps, stage_keeps}
use Rattle.job_invariant.proofs.Shows.{begins_front}
use Rattle.job_invariant.proofs.Uploads.{asks_part, begun_written, drop_more, latest_in}
use Rattle.job_invariant.specs.Facts.{AreCommits, Hold, IsAttempt, IsWritten}
use Rattle.job_invariant.specs.Fits.{AllOwn, Fits, FitsAbort, FitsCommit, FitsUpload, FitsWrite, IsOpen}
use Rattle.job_invariant.specs.Foreign.{IsOwn}
use Rattle.job_invariant.specs.Told.{Told, entry, known, tell, undoes}
use Rattle.job_model.specs.Attempts.{Who}
use Rattle.job_model.specs.Files.{File}
use Rattle.job_model.specs.JobScript.{Script}
use Rattle.job_model.specs.Known.{Drawn}
use Rattle.job_model.specs.Legal.{IsLegal}
use Rattle.job_protocol.specs.Knowledge.{first_drawn}
use Rattle.job_protocol.specs.Operations.{Operation, Setting, TheTaskAbort, asks}
use Rattle.job_protocol.specs.Outputs.{files}
use Rattle.job_protocol.specs.Records.{file_key, marker_key, record_key, record_text, set_text}
use Rattle.job_protocol.specs.Seen.{Seen, Times, is_magic, is_staging, see}
use Rattle.job_protocol.specs.TaskAborts.{Dropping, Removing, Sweeping, TaskAbort, TaskAbortOver, task_abort_asks}
use Rattle.job_protocol.specs.TaskCommits.{Publishing, Renaming, Storing, TaskCommit, TaskCommitOver, attempt_prefix, task_commit_asks}
use Rattle.job_protocol.specs.TaskCommits.{temporary_path}
use Rattle.job_protocol.specs.Uploading.{Creating, Sending, Uploading, file_parts, upload_asks}
use Rattle.job_protocol.specs.Writes.{Marking, Recording, Write, WriteOver, write_asks}
use Rattle.list_walk.specs.Walks.{Deleting}
use Rattle.magic_paths.specs.Layout.{cluster_prefix, magic_prefix, set_key, staged_set_path}
use Rattle.magic_paths.specs.Places.{MarkerPlace, RecordPlace, StagedSetPlace, TemporaryPlace}
use Rattle.s3_types.specs.Answer.{answer}
use Rattle.s3_types.specs.Moment.{IsHonestOutcome}
use Rattle.s3_types.specs.Pages.{begins}
use Rattle.s3_types.specs.Requests.{only_reads}
use Rattle.s3_types.specs.declared.journal.Outcome.{Outcome}
use Rattle.s3_types.specs.declared.request.Request.{Request}
use Rattle.s3_types.specs.declared.request.Request.TheVariants.{AbortUpload, ClusterDelete, ClusterPut, ClusterRename, CreateUpload}
use Rattle.s3_types.specs.declared.request.Request.TheVariants.{DeleteObjects, PutObject, UploadPart}
use Rattle.std.proofs.Common.{Bool, List, None, Option, Some, ap, append_assoc, arith, codes, false, inl, inr, length, refl, slice_get}
use Rattle.std.proofs.Common.{subst, sym, take, true, ℕ, [], ◌++◌, ◌+◌, ◌∙◌, ◌∷◌, ◌≡◌, ◌⊎◌}
use Rattle.std.specs.Fmt.{decimal}
use Rattle.store_frame.specs.Frame.{changed_keys, changed_paths, changed_upload}
use Rattle.job_protocol.specs.Writes as writes
use Rattle.job_protocol.specs.TaskCommits as commits

-- ---- what an attempt's operations ask for

-- A request of an attempt, with what it knows then; `back` says whether it may take something back.
pub data Asked (w : Script) (minimum : ℕ) (a : Who) (m : Told) (back : Bool) : Request → Type 0 where
  reads : (r : Request) → only_reads r ≡ true → Asked w minimum a m back r
  creates : (f : File) → IsOpen (known m a) → IsIn f (files w a) → ((d : Drawn) → IsIn d (m.drawn a) → d.key ≡ file_key w f → ⊥)
      → Asked w minimum a m back (CreateUpload w.dest.bucket (file_key w f))
  sends : (f : File) (x : Drawn) (bytes : List ℕ) → IsOpen (known m a) → IsIn f (files w a) → IsIn x (m.drawn a) → x.key ≡ file_key w f
      → slice_get (file_parts w minimum f) (length x.tags) ≡ Some bytes
      → Asked w minimum a m back (UploadPart w.dest.bucket (file_key w f) x.upload (length x.tags + 1) bytes)
  marks : (f : File) → is_magic w.committer ≡ true → IsIn f (files w a)
      → Asked w minimum a m back (PutObject w.dest.bucket (marker_key w a f) [] (Some (length f.1)))
  records : (f : File) → is_magic w.committer ≡ true → IsIn f (files w a) → (x : IsWritten w minimum (m.drawn a) f)
      → Asked w minimum a m back (PutObject w.dest.bucket (record_key w a f) (record_text w a f x.drawn) None)
  publishes : (cs : List File) → is_magic w.committer ≡ true → m.undone a ≡ false → AreCommits w minimum (m.drawn a) a cs
      → Asked w minimum a m back (PutObject w.dest.bucket (set_key w.dest.key w.job a.task) (set_text w a cs (known m a)) None)
  stores : is_staging w.committer ≡ true → AreCommits w minimum (m.drawn a) a (files w a)
      → Asked w minimum a m back (ClusterPut (temporary_path w a) (set_text w a (files w a) (known m a)))
  renames : is_staging w.committer ≡ true → m.undone a ≡ false
      → Asked w minimum a m back (ClusterRename (temporary_path w a) (staged_set_path w.job a.task))
  drops : (x : Drawn) → back ≡ true → m.publish_sent a ≡ false → IsIn x (m.drawn a)
      → Asked w minimum a m back (AbortUpload w.dest.bucket x.key x.upload)
  sweeps : (keys : List (List ℕ)) → back ≡ true → m.publish_sent a ≡ false → AllOwn w a keys
      → Asked w minimum a m back (DeleteObjects w.dest.bucket keys)
  removes : back ≡ true → m.publish_sent a ≡ false → Asked w minimum a m back (ClusterDelete (temporary_path w a))

module _ (w : Script) (minimum : ℕ) (a : Who) (m : Told) where
  upload_asked : {back : Bool} (f : File) (fs : List File) (u : Uploading) → IsOpen (known m a) → FitsUpload w minimum a (known m a) f fs u
      → Asked w minimum a m back (upload_asks w (known m a) f u)
  upload_asked f fs Creating free t = creates f free (t.each f (inl refl)) (t.unknown f (inl refl))
  upload_asked {back} f fs (Sending p ps) free b =
      subst (Asked w minimum a m back) (sym (asks_part w minimum a b))
      (sends f b.latest p free (b.each f (inl refl)) (latest_in w minimum a b) b.key
      (drop_more w minimum a (file_parts w minimum f) (length b.latest.tags) p ps b.left).2)

  pub write_asked : (t : Write) → FitsWrite w minimum a (known m a) t → (r : Request) → write_asks w a (known m a) t ≡ Some r
      → Asked w minimum a m false r
  write_asked (writes.Uploads f fs u) fits r e = subst (Asked w minimum a m false) (some_is e) (upload_asked f fs u fits.1 fits.2)
  write_asked (Marking f fs) fits r e = subst (Asked w minimum a m false) (some_is e) (marks f fits.0 (fits.2.each f (inl refl)))
  write_asked (Recording f fs) fits r e =
      let b = fits.2 in
      let same = ap (λ x. PutObject w.dest.bucket (record_key w a f) (record_text w a f x) None) (sym (ap first_drawn b.is)) in
      subst (Asked w minimum a m false) (same ∙ some_is e) (records f fits.0 (b.each f (inl refl))
      (begun_written w minimum a (m.drawn a) f fs b))
  write_asked (WriteOver end) fits r e = absurd cc

  pub commit_asked : m.undone a ≡ false → (t : TaskCommit) → FitsCommit w minimum a (known m a) t → (r : Request)
      → task_commit_asks w a (known m a) t ≡ Some r → Asked w minimum a m false r
  commit_asked clean (Publishing cs) fits r e = subst (Asked w minimum a m false) (some_is e) (publishes cs fits.0 clean fits.1)
  commit_asked clean (commits.Uploads f fs u) fits r e = subst (Asked w minimum a m false) (some_is e) (upload_asked f fs u fits.1 fits.2)
  commit_asked clean Storing fits r e = subst (Asked w minimum a m false) (some_is e) (stores fits.0 fits.1)
  commit_asked clean Renaming fits r e = subst (Asked w minimum a m false) (some_is e) (renames fits.0 clean)
  commit_asked clean (TaskCommitOver end) fits r e = absurd cc
  commit_asked clean _ fits r e = reads r (ap only_reads (sym (some_is e)))

  pub abort_asked : (t : TaskAbort) → FitsAbort w a (known m a) t → (r : Request) → task_abort_asks w a t ≡ Some r
      → Asked w minimum a m true r
  abort_asked (Dropping x xs sent) fits r e = subst (Asked w minimum a m true) (some_is e) (drops x refl fits.0 (fits.1 x (inl refl)))
  abort_asked (Sweeping (Deleting q qs)) fits r e = subst (Asked w minimum a m true) (some_is e)
      (sweeps (take 1000 (q ∷ qs)) refl fits.0 (λ x i. fits.1 x (taken_in 1000 (q ∷ qs) x i)))
  abort_asked Removing fits r e = subst (Asked w minimum a m true) (some_is e) (removes refl fits)
  abort_asked (TaskAbortOver end) fits r e = absurd cc
  abort_asked _ fits r e = reads r (ap only_reads (sym (some_is e)))

-- Whether the operation takes something back.
abbrev pub takes_back : Operation → Bool
takes_back (TheTaskAbort t) = true
takes_back _ = false

pub operation_asked : (g : Setting) (m : Told) (a : Who) (op : Operation) → Fits g.script g.minimum a m op → (r : Request)
    → asks g a (known m a) op ≡ Some r → Asked g.script g.minimum a m (takes_back op) r
operation_asked g m a op h r e = grind (arith, write_asked, commit_asked, abort_asked)

-- The request takes nothing back, unless it may; and no request does once the publishing request is sent.
pub asked_adds : {w : Script} {minimum : ℕ} {a : Who} {m : Told} {back : Bool} (r : Request) → Asked w minimum a m back r → (back ≡ false)
    ⊎ (m.publish_sent a ≡ true) → undoes r ≡ false
asked_adds r h g = grind arith

-- It keeps the facts.
pub asked_keeps : {w : Script} {minimum : ℕ} {back : Bool} (j : IsLegal w) (k : Times) (s : Seen) (m : Told) (a : Who) (n : ℕ)
    → IsAttempt w a → Hold w minimum s m → (r : Request) → Asked w minimum a m back r → (o : Outcome) → IsHonestOutcome o (answer s.scene r)
    → Hold w minimum (see w k s (entry a n r o)) (tell w m (entry a n r o))
asked_keeps {w = w} {minimum = minimum} j k s m a n d h _ (reads r only) = read_keeps w minimum k s m a n h r only
asked_keeps {w = w} {minimum = minimum} j k s m a n d h _ (creates f free i fresh) = create_keeps w minimum k s m a n h j f i free fresh
asked_keeps {w = w} {minimum = minimum} j k s m a n d h _ (sends f x bytes free i x_in key block) = part_keeps w minimum k s m a n h j f x
    bytes i free x_in key block
asked_keeps {w = w} {minimum = minimum} j k s m a n d h _ (marks f magic i) =
    other_put_keeps w minimum k s m a n h j magic (MarkerPlace a.task a.attempt f.0) [] (Some (length f.1)) (f, i, refl) d.task
    (λ t e. absurd cc) (λ b g k e. absurd cc)
asked_keeps {w = w} {minimum = minimum} j k s m a n d h _ (records f magic i x) = record_keeps w minimum k s m a n h j d magic f i x
asked_keeps {w = w} {minimum = minimum} j k s m a n d h _ (publishes cs magic clean are) = set_keeps w minimum k s m a n h j magic d clean
    cs are
asked_keeps {w = w} {minimum = minimum} j k s m a n d h _ (stores staging are) = stage_keeps w minimum k s m a n h j staging d are
asked_keeps {w = w} {minimum = minimum} j k s m a n d h _ (renames staging clean) = rename_keeps w minimum k s m a n h j staging d clean
asked_keeps {w = w} {minimum = minimum} j k s m a n d h _ (drops x b unsent i) = abort_keeps w minimum k s m a n h j x i unsent
asked_keeps {w = w} {minimum = minimum} j k s m a n d h _ (sweeps keys b unsent own) = delete_keeps w minimum k s m a n h keys own unsent
asked_keeps {w = w} {minimum = minimum} j k s m a n d h _ (removes b unsent) = remove_keeps w minimum k s m a n h j d unsent

-- It changes no path but those of its temporary file and of its task's set.
pub asked_path : {w : Script} {minimum : ℕ} {a : Who} {m : Told} {back : Bool} (r : Request) → Asked w minimum a m back r → (p : List ℕ)
    → IsIn p (changed_paths r) → (p ≡ temporary_path w a) ⊎ (p ≡ staged_set_path w.job a.task)
asked_path r h p g = grind arith

-- ---- names only what is its own

module _ {w : Script} (ds : List Drawn) where
  -- The request changes paths of the job's own, and nothing else that has a name.
  names_paths : (r : Request) → changed_keys r ≡ [] → changed_upload r ≡ None
      → ((p : List ℕ) → IsIn p (changed_paths r) → begins (cluster_prefix w.job) p ≡ true) → IsOwn w ds r
  names_paths r h g e = grind arith

  -- The request changes an upload that the attempt knows.
  names_upload : (r : Request) (d : Drawn) → IsIn d ds → changed_keys r ≡ [] → changed_upload r ≡ Some d.upload → changed_paths r ≡ []
      → IsOwn w ds r
  names_upload r d h g e f = grind arith

  -- The request puts a key of the job's own.
  names_key : (key bytes : List ℕ) (header : Option ℕ) → begins (magic_prefix w.dest.key w.job) key ≡ true
      → IsOwn w ds (PutObject w.dest.bucket key bytes header)
  names_key key bytes header h = grind arith

-- An attempt's directory is below the job's magic directory.
pub own_directory : (w : Script) (a : Who) (q : List ℕ) → begins (attempt_prefix w a) q ≡ true
    → begins (magic_prefix w.dest.key w.job) q ≡ true
own_directory w a q h =
    let rest = codes "tasks/" ++ (decimal a.task ++ (codes "_" ++ (decimal a.attempt ++ codes "/__base"))) in
    begins_front (magic_prefix w.dest.key w.job) (rest ++ codes "/") q (ap (λ p. begins p q) (sym (split rest)) ∙ h)
  where
    split : (rest : List ℕ) → (w.dest.key ++ (codes "/__magic/job-" ++ (w.job ++ 47 ∷ rest))) ++ codes "/" ≡ magic_prefix w.dest.key w.job
        ++ (rest ++ codes "/")
    split rest =
        append_assoc w.dest.key (codes "/__magic/job-" ++ (w.job ++ 47 ∷ rest)) (codes "/")
        ∙ ap (λ l. w.dest.key ++ (codes "/__magic/job-" ++ l)) (append_assoc w.job (47 ∷ rest) (codes "/") ∙ sym
        (append_assoc w.job (codes "/") (rest ++ codes "/")))
        ∙ sym (append_assoc w.dest.key (codes "/__magic/job-" ++ (w.job ++ codes "/")) (rest ++ codes "/"))

pub asked_own : {w : Script} {minimum : ℕ} {back : Bool} (j : IsLegal w) (a : Who) (d : IsAttempt w a) (m : Told) (r : Request)
    → Asked w minimum a m back r → IsOwn w (m.drawn a) r
asked_own j a d m _ (reads r h) = let x = reads_name r h in names_paths (m.drawn a) r x.keys x.upload
    (λ p i. absurd (subst (λ (l : List (List ℕ)). IsIn p l) x.paths i))
asked_own j a d m _ (creates f free i fresh) = names_paths (m.drawn a) _ refl refl (λ p k. absurd k)
asked_own j a d m _ (sends f x bytes free i x_in key block) = names_upload (m.drawn a) _ x x_in refl refl refl
asked_own j a d m _ (marks f magic i) = names_key (m.drawn a) _ _ _ (own_magic j magic (MarkerPlace a.task a.attempt f.0) (f, i, refl))
asked_own j a d m _ (records f magic i x) = names_key (m.drawn a) _ _ _ (own_magic j magic (RecordPlace a.task a.attempt f.0) (f, i, refl))
asked_own j a d m _ (publishes cs magic clean are) = names_key (m.drawn a) _ _ _ (set_magic j a.task d.task)
asked_own {w = w} j a d m _ (stores staging are) = names_paths (m.drawn a) _ refl refl
    (λ p i. elim i [
      | inl is ↦ ap (begins (cluster_prefix w.job)) is ∙ path_below w (TemporaryPlace a.task a.attempt)
      | inr none ↦ absurd none
    ])
asked_own {w = w} j a d m _ (renames staging clean) = names_paths (m.drawn a) _ refl refl (λ p i. elim i [
  | inl is ↦ ap (begins (cluster_prefix w.job)) is ∙ path_below w (TemporaryPlace a.task a.attempt)
  | inr more ↦ elim more [ inl is ↦ ap (begins (cluster_prefix w.job)) is ∙ path_below w (StagedSetPlace a.task) | inr none ↦ absurd none ]
])
asked_own j a d m _ (drops x b unsent i) = names_upload (m.drawn a) _ x i refl refl refl
asked_own {w = w} j a d m _ (sweeps keys b unsent own) = record {
  bucket = λ k i. refl;
  keys = λ k i. own_directory w a k (own k i);
  uploads = λ id z. absurd (none_some refl z);
  paths = λ p i. absurd i;
}
asked_own {w = w} j a d m _ (removes b unsent) = names_paths (m.drawn a) _ refl refl
    (λ p i. elim i [
      | inl is ↦ ap (begins (cluster_prefix w.job)) is ∙ path_below w (TemporaryPlace a.task a.attempt)
      | inr none ↦ absurd none
    ])

module _ (g : Setting) (j : IsLegal g.script) (m : Told) (a : Who) (d : IsAttempt g.script a) where
  pub operation_own : (op : Operation) → Fits g.script g.minimum a m op → (r : Request) → asks g a (known m a) op ≡ Some r
      → IsOwn g.script (m.drawn a) r
  operation_own op h r e = asked_own j a d m r (operation_asked g m a op h r e)

  pub operation_adds : (op : Operation) → Fits g.script g.minimum a m op → (r : Request) → asks g a (known m a) op ≡ Some r
      → m.publish_sent a ≡ true → undoes r ≡ false
  operation_adds op h r e sent = asked_adds r (operation_asked g m a op h r e) (inr sent)
