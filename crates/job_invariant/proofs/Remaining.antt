-- What an attempt has written stays, whatever others send, until the driver cleans up; so its operation goes on.
use Rattle.text_and_lists.proofs.Members.{false_true, in_map, nat_true, some_is, text_here, text_true, true_or_false}
use Rattle.text_and_lists.specs.Members.{IsIn}
use Rattle.text_and_lists.specs.Order.{text_eq}
use Rattle.job_invariant.proofs.Apart.{HasKey, HasPath, abort_keys, another, commit_keys, key_left, path_left, record_below, record_own}
use Rattle.job_invariant.proofs.Apart.{write_keys, write_paths}
use Rattle.job_invariant.proofs.Emptying.{magic_some}
use Rattle.job_invariant.proofs.Going.{effect_so}
use Rattle.job_invariant.proofs.Ordered.{order_each}
use Rattle.job_invariant.proofs.Owning.{asked_path, operation_asked}
use Rattle.job_invariant.proofs.Placed.{not_staged, one_temporary, path_below}
use Rattle.job_invariant.proofs.Replies.{part_taken}
use Rattle.job_invariant.proofs.Shapes.{all_covered, answer_is, key_before, more_keys, page_is, puts, still_covered}
use Rattle.job_invariant.proofs.Uploads.{asks_part, drop_more, latest_in}
use Rattle.job_invariant.specs.Facts.{Hold, IsAttempt, IsSet}
use Rattle.job_invariant.specs.Fits.{Fits, FitsCommit, FitsUpload, FitsWrite, IsOpen}
use Rattle.job_invariant.specs.Foreign.{IsDriving, IsForeign}
use Rattle.job_invariant.specs.Standing.{Closed, CommitStands, CommitStandsBy, HasPublished, HasRecord, HasRecords, HasTemporary, Listed}
use Rattle.job_invariant.specs.Standing.{Stands, WriteStands}
use Rattle.job_invariant.specs.Stores.{sets_at}
use Rattle.job_invariant.specs.Told.{Told, driver_entry, entry, known, strange_entry}
use Rattle.job_model.specs.Attempts.{Who}
use Rattle.job_model.specs.Files.{File}
use Rattle.job_model.specs.JobScript.{Script}
use Rattle.job_model.specs.Known.{Drawn}
use Rattle.job_model.specs.Legal.{IsLegal}
use Rattle.job_protocol.specs.Knowledge.{is_set_key}
use Rattle.job_protocol.specs.Operations.{Operation, Setting, TheCheck, TheTaskAbort, TheTaskCommit, TheWrite, asks, tells}
use Rattle.job_protocol.specs.Outputs.{files}
use Rattle.job_protocol.specs.Records.{record_key}
use Rattle.job_protocol.specs.Seen.{Seen, Times, is_magic, is_publishing, is_staging, see}
use Rattle.job_protocol.specs.TaskCommits.{Checking, Looking, Publishing, Reading, Renaming, Storing, TaskCommit, TaskCommitOver}
use Rattle.job_protocol.specs.TaskCommits.{attempt_prefix, checked, checking, in_order, least_missing, least_of, looked, looked_at}
use Rattle.job_protocol.specs.TaskCommits.{read_record, reading, renamed, task_commit_after, task_commit_asks, task_commit_hears}
use Rattle.job_protocol.specs.TaskCommits.{task_commit_over, task_commit_start, task_commit_start_by, temporary_path, to_check}
use Rattle.job_protocol.specs.Uploading.{Creating, IsGone, Sending, Uploaded, Uploading, created, file_parts, sending, sent_part}
use Rattle.job_protocol.specs.Uploading.{upload_asks, upload_hears}
use Rattle.job_protocol.specs.Writes.{Marking, Recording, Write, WriteOver, write_after, write_asks, write_hears, write_over, write_start}
use Rattle.job_protocol.specs.Writes.{writing}
use Rattle.list_walk.specs.Walks.{walked, walked_by}
use Rattle.magic_paths.specs.Layout.{cluster_prefix, magic_prefix, set_key}
use Rattle.magic_paths.specs.Places.{TemporaryPlace}
use Rattle.retries.specs.Retries.{Got, Item, Retried, WornOut, step}
use Rattle.s3_types.specs.Answer.{answer, apply, bucket_of, found}
use Rattle.s3_types.specs.Moment.{IsHonestOutcome, effect, is_effective}
use Rattle.s3_types.specs.Pages.{begins}
use Rattle.s3_types.specs.Tags.{plain_tag}
use Rattle.s3_types.specs.declared.journal.Outcome.{Outcome}
use Rattle.s3_types.specs.declared.journal.Outcome.TheVariants.{Answered, ReplyLost, RequestLost, Slow}
use Rattle.s3_types.specs.declared.reply.Reply.{Reply}
use Rattle.s3_types.specs.declared.reply.Reply.TheVariants.{Part}
use Rattle.s3_types.specs.declared.request.Committer.{Committer}
use Rattle.s3_types.specs.declared.request.Committer.TheVariants.{Magic}
use Rattle.s3_types.specs.declared.request.Request.{Request}
use Rattle.s3_types.specs.declared.request.Request.TheVariants.{GetObject, UploadPart}
use Rattle.std.proofs.Common.{Bool, List, None, Option, Some, ap, arith, cond, false, inl, inr, length, map, nat_eq, refl, subst, sym, true}
use Rattle.std.proofs.Common.{ℕ, [], ◌&&◌, ◌+◌, ◌||◌, ◌∙◌, ◌∷◌, ◌≡◌}
use Rattle.std.proofs.Math.Bool.{or-true}
use Rattle.std.proofs.lemmas.Bool.{false≢true}
use Rattle.std.specs.List.{list_any}
use Rattle.store_frame.specs.Frame.{changed_keys, changed_paths}
use Rattle.store_frame.specs.Held.{HasBucket}
use Rattle.job_model.specs.declared.ends.TaskEnd.TheVariants as tasks
use Rattle.job_protocol.specs.Writes as writes
use Rattle.job_protocol.specs.TaskCommits as commits

-- ---- what it has written stays from one state to another

pub record Stood (w : Script) (a : Who) (s t : Seen) : Type 0 where
  pub records : (f : File) → IsIn f (files w a) → HasRecord w s a f → HasRecord w t a f
  pub temporary : HasTemporary w s a → HasTemporary w t a
  pub last : (n : ℕ) → HasPublished s n → HasPublished t n

module _ {w : Script} {a : Who} {s t : Seen} (h : Stood w a s t) where
  records_kept : (left : List File) → HasRecords w s a left → HasRecords w t a left
  records_kept left g f i = elim (g f i) [ inl l ↦ inl l | inr x ↦ inr (h.records f i x) ]

  pub write_kept : (op : Write) → WriteStands w s a op → WriteStands w t a op
  write_kept (writes.Uploads f fs u) g = records_kept (f ∷ fs) g
  write_kept (Marking f fs) g = records_kept (f ∷ fs) g
  write_kept (Recording f fs) g = records_kept (f ∷ fs) g
  write_kept (WriteOver end) g = (g.0, λ e m. records_kept [] (g.1 e m))

  pub commit_kept_by : {P Q : Type 0} → (P → Q) → (b : Bool) (op : TaskCommit) → CommitStandsBy P w s a b op → CommitStandsBy Q w t a b op
  commit_kept_by keeps b (Looking keys) g = (records_kept [] g.0, g.1)
  commit_kept_by keeps b (Reading cs f fs) g = (records_kept [] g.0, g.1)
  commit_kept_by keeps b Renaming g = elim g [ inl x ↦ inl (h.temporary x) | inr x ↦ inr (x.0, keeps x.1) ]
  commit_kept_by keeps b (TaskCommitOver end) g = (g.0, λ e. keeps (g.1 e))
  commit_kept_by keeps b _ g = tt

  pub stands_kept : (op : Operation) → Stands w s a op → Stands w t a op
  stands_kept (TheWrite x) g = write_kept x.operation g
  stands_kept (TheTaskCommit x) g = commit_kept_by (h.last a.task) x.repeated x.operation g
  stands_kept _ g = tt

all_stand : (w : Script) (s : Seen) (a : Who) → HasRecords w s a [] → (f : File) → IsIn f (files w a) → HasRecord w s a f
all_stand w s a h f i = elim (h f i) [ inl none ↦ absurd none | inr x ↦ x ]

-- ---- entries of others

some_last : (b : Bool) (v : ℕ) (o : Option ℕ) → (n : ℕ) × (o ≡ Some n) → (n : ℕ) × (cond b (Some v) o ≡ Some n)
some_last true v o h = (v, refl)
some_last false v o h = h

-- An entry of an attempt, whose effect leaves these.
stood_by : (w : Script) (k : Times) (s : Seen) (a b : Who) (n : ℕ) (r : Request)
    → ((f : File) → IsIn f (files w a) → HasKey w s.scene (record_key w a f) → HasKey w (apply s.scene r) (record_key w a f))
    → (HasPath s.scene (temporary_path w a) → HasPath (apply s.scene r) (temporary_path w a)) → (o : Outcome)
    → Stood w a s (see w k s (entry b n r o))
stood_by w k s a b n r keys path Slow = record { records = λ f i h. h; temporary = λ h. h; last = λ t h. h }
stood_by w k s a b n r keys path RequestLost = record { records = λ f i h. h; temporary = λ h. h; last = λ t h. h }
stood_by w k s a b n r keys path _ = record {
  records = keys;
  temporary = path;
  last = λ t h. some_last
      (nat_eq t b.task && is_publishing w s.scene b.task r) b.attempt (s.last t) h;
}

pub other_stood : (g : Setting) → IsLegal g.script → (k : Times) (s : Seen) (m : Told) (a b : Who) (n : ℕ)
    → HasBucket s.scene.content g.script.dest.bucket → IsAttempt g.script a → IsAttempt g.script b → (a ≡ b → ⊥)
    → (op : Operation) → Fits g.script g.minimum b m op → (r : Request) → asks g b (known m b) op ≡ Some r → (o : Outcome)
    → Stood g.script a s (see g.script k s (entry b n r o))
other_stood g j k s m a b n there d e ne op h r x o =
    stood_by g.script k s a b n r (keys op h x)
    (path_left g.script s.scene there (temporary_path g.script a) r (λ i. elim (asked_path r (operation_asked g m b op h r x) _ i)
    [ inl is ↦ ne (one_temporary j a b d e is) | inr is ↦ not_staged j a b.task d e.task is ])) o
  where
    keys : (op : Operation) → Fits g.script g.minimum b m op → asks g b (known m b) op ≡ Some r → (f : File) → IsIn f (files g.script a)
        → HasKey g.script s.scene (record_key g.script a f) → HasKey g.script (apply s.scene r) (record_key g.script a f)
    keys (TheWrite t) h x f i = write_keys g.script s.scene there b (known m b) t.operation r x (record_key g.script a f)
    keys (TheTaskCommit t) h x f i = commit_keys g.script s.scene there b (known m b) t.operation r x (record_key g.script a f)
    keys (TheTaskAbort t) h x f i = abort_keys g.script s.scene there b (known m b) t.operation h r x (record_key g.script a f)
        (another j a b d e ne f)
    keys _ h x f i = absurd h

module _ (w : Script) (j : IsLegal w) (k : Times) (s : Seen) (a : Who) (n : ℕ) (there : HasBucket s.scene.content w.dest.bucket)
    (r : Request) where
  -- The entry changes nothing in the job's own directories.
  module _ (t : Seen) (last : (i : ℕ) → HasPublished s i → HasPublished t i) (keys : bucket_of r ≡ w.dest.bucket → (q : List ℕ) → IsIn q
      (changed_keys r) → begins (magic_prefix w.dest.key w.job) q ≡ false)
      (paths : (p : List ℕ) → IsIn p (changed_paths r) → begins (cluster_prefix w.job) p ≡ false) (o : Outcome)
      (scene : t.scene ≡ effect s.scene r o) where
    apart_stood : Stood w a s t
    apart_stood = record {
      records = λ f i h. subst (λ u. HasKey w u (record_key w a f)) (sym scene)
          (effect_so (λ u. HasKey w u (record_key w a f)) s.scene r o h (key_left w s.scene there (record_key w a f) r
          (λ b x. false_true (keys b (record_key w a f) x) (record_below j a f)) h));
      temporary = λ h. subst (λ u. HasPath u (temporary_path w a)) (sym scene)
          (effect_so (λ u. HasPath u (temporary_path w a)) s.scene r o h (path_left w s.scene there (temporary_path w a) r
          (λ x. false_true (paths (temporary_path w a) x) (path_below w (TemporaryPlace a.task a.attempt))) h));
      last = last;
    }

  pub driver_stood : IsDriving w r → (o : Outcome) → Stood w a s (see w k s (driver_entry n r o))
  driver_stood d Slow = apart_stood (see w k s (driver_entry n r Slow)) (λ i h. h) d.keys d.paths Slow refl
  driver_stood d RequestLost = apart_stood (see w k s (driver_entry n r RequestLost)) (λ i h. h) d.keys d.paths RequestLost refl
  driver_stood d o = apart_stood (see w k s (driver_entry n r o)) (λ i h. h) d.keys d.paths o refl

  pub strange_stood : (drawn : Who → List Drawn) → IsForeign w drawn r → (o : Outcome) → Stood w a s (see w k s (strange_entry n r o))
  strange_stood drawn d o = apart_stood (see w k s (strange_entry n r o)) (λ i h. h) d.keys d.paths o refl

-- ---- a step under retries, by whether a send of the request was lost

step_stands : {M : Type 0} (P : Outcome → Bool → M → Type 0) (retries : ℕ) (after : M → Item → M) (t : Retried M) (y : Reply) (o : Outcome)
    → IsHonestOutcome o y → ((x : Reply) → x ≡ y → P (Answered x) false (after t.operation (Got x t.repeated)))
    → P Slow t.repeated t.operation → P RequestLost true t.operation → P ReplyLost true t.operation
    → ((v : Outcome) → P v false (after t.operation WornOut)) → P o (step retries after t o).repeated (step retries after t o).operation
step_stands P retries after t y o h g e f p q = grind arith

-- ---- uploads are not gone

abbrev StillThere : Uploaded → Type 0
StillThere IsGone = ⊥
StillThere _ = Unit {0}

created_there : (w : Script) (minimum : ℕ) (f : File) (x : Reply) → StillThere (created w minimum f x)
created_there w minimum f x = grind arith

module _ (w : Script) (minimum : ℕ) (s : Seen) (m : Told) (a : Who) (j : IsLegal w) (facts : Hold w minimum s m) (closed : Closed m)
    (before : m.cleaned ≡ false) (clean : m.undone a ≡ false) where
  -- The driver has not ended an upload of an attempt that may learn of more.
  not_ended : m.publish_sent a ≡ false → (d : Drawn) → IsIn d (m.drawn a) → m.ended d.upload ≡ false
  not_ended unsent d i = elim (true_or_false (m.ended d.upload)) [
    | inr out ↦ out
    | inl ended ↦
        let c = closed before d.upload ended in
        let same = facts.ids.apart a c.0 d c.1 i c.2 (sym c.3) in
        absurd (false_true unsent (ap m.publish_sent same.0 ∙ c.4))
  ]

  upload_there : IsOpen (known m a) → (f : File) (fs : List File) (u : Uploading) → FitsUpload w minimum a (known m a) f fs u → (x : Reply)
      → x ≡ answer s.scene (upload_asks w (known m a) f u) → StillThere (upload_hears w minimum f u x)
  upload_there free f fs Creating t x honest = created_there w minimum f x
  upload_there free f fs (Sending p ps) b x honest =
      let block = drop_more w minimum a (file_parts w minimum f) (length b.latest.tags) p ps b.left in
      let i = latest_in w minimum a b in
      let taken = part_taken j facts a b.latest f p i (b.each f (inl refl)) b.key (not_ended free.0 b.latest i) clean block.2 in
      let P : Request → Type 0 = λ q. x ≡ answer s.scene q → x ≡ Part (plain_tag p) in
      let is : x ≡ Part (plain_tag p) = subst P (sym (asks_part w minimum a b))
      (λ e. e ∙ subst (λ key. answer s.scene (UploadPart w.dest.bucket key b.latest.upload (length b.latest.tags + 1) p) ≡ Part
      (plain_tag p)) b.key taken) honest in
      subst (λ y. StillThere (sent_part ps y)) (sym is) (elim ps as (λ qs. StillThere (sending qs)) [ [] ↦ tt | q ∷ qs ↦ tt ])

-- ---- the first states

writing_stands : (w : Script) (s : Seen) (a : Who) (fs : List File) → HasRecords w s a fs → WriteStands w s a (writing fs)
writing_stands w s a [] h = (tt, λ e m. h)
writing_stands w s a (f ∷ fs) h = h

pub write_begins : (w : Script) (s : Seen) (a : Who) → WriteStands w s a (write_start w a)
write_begins w s a = grind arith

checking_stands : (P : Type 0) (w : Script) (s : Seen) (a : Who) (ds : List (List ℕ)) → CommitStandsBy P w s a false (checking w a ds)
checking_stands P w s a ds = grind arith

pub commit_begins : (P : Type 0) (w : Script) → IsLegal w → (s : Seen) (a : Who) → WriteStands w s a (WriteOver tasks.Done)
    → CommitStandsBy P w s a false (task_commit_start w a)
commit_begins P w j s a h = by w.committer refl
  where
    by : (c : Committer) → w.committer ≡ c → CommitStandsBy P w s a false (task_commit_start_by c w a)
    by Magic e = (h.1 refl (ap is_magic e), λ f i. inr (magic_some w.dest.key _ (record_key w a f) (record_below j a f)))
    by _ e = checking_stands P w s a (to_check w a)

-- ---- listings

there_any : (k : List ℕ) (ks : List (List ℕ)) → IsIn k ks → list_any (text_eq k) ks ≡ true
there_any k [] i = absurd i
there_any k (q ∷ ks) (inl e) = ap (λ b. b || list_any (text_eq k) ks) (text_true k q e)
there_any k (q ∷ ks) (inr i) = ap (λ b. text_eq k q || b) (there_any k ks i) ∙ or-true (text_eq k q)

none_is_missing : (ks all : List (List ℕ)) → ((k : List ℕ) → IsIn k all → IsIn k ks) → least_missing ks all ≡ None
none_is_missing ks [] h = refl
none_is_missing ks (k ∷ all) h =
    ap (λ b. cond b (least_missing ks all) (Some (least_of (least_missing ks all) k))) (there_any k ks (h k (inl refl))) ∙ none_is_missing
    ks all (λ q i. h q (inr i))

reading_stands : (P : Type 0) (w : Script) (s : Seen) (a : Who) (cs fs : List File) → HasRecords w s a []
    → ((g : File) → IsIn g fs → IsIn g (files w a)) → CommitStandsBy P w s a false (reading cs fs)
reading_stands P w s a cs fs h g = grind arith

module _ (w : Script) (s : Seen) (a : Who) where
  written_stands : (f : File) (fs : List File) (u : Uploaded) → StillThere u → HasRecords w s a (f ∷ fs)
      → WriteStands w s a (writes.uploaded w f fs u)
  written_stands f fs u h g = grind arith

module _ (P : Type 0) (w : Script) (s : Seen) (a : Who) where
  looked_stands : (keys : List (List ℕ)) → HasRecords w s a [] → (more : Bool) → Listed w a keys
      → (more ≡ false → (f : File) → IsIn f (files w a) → IsIn (record_key w a f) keys)
      → CommitStandsBy P w s a false (looked w a (walked_by more keys))
  looked_stands keys h true l all = (h, l)
  looked_stands keys h false l all =
      let none : least_missing keys (map (record_key w a) (files w a)) ≡ None = none_is_missing keys (map (record_key w a) (files w a))
      (λ k i. let o = in_map (record_key w a) k (files w a) i in subst (λ q. IsIn q keys) (sym o.2) (all refl o.0 o.1)) in
      subst (λ o. CommitStandsBy P w s a false (looked_at o (in_order w a keys))) (sym none)
      (reading_stands P w s a (in_order w a keys) (in_order w a keys) h (λ g i. (order_each w a keys g i).0))

  checked_stands : (d : List ℕ) (ds : List (List ℕ)) (x : Reply) → CommitStandsBy P w s a false (checked w a d ds x)
  checked_stands d ds x = grind arith

  uploaded_stands : (f : File) (fs : List File) (u : Uploaded) → StillThere u → CommitStandsBy P w s a false (commits.uploaded w f fs u)
  uploaded_stands f fs u h = grind arith

renamed_done : (w : Script) (a : Who) (x : Reply) (b : Bool) → b ≡ true → renamed w a x b ≡ TaskCommitOver tasks.Done
renamed_done w a x b h = grind arith

-- ---- its own requests

module _ (w : Script) (minimum : ℕ) (k : Times) (s : Seen) (m : Told) (a : Who) (n : ℕ) (j : IsLegal w) (facts : Hold w minimum s m)
    (closed : Closed m) (before : m.cleaned ≡ false) (clean : m.undone a ≡ false) (retries spare : ℕ) (repeated : Bool) where
  abbrev now : Request → Outcome → Seen
  now r o = see w k s (entry a n r o)

  -- ---- a write

  abbrev at_write : Write → Retried Write
  at_write op = record { operation = op; spare = spare; repeated = repeated }

  write_by : (op : Write) (r : Request) → write_asks w a (known m a) op ≡ Some r → (o : Outcome) → IsHonestOutcome o (answer s.scene r)
      → WriteStands w s a op
      → ((x : Reply) → x ≡ answer s.scene r → WriteStands w (now r (Answered x)) a op
      → WriteStands w (now r (Answered x)) a (write_hears w minimum op x))
      → WriteStands w (now r o) a (step retries (write_after w minimum) (at_write op) o).operation
  write_by op r e o honest h heard =
      let kept : (v : Outcome) → WriteStands w (now r v) a op = λ v. write_kept
      (stood_by w k s a a n r (λ f i. write_keys w s.scene facts.there a (known m a) op r e (record_key w a f))
      (write_paths w s.scene facts.there a (known m a) op r e (temporary_path w a)) v) op h in
      step_stands (λ v b. WriteStands w (now r v) a) retries (write_after w minimum) (at_write op) (answer s.scene r) o honest
      (λ x due. heard x due (kept (Answered x))) (kept Slow) (kept RequestLost) (kept ReplyLost) (λ v. (tt, λ y. absurd cc))

  pub write_stands : (op : Write) → FitsWrite w minimum a (known m a) op → WriteStands w s a op → (r : Request)
      → write_asks w a (known m a) op ≡ Some r → (o : Outcome) → IsHonestOutcome o (answer s.scene r)
      → WriteStands w (now r o) a (step retries (write_after w minimum) (at_write op) o).operation
  write_stands (writes.Uploads f fs u) fits h r e o honest =
      write_by (writes.Uploads f fs u) r e o honest h
      (λ x due g. written_stands w (now r (Answered x)) a f fs (upload_hears w minimum f u x)
      (upload_there w minimum s m a j facts closed before clean fits.1 f fs u fits.2 x (due ∙ ap (answer s.scene) (sym (some_is e)))) g)
  write_stands (Marking f fs) fits h r e o honest = write_by (Marking f fs) r e o honest h (λ x due g. g)
  write_stands (Recording f fs) fits h r e o honest =
      write_by (Recording f fs) r e o honest h
      (λ x due g. writing_stands w (now r (Answered x)) a fs (λ f' i. elim (g f' i) [
        | inl more ↦ elim more [
          | inl is ↦ inr (subst (λ v. HasKey w (apply s.scene r) (record_key w a v)) (sym is) put_here)
          | inr later ↦ inl later
        ]
        | inr stands ↦ inr stands
      ]))
    where
      put_here : HasKey w (apply s.scene r) (record_key w a f)
      put_here = subst (λ q. HasKey w (apply s.scene q) (record_key w a f)) (some_is e)
          (_, (puts w s.scene facts.there.0 facts.there.1 (record_key w a f) _ None).here)
  write_stands (WriteOver end) fits h r e o honest = absurd cc

  -- ---- a commit

  abbrev at_commit : TaskCommit → Retried TaskCommit
  at_commit op = record { operation = op; spare = spare; repeated = repeated }

  records_now : (op : TaskCommit) (r : Request) → task_commit_asks w a (known m a) op ≡ Some r → (o : Outcome) → HasRecords w s a []
      → HasRecords w (now r o) a []
  records_now op r e Slow h = h
  records_now op r e RequestLost h = h
  records_now op r e _ h = λ f i. inr (commit_keys w s.scene facts.there a (known m a) op r e (record_key w a f) (all_stand w s a h f i))

  module _ (P : Type 0) (Q : Request → Outcome → Type 0) (keeps : (r : Request) (v : Outcome) → P → Q r v)
      (published : (r : Request) → is_publishing w s.scene a.task r ≡ true → (v : Outcome) → is_effective v ≡ true → Q r v) where
    -- All requests but the rename.
    commit_by : (op : TaskCommit) (r : Request) (o : Outcome) → IsHonestOutcome o (answer s.scene r)
        → ((b : Bool) (v : Outcome) → CommitStandsBy (Q r (v)) w (now r v) a b op)
        → ((x : Reply) → x ≡ answer s.scene r → CommitStandsBy (Q r (Answered x)) w (now r (Answered x)) a false
        (task_commit_hears w minimum a op x repeated))
        → let t = step retries (task_commit_after w minimum a) (at_commit op) o in CommitStandsBy (Q r (o)) w (now r o) a t.repeated
        t.operation
    commit_by op r o honest kept heard =
        step_stands (λ v b c. CommitStandsBy (Q r v) w (now r v) a b c) retries (task_commit_after w minimum a) (at_commit op)
        (answer s.scene r) o honest
        heard (kept repeated Slow) (kept true RequestLost) (kept true ReplyLost) (λ v. (tt, λ y. absurd cc))

    -- A page of its directory.
    looks : (keys : List (List ℕ)) → CommitStandsBy P w s a repeated (Looking keys) → (r : Request)
        → task_commit_asks w a (known m a) (Looking keys) ≡ Some r → (x : Reply) → x ≡ answer s.scene r
        → CommitStandsBy (Q r (Answered x)) w (now r (Answered x)) a false (looked w a (walked keys x))
    looks keys h r e x due =
        let p = attempt_prefix w a in
        let there = facts.there in
        let stands = all_stand w s a h.0 in
        let more : Listed w a (more_keys w s.scene there p keys) = λ f i. still_covered w s.scene there p keys (record_key w a f)
        (stands f i).0 (stands f i).1 (record_own j a f) (h.1 f i) in
        let t : Seen = now r (Answered x) in
        subst (λ y. CommitStandsBy (Q r (Answered x)) w t a false (looked w a y))
        (sym (page_is w s.scene there p keys x (due ∙ ap (answer s.scene) (sym (some_is e)))))
        (looked_stands (Q r (Answered x)) w t a (more_keys w s.scene there p keys) (records_now (Looking keys) r e (Answered x) h.0) _ more
        (λ few f i. all_covered w s.scene there p keys (record_key w a f) (stands f i).0 (stands f i).1 (record_own j a f) few (h.1 f i)))

    -- A record that is read.
    reads : (cs : List File) (f : File) (fs : List File) → CommitStandsBy P w s a repeated (Reading cs f fs) → (r : Request)
        → task_commit_asks w a (known m a) (Reading cs f fs) ≡ Some r → (x : Reply) → x ≡ answer s.scene r
        → CommitStandsBy (Q r (Answered x)) w (now r (Answered x)) a false (read_record w a cs f fs x)
    reads cs f fs h r e x due =
        let y = all_stand w s a h.0 f (h.1 f (inl refl)) in
        let there = facts.there in
        let q = GetObject w.dest.bucket (record_key w a f) in
        let is : x ≡ found (Some y.0) = due ∙ ap (answer s.scene) (sym (some_is e)) ∙ answer_is w s.scene there.0 there.1 q refl ∙ ap found
        (sym (key_before w s.scene there.0 there.1 (record_key w a f)) ∙ y.1) in
        let t : Seen = now r (Answered x) in
        subst (λ v. CommitStandsBy (Q r (Answered x)) w t a false (read_record w a cs f fs v)) (sym is)
        (reading_stands (Q r (Answered x)) w t a cs fs (records_now (Reading cs f fs) r e (Answered x) h.0) (λ g i. h.1 g (inr i)))

    -- The rename.
    rename_stands : is_staging w.committer ≡ true → CommitStandsBy P w s a repeated Renaming → (r : Request)
        → task_commit_asks w a (known m a) Renaming ≡ Some r → (o : Outcome) → IsHonestOutcome o (answer s.scene r)
        → let t = step retries (task_commit_after w minimum a) (at_commit Renaming) o in CommitStandsBy (Q r (o)) w (now r o) a t.repeated
        t.operation
    rename_stands h g r e o f = grind (arith, text_true, step_stands, renamed_done)

    pub commit_stands : (op : TaskCommit) → FitsCommit w minimum a (known m a) op → CommitStandsBy P w s a repeated op → (r : Request)
        → task_commit_asks w a (known m a) op ≡ Some r → (o : Outcome) → IsHonestOutcome o (answer s.scene r)
        → let t = step retries (task_commit_after w minimum a) (at_commit op) o in CommitStandsBy (Q r (o)) w (now r o) a t.repeated
        t.operation
    commit_stands (Looking keys) fits h r e o honest = commit_by (Looking keys) r o honest
        (λ b v. (records_now (Looking keys) r e v h.0, h.1)) (looks keys h r e)
    commit_stands (Reading cs f fs) fits h r e o honest = commit_by (Reading cs f fs) r o honest
        (λ b v. (records_now (Reading cs f fs) r e v h.0, h.1)) (reads cs f fs h r e)
    commit_stands (Publishing cs) fits h r e o honest =
        let is_set : is_set_key w a.task w.dest.bucket (set_key w.dest.key w.job a.task) ≡ true = rw
        (text_true w.dest.bucket w.dest.bucket refl, text_true (set_key w.dest.key w.job a.task) (set_key w.dest.key w.job a.task) refl)
        refl in
        let publishes : is_publishing w s.scene a.task r ≡ true = ap (is_publishing w s.scene a.task) (sym (some_is e)) ∙ ap
        (λ b. b && is_set_key w a.task w.dest.bucket (set_key w.dest.key w.job a.task)) fits.0 ∙ is_set in
        commit_by (Publishing cs) r o honest (λ b v. tt) (λ x due. (tt, λ d. published r publishes (Answered x) refl))
    commit_stands (Checking p ps) fits h r e o honest = commit_by (Checking p ps) r o honest (λ b v. tt)
        (λ x due. checked_stands (Q r (Answered x)) w (now r (Answered x)) a p ps x)
    commit_stands (commits.Uploads f fs u) fits h r e o honest =
        commit_by (commits.Uploads f fs u) r o honest (λ b v. tt)
        (λ x due. uploaded_stands (Q r (Answered x)) w (now r (Answered x)) a f fs (upload_hears w minimum f u x)
        (upload_there w minimum s m a j facts closed before clean fits.1 f fs u fits.2 x (due ∙ ap (answer s.scene) (sym (some_is e)))))
    commit_stands Storing fits h r e o honest = commit_by Storing r o honest (λ b v. tt) (λ x due. inl here)
      where
        here : HasPath (apply s.scene r) (temporary_path w a)
        here = subst (λ q. HasPath (apply s.scene q) (temporary_path w a)) (some_is e)
            (_, text_here s.scene.files (temporary_path w a) (temporary_path w a) _ refl)
    commit_stands Renaming fits h r e o honest = rename_stands fits.0 h r e o honest
    commit_stands (TaskCommitOver end) fits h r e o honest = absurd cc

-- ---- the last publisher of its task

module _ (w : Script) (k : Times) (s : Seen) (a : Who) (n : ℕ) where
  abbrev seen_now : Request → Outcome → Seen
  seen_now r o = see w k s (entry a n r o)

  last_kept : (r : Request) (v : Outcome) → HasPublished s a.task → HasPublished (seen_now r v) a.task
  last_kept r Slow h = h
  last_kept r RequestLost h = h
  last_kept r _ h = some_last (nat_eq a.task a.task && is_publishing w s.scene a.task r) a.attempt (s.last a.task) h

  publishes_last : (r : Request) → is_publishing w s.scene a.task r ≡ true → (v : Outcome) → is_effective v ≡ true
      → HasPublished (seen_now r v) a.task
  publishes_last r e Slow took = absurd (false≢true took)
  publishes_last r e RequestLost took = absurd (false≢true took)
  publishes_last r e _ took = (
    a.attempt,
    ap (λ b. cond b (Some a.attempt) (s.last a.task))
        (ap (λ b. nat_eq a.task a.task && b) e ∙ ap (λ b. b && true) (nat_true a.task a.task refl)),
  )

-- ---- all operations

pub own_stands : (g : Setting) → IsLegal g.script → (k : Times) (s : Seen) (m : Told) (a : Who) (n : ℕ) → Hold g.script g.minimum s m
    → Closed m → m.cleaned ≡ false → (op : Operation) → Fits g.script g.minimum a m op → Stands g.script s a op
    → (r : Request) → asks g a (known m a) op ≡ Some r → (o : Outcome) → IsHonestOutcome o (answer s.scene r)
    → Stands g.script (see g.script k s (entry a n r o)) a (tells g a op o)
own_stands g j k s m a n facts closed before (TheWrite t) fits h r e o honest = write_stands g.script g.minimum k s m a n j facts closed
    before fits.0 g.script.retries t.spare t.repeated t.operation fits.1 h r e o honest
own_stands g j k s m a n facts closed before (TheTaskCommit t) fits h r e o honest = commit_stands g.script g.minimum k s m a n j facts
    closed before fits.0 g.script.retries t.spare t.repeated (HasPublished s a.task)
    (λ q v. HasPublished (seen_now g.script k s a n q v) a.task) (last_kept g.script k s a n) (publishes_last g.script k s a n) t.operation
    fits.1 h r e o honest
own_stands g j k s m a n facts closed before (TheCheck t) fits h r e o honest = absurd fits
own_stands g j k s m a n facts closed before _ fits h r e o honest = tt

-- ---- the ends

pub write_never : (w : Script) (s : Seen) (a : Who) (op : Write) (name : List ℕ) → WriteStands w s a op
    → write_over op ≡ Some (tasks.Gone name) → ⊥
write_never w s a op name h g = grind arith

pub commit_never : (w : Script) (s : Seen) (a : Who) (b : Bool) (op : TaskCommit) (name : List ℕ) → CommitStands w s a b op
    → task_commit_over op ≡ Some (tasks.Gone name) → ⊥
commit_never w s a b op name h g = grind arith

pub commit_done : (w : Script) (minimum : ℕ) (s : Seen) (m : Told) (a : Who) (b : Bool) → Hold w minimum s m → m.cleaned ≡ false
    → IsAttempt w a → CommitStands w s a b (TaskCommitOver tasks.Done) → (bytes : List ℕ) × (sets_at w s.scene a.task ≡ Some bytes)
    × IsSet w minimum s.last m.publish_sent m.drawn a.task bytes
commit_done w minimum s m a b h g e f = grind arith
