-- Every operation of an attempt keeps the facts with each of its requests, its state fits afterwards, and it names only what is its own.
use Rattle.text_and_lists.proofs.Members.{map_in}
use Rattle.text_and_lists.specs.Members.{RisesFrom}
use Rattle.job_invariant.proofs.Aborting.{abort_goes}
use Rattle.job_invariant.proofs.Going.{Each, known_now, step_asked, unlearnt}
use Rattle.job_invariant.proofs.Legal.{files_apart}
use Rattle.job_invariant.proofs.Ordered.{none_missing, order_all, order_apart, order_each}
use Rattle.job_invariant.proofs.Owning.{asked_adds, asked_keeps, operation_asked, takes_back}
use Rattle.job_invariant.proofs.Sent.{is_set_here, not_set}
use Rattle.job_invariant.proofs.Shapes.{last_so, page_is}
use Rattle.job_invariant.proofs.Uploads.{FitsUploaded, all_commits, next_todo, todo_none, upload_flags, upload_goes}
use Rattle.job_invariant.proofs.Whose.{who_here}
use Rattle.job_invariant.specs.Facts.{AreCommits, Hold, IsAttempt, IsOwnPlace}
use Rattle.job_invariant.specs.Fits.{AllWritten, Fits, FitsAbort, FitsCommit, FitsUpload, FitsWrite, IsOpen, Todo}
use Rattle.job_invariant.specs.FactsKeep.{Goes}
use Rattle.job_invariant.specs.Told.{Told, entry, known, tell, tell_attempt, undoes}
use Rattle.job_model.specs.Attempts.{Who}
use Rattle.job_model.specs.Files.{File}
use Rattle.job_model.specs.JobScript.{Script}
use Rattle.job_model.specs.Known.{Drawn, Known}
use Rattle.job_model.specs.Legal.{IsLegal}
use Rattle.job_protocol.specs.Knowledge.{first_drawn, learn}
use Rattle.job_protocol.specs.Operations.{Operation, Setting, TheTaskAbort, TheTaskCommit, TheWrite, asks, tells}
use Rattle.job_protocol.specs.Outputs.{files}
use Rattle.job_protocol.specs.Records.{record_key, record_text}
use Rattle.job_protocol.specs.Seen.{Seen, Times, is_magic, is_staging}
use Rattle.job_protocol.specs.TaskAborts.{task_abort_after}
use Rattle.job_protocol.specs.TaskCommits.{Checking, Looking, Publishing, Reading, Renaming, Storing, TaskCommit, TaskCommitOver, Uploads}
use Rattle.job_protocol.specs.TaskCommits.{attempt_prefix, checked, checking, in_order, least_missing, looked, looked_at, read_record}
use Rattle.job_protocol.specs.TaskCommits.{reading, renamed, storing, task_commit_after, task_commit_asks, task_commit_hears}
use Rattle.job_protocol.specs.TaskCommits.{temporary_path, uploaded}
use Rattle.job_protocol.specs.Uploading.{AllSent, GoesOn, IsGone, Uploaded, Uploading, upload_asks, upload_hears}
use Rattle.job_protocol.specs.Writes.{Recording, Write, WriteOver, write_after, write_asks, write_hears, writing}
use Rattle.list_walk.specs.Walks.{keys_on, last_of, walked_by}
use Rattle.magic_paths.specs.Places.{MarkerPlace, Place, RecordPlace, SetPlace, key_at}
use Rattle.retries.specs.Retries.{Retried, step}
use Rattle.s3_types.specs.Answer.{answer}
use Rattle.s3_types.specs.Moment.{IsHonestOutcome}
use Rattle.s3_types.specs.Pages.{listed}
use Rattle.s3_types.specs.declared.journal.Outcome.{Outcome}
use Rattle.s3_types.specs.declared.journal.Outcome.TheVariants.{Answered}
use Rattle.s3_types.specs.declared.reply.Reply.{Reply}
use Rattle.s3_types.specs.declared.reply.Reply.TheVariants.{Page}
use Rattle.s3_types.specs.declared.request.Request.{Request}
use Rattle.s3_types.specs.declared.request.Request.TheVariants.{ClusterRename, PutObject}
use Rattle.std.proofs.Common.{Bool, List, None, Option, Some, ap, arith, false, inl, length, map, refl, subst, sym, take, true, ℕ, [], ◌++◌}
use Rattle.std.proofs.Common.{◌||◌, ◌∙◌, ◌∷◌, ◌≡◌, ◌⊎◌}
use Rattle.std.proofs.Math.Bool.{or-false, or-true}
use Rattle.store_frame.proofs.Flat.{joins, page_rises}
use Rattle.magic_paths.specs.Layout as layout
use Rattle.job_protocol.specs.Writes as writes

-- ---- an attempt's write

module _ (w : Script) (minimum : ℕ) (a : Who) where
  pub fits_writing : (k : Known) (fs : List File) → is_magic w.committer ≡ true → IsOpen k → Todo w minimum a k.drawn fs
      → FitsWrite w minimum a k (writing fs)
  fits_writing k fs h g e = grind arith

  write_uploaded : (k : Known) (f : File) (fs : List File) (u : Uploaded) → is_magic w.committer ≡ true → IsOpen k
      → FitsUploaded w minimum a k f fs u → FitsWrite w minimum a k (writes.uploaded w f fs u)
  write_uploaded k f fs u h g e = grind arith

  -- Only the uploads that the attempt knows, and what it has sent, matter.
  pub fits_upload_same : (k more : Known) (f : File) (fs : List File) (u : Uploading) → more.drawn ≡ k.drawn
      → FitsUpload w minimum a k f fs u → FitsUpload w minimum a more f fs u
  fits_upload_same k more f fs u h g = grind arith

module _ (w : Script) (minimum : ℕ) (k : Times) (s : Seen) (m : Told) (a : Who) (n : ℕ) (j : IsLegal w) (d : IsAttempt w a)
    (h : Hold w minimum s m) where
  -- A put of it puts no task's set.
  put_open : (p : Place) (bytes : List ℕ) (header : Option ℕ) → is_magic w.committer ≡ true → IsOwnPlace w p → (p ≡ SetPlace a.task → ⊥)
      → (o : Outcome) → IsOpen (known m a) → IsOpen (learn w a (known m a)
      (PutObject w.dest.bucket (key_at w.dest.key w.job p) bytes header) o)
  put_open p bytes header magic own ne o free = (
    ap (λ b. m.publish_sent a || b) (not_set j magic a.task p own d.task ne) ∙ or-false
        (m.publish_sent a) ∙ free.0,
    free.1,
  )

  -- Its state fits after an answer.
  write_heard : (op : Write) → FitsWrite w minimum a (known m a) op
      → Each (λ q. (x : Reply) → x ≡ answer s.scene q
      → FitsWrite w minimum a (learn w a (known m a) q (Answered x)) (write_hears w minimum op x)) (write_asks w a (known m a) op)
  write_heard (writes.Uploads f fs u) fits = λ x e.
      write_uploaded w minimum a (learn w a (known m a) (upload_asks w (known m a) f u) (Answered x)) f fs (upload_hears w minimum f u x)
      fits.0 (upload_flags w a (known m a) f u (Answered x) fits.1) (upload_goes w minimum s m a j h f fs u fits.2 x e)
  write_heard (writes.Marking f fs) fits = λ x e. (
    fits.0,
    put_open (MarkerPlace a.task a.attempt f.0) [] (Some (length f.1)) fits.0
        (f, fits.2.each f (inl refl), refl) (λ e. absurd cc) (Answered x) fits.1,
    fits.2,
  )
  write_heard (Recording f fs) fits = λ x e.
      let bytes = record_text w a f (first_drawn (m.drawn a)) in
      fits_writing w minimum a (learn w a (known m a) (PutObject w.dest.bucket (record_key w a f) bytes None) (Answered x)) fs fits.0
      (put_open (RecordPlace a.task a.attempt f.0) bytes None fits.0 (f, fits.2.each f (inl refl), refl) (λ e. absurd cc) (Answered x)
      fits.1) (next_todo w minimum a (m.drawn a) f fs fits.2)
  write_heard (WriteOver end) fits = tt

  write_still : (op : Write) → FitsWrite w minimum a (known m a) op → (o : Outcome) → ((x : Reply) → o ≡ Answered x → ⊥)
      → Each (λ q. FitsWrite w minimum a (learn w a (known m a) q o) op) (write_asks w a (known m a) op)
  write_still (writes.Uploads f fs u) fits o none =
      let q = upload_asks w (known m a) f u in (
        fits.0,
        upload_flags w a (known m a) f u o fits.1,
        fits_upload_same w minimum a (known m a) (learn w a (known m a) q o) f fs u
            (unlearnt w a (known m a) q o none) fits.2,
      )
  write_still (writes.Marking f fs) fits o none = (
    fits.0,
    put_open (MarkerPlace a.task a.attempt f.0) [] (Some (length f.1)) fits.0
        (f, fits.2.each f (inl refl), refl) (λ e. absurd cc) o fits.1,
    fits.2,
  )
  write_still (Recording f fs) fits o none = (
    fits.0,
    put_open (RecordPlace a.task a.attempt f.0) (record_text w a f (first_drawn (m.drawn a))) None fits.0
        (f, fits.2.each f (inl refl), refl) (λ e. absurd cc) o fits.1,
    fits.2,
  )
  write_still (WriteOver end) fits o none = tt

  pub write_goes : (retries : ℕ) (t : Retried Write) → FitsWrite w minimum a (known m a) t.operation → (r : Request)
      → write_asks w a (known m a) t.operation ≡ Some r → (o : Outcome) → IsHonestOutcome o (answer s.scene r)
      → FitsWrite w minimum a (learn w a (known m a) r o) (step retries (write_after w minimum) t o).operation
  write_goes retries t fits r e o honest =
      step_asked (λ q v. FitsWrite w minimum a (learn w a (known m a) q v)) retries (write_after w minimum) t (answer s.scene) r e o honest
      (write_heard t.operation fits) (write_still t.operation fits o) (λ z. absurd cc)

-- ---- an attempt's commit of its task

module _ (w : Script) (minimum : ℕ) (a : Who) (j : IsLegal w) where
  fits_storing : (k : Known) (fs : List File) → is_staging w.committer ≡ true → IsOpen k → Todo w minimum a k.drawn fs
      → FitsCommit w minimum a k (storing fs)
  fits_storing k [] staging free t = (staging, all_commits w minimum a j k.drawn (todo_none w minimum a k.drawn t))
  fits_storing k (f ∷ fs) staging free t = (staging, free, t)

  pub fits_checking : (k : Known) (ds : List (List ℕ)) → is_staging w.committer ≡ true → IsOpen k → Todo w minimum a k.drawn (files w a)
      → FitsCommit w minimum a k (checking w a ds)
  fits_checking k [] staging free t = fits_storing k (files w a) staging free t
  fits_checking k (d ∷ ds) staging free t = (staging, free, t)

  fits_uploaded : (k : Known) (f : File) (fs : List File) (u : Uploaded) → is_staging w.committer ≡ true → IsOpen k
      → FitsUploaded w minimum a k f fs u → FitsCommit w minimum a k (uploaded w f fs u)
  fits_uploaded k f fs (GoesOn u) staging free h = (staging, free, h)
  fits_uploaded k f fs AllSent staging free h = fits_storing k fs staging free (next_todo w minimum a k.drawn f fs h)
  fits_uploaded k f fs IsGone staging free h = λ e. absurd cc

  fits_reading : (k : Known) (cs fs : List File) → is_magic w.committer ≡ true → AreCommits w minimum k.drawn a cs
      → FitsCommit w minimum a k (reading cs fs)
  fits_reading k cs fs h g = grind arith

  -- The files that were listed, in the order of the listing.
  listed_commits : (ds : List Drawn) (keys : List (List ℕ)) → AllWritten w minimum a ds → RisesFrom [] keys
      → least_missing keys (map (record_key w a) (files w a)) ≡ None → AreCommits w minimum ds a (in_order w a keys)
  listed_commits ds keys written rises none = record {
    each = λ f i. (order_each w a keys f i).0;
    all = λ f i. order_all w a keys f i (none_missing keys (map (record_key w a) (files w a)) none (record_key w a f)
        (map_in (record_key w a) f (files w a) i));
    once = order_apart w a (files_apart j a) [] keys rises;
    written = written;
  }

  fits_looked : (k : Known) (keys : List (List ℕ)) → is_magic w.committer ≡ true → AllWritten w minimum a k.drawn → RisesFrom [] keys
      → (more : Bool) → FitsCommit w minimum a k (looked w a (walked_by more keys))
  fits_looked k keys magic written rises true = (magic, written, rises)
  fits_looked k keys magic written rises false = by (least_missing keys (map (record_key w a) (files w a))) refl
    where
      by : (o : Option (List ℕ)) → least_missing keys (map (record_key w a) (files w a)) ≡ o
          → FitsCommit w minimum a k (looked_at o (in_order w a keys))
      by (Some q) e = λ d. absurd cc
      by None e = fits_reading k (in_order w a keys) (in_order w a keys) magic (listed_commits k.drawn keys written rises e)

  fits_read : (k : Known) (cs : List File) (f : File) (fs : List File) → is_magic w.committer ≡ true → AreCommits w minimum k.drawn a cs
      → (x : Reply) → FitsCommit w minimum a k (read_record w a cs f fs x)
  fits_read k cs f fs h g x = grind arith

  fits_checked : (k : Known) (d : List ℕ) (ds : List (List ℕ)) → is_staging w.committer ≡ true → IsOpen k
      → Todo w minimum a k.drawn (files w a) → (x : Reply) → FitsCommit w minimum a k (checked w a d ds x)
  fits_checked k d ds staging free t (Page [] more) = fits_checking k ds staging free t
  fits_checked k d ds staging free t (Page (y ∷ ys) more) = λ e. absurd cc
  fits_checked k d ds staging free t _ = (staging, free, t)

  -- The end of a rename that was sent.
  fits_renamed : (k : Known) → k.publish_sent ≡ true → (x : Reply) (repeated : Bool) → FitsCommit w minimum a k (renamed w a x repeated)
  fits_renamed k h x repeated = grind arith

module _ (w : Script) (minimum : ℕ) (k : Times) (s : Seen) (m : Told) (a : Who) (n : ℕ) (j : IsLegal w) (d : IsAttempt w a)
    (clean : m.undone a ≡ false) (h : Hold w minimum s m) where
  -- Its state fits after an answer.
  commit_heard : (repeated : Bool) (op : TaskCommit) → FitsCommit w minimum a (known m a) op
      → Each (λ q. (x : Reply) → x ≡ answer s.scene q
      → FitsCommit w minimum a (learn w a (known m a) q (Answered x)) (task_commit_hears w minimum a op x repeated))
      (task_commit_asks w a (known m a) op)
  commit_heard repeated (Looking keys) fits = λ x e.
      let p = attempt_prefix w a in
      let found = keys_on (take 1000 (listed p false (last_of keys) h.there.0.objects)) in
      let rises : RisesFrom [] (keys ++ found) = joins [] keys found fits.2 (subst (λ l. RisesFrom l found) (last_so keys)
      (page_rises 1000 p (last_of keys) h.there.0.objects)) in
      subst (λ y. FitsCommit w minimum a (known m a) (looked w a y)) (sym (page_is w s.scene h.there p keys x e))
      (fits_looked w minimum a j (known m a) (keys ++ found) fits.0 fits.1 rises _)
  commit_heard repeated (Reading cs f fs) fits = λ x e. fits_read w minimum a j (known m a) cs f fs fits.0 fits.1 x
  commit_heard repeated (Publishing cs) fits = λ x e z. ap (λ b. m.publish_sent a || b) (is_set_here w a) ∙ or-true (m.publish_sent a)
  commit_heard repeated (Checking p ps) fits = λ x e. fits_checked w minimum a j (known m a) p ps fits.0 fits.1 fits.2 x
  commit_heard repeated (Uploads f fs u) fits = λ x e.
      fits_uploaded w minimum a j (learn w a (known m a) (upload_asks w (known m a) f u) (Answered x)) f fs (upload_hears w minimum f u x)
      fits.0 (upload_flags w a (known m a) f u (Answered x) fits.1) (upload_goes w minimum s m a j h f fs u fits.2 x e)
  commit_heard repeated Storing fits = λ x e. (fits.0, refl, fits.1)
  commit_heard repeated Renaming fits = λ x e. fits_renamed w minimum a j (learn w a (known m a)
      (ClusterRename (temporary_path w a) (layout.staged_set_path w.job a.task)) (Answered x)) refl x repeated
  commit_heard repeated (TaskCommitOver end) fits = tt

  commit_still : (op : TaskCommit) → FitsCommit w minimum a (known m a) op → (o : Outcome) → ((x : Reply) → o ≡ Answered x → ⊥)
      → Each (λ q. FitsCommit w minimum a (learn w a (known m a) q o) op) (task_commit_asks w a (known m a) op)
  commit_still op h o g = grind arith

  pub commit_goes : (retries : ℕ) (t : Retried TaskCommit) → FitsCommit w minimum a (known m a) t.operation → (r : Request)
      → task_commit_asks w a (known m a) t.operation ≡ Some r → (o : Outcome) → IsHonestOutcome o (answer s.scene r)
      → FitsCommit w minimum a (learn w a (known m a) r o) (step retries (task_commit_after w minimum a) t o).operation
  commit_goes retries t fits r e o honest =
      step_asked (λ q v. FitsCommit w minimum a (learn w a (known m a) q v)) retries (task_commit_after w minimum a) t (answer s.scene) r e
      o honest (commit_heard t.repeated t.operation fits) (commit_still t.operation fits o) (λ z. absurd cc)

module _ (g : Setting) (j : IsLegal g.script) (k : Times) (s : Seen) (m : Told) (a : Who) (n : ℕ) (d : IsAttempt g.script a)
    (h : Hold g.script g.minimum s m) where
  pub operation_goes : (op : Operation) → Fits g.script g.minimum a m op → (r : Request) → asks g a (known m a) op ≡ Some r → (o : Outcome)
      → IsHonestOutcome o (answer s.scene r) → Goes g k s m a n r o (tells g a op o)
  operation_goes op fits r e o honest =
      let asked = operation_asked g m a op fits r e in
      record { hold = asked_keeps j k s m a n d h r asked o honest; fits = goes op fits e (asked_adds r asked) }
    where
      clean_now : m.undone a ≡ false → undoes r ≡ false → (tell_attempt g.script m a r o).undone a ≡ false
      clean_now clean adds = who_here m.undone a (m.undone a || undoes r) a refl ∙ ap (λ b. m.undone a || b) adds ∙ or-false (m.undone a) ∙
          clean

      goes : (op : Operation) → Fits g.script g.minimum a m op → asks g a (known m a) op ≡ Some r
          → ((takes_back op ≡ false) ⊎ (m.publish_sent a ≡ true) → undoes r ≡ false)
          → Fits g.script g.minimum a (tell g.script m (entry a n r o)) (tells g a op o)
      goes (TheWrite t) fits e adds = (
        clean_now fits.0 (adds (inl refl)),
        subst (λ x. FitsWrite g.script g.minimum a x (step g.script.retries (write_after g.script g.minimum) t o).operation)
            (sym (known_now g.script m a r o))
            (write_goes g.script g.minimum k s m a n j d h g.script.retries t fits.1 r e o honest),
      )
      goes (TheTaskCommit t) fits e adds = (
        clean_now fits.0 (adds (inl refl)),
        subst (λ x. FitsCommit g.script g.minimum a x (step g.script.retries (task_commit_after g.script g.minimum a) t o).operation)
            (sym (known_now g.script m a r o))
            (commit_goes g.script g.minimum k s m a n j d fits.0 h g.script.retries t fits.1 r e o honest),
      )
      goes (TheTaskAbort t) fits e adds =
          subst (λ x. FitsAbort g.script a x (step g.script.retries (task_abort_after g.script) t o).operation)
          (sym (known_now g.script m a r o)) (abort_goes g.script g.minimum k s m a n j d h g.script.retries t fits r e o honest)
      goes _ fits e adds = absurd fits
