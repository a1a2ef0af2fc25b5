-- The answers that S3 must give to an attempt's machines.
use Rattle.text_and_lists.proofs.Members.{nat_false, some_is}
use Rattle.text_and_lists.specs.Members.{IsIn, RisesFrom}
use Rattle.job_invariant.proofs.Cut.{parts_few}
use Rattle.job_invariant.proofs.Legible.{drawn_is, legal_record, plain_so, written_sizes}
use Rattle.job_invariant.proofs.Replies.{record_there}
use Rattle.job_invariant.proofs.Shapes.{answer_is, last_so}
use Rattle.job_invariant.proofs.Uploads.{drop_more, number_fits}
use Rattle.job_invariant.specs.Facts.{AreCommits, Facts}
use Rattle.job_invariant.specs.Fits.{Begun, FitsCommit, FitsWrite}
use Rattle.job_invariant.specs.Told.{Told, known}
use Rattle.job_model.specs.Attempts.{Who}
use Rattle.job_model.specs.Files.{File}
use Rattle.job_model.specs.JobScript.{Script}
use Rattle.job_model.specs.Known.{Drawn, Known}
use Rattle.job_model.specs.Legal.{IsLegal}
use Rattle.job_protocol.specs.AtWork.{task_abort_wants, task_commit_wants, write_wants}
use Rattle.job_protocol.specs.Knowledge.{drawn_in, first_drawn}
use Rattle.job_protocol.specs.Outputs.{files}
use Rattle.job_protocol.specs.Records.{file_key, record_key, record_text}
use Rattle.job_protocol.specs.Seen.{is_magic}
use Rattle.job_protocol.specs.TaskAborts.{Sweeping, TaskAbort}
use Rattle.job_protocol.specs.TaskCommits.{Checking, Looking, Reading, TaskCommit, attempt_prefix, partition_prefix}
use Rattle.job_protocol.specs.Uploading.{Creating, Sending, file_parts}
use Rattle.job_protocol.specs.Writes.{Write}
use Rattle.job_refinement.proofs.Pages.{sweep_fits}
use Rattle.job_refinement.specs.Due.{FitsDue, ReadsOwn}
use Rattle.job_refinement.specs.Plans.{at_work}
use Rattle.list_walk.proofs.Keys.{page_keys}
use Rattle.list_walk.specs.Fitting.{FitsPage}
use Rattle.list_walk.specs.Walks.{keys_on, last_of, page_after}
use Rattle.s3_types.specs.Answer.{answer, part_answer}
use Rattle.s3_types.specs.Multipart.{is_part_number, live}
use Rattle.s3_types.specs.Pages.{listed}
use Rattle.s3_types.specs.Store.{Scene, Upload}
use Rattle.s3_types.specs.declared.reply.PageEntry.{PageEntry}
use Rattle.s3_types.specs.declared.reply.Reply.TheVariants.{Page}
use Rattle.s3_types.specs.declared.request.Request.TheVariants.{CreateUpload, GetObject, ListPage, UploadPart}
use Rattle.std.proofs.Common.{List, None, Option, Some, ap, arith, false, inl, inr, length, nat_eq, nat_lt, refl, subst, suc, sym, take}
use Rattle.std.proofs.Common.{true, ℕ, [], ◌++◌, ◌+◌, ◌<◌, ◌^◌, ◌∙◌, ◌∷◌, ◌≡◌, ◌≤◌}
use Rattle.store_frame.proofs.Flat.{joins, page_rises}
use Rattle.store_frame.specs.Held.{HasBucket}
use Rattle.task_operation.specs.Aborts.{abort_fits}
use Rattle.task_operation.specs.Commits.{FitsListing, commit_fits}
use Rattle.task_requests.specs.Publishing.{FitsRecord, IsPending}
use Rattle.task_requests.specs.Writing.{FitsCreate, FitsPart, is_new, write_fits}
use Rattle.list_walk.specs.Walks as walks
use Rattle.job_protocol.specs.Writes as writes
use Rattle.job_protocol.specs.TaskCommits as commits
use Rattle.task_operation.specs.Aborts as undoing

-- ---- an upload

-- An id above those of uploads is none of theirs.
new_among : (id : ℕ) (ds : List Drawn) → ((d : Drawn) → IsIn d ds → d.upload < id) → is_new id ds ≡ true
new_among id [] h = refl
new_among id (d ∷ ds) h =
    let low : d.upload < id = h d (inl refl) in
    let apart : nat_eq d.upload id ≡ false = nat_false d.upload id (λ e. absurd (omega (arith, low, e))) in
    rw (apart, new_among id ds (λ x i. h x (inr i))) refl

part_fits : (o : Option Upload) (n : ℕ) (bytes : List ℕ) → is_part_number n ≡ true → FitsPart (part_answer o n bytes)
part_fits None n bytes h = tt
part_fits (Some u) n bytes h = rw h (plain_so bytes)

module _ (w : Script) (minimum : ℕ) (s : Scene) (last : ℕ → Option ℕ) (m : Told) (j : IsLegal w) (f : Facts w minimum s last m) (a : Who)
    (k : Known) (knows : k.drawn ≡ m.drawn a) where
  create_fits : (key : List ℕ) → FitsCreate k.drawn (answer s (CreateUpload w.dest.bucket key))
  create_fits key =
      let new : is_new s.content.next k.drawn ≡ true = ap (is_new s.content.next) knows ∙ new_among s.content.next (m.drawn a)
      (f.ids.below a) in
      subst (FitsCreate k.drawn) (sym (answer_is w s f.there.0 f.there.1 (CreateUpload w.dest.bucket key) refl)) new

  -- The next part of the newest upload has a valid number.
  sending_fits : (g : File) (fs : List File) (p : List ℕ) (ps : List (List ℕ)) → Begun w minimum a (m.drawn a) g fs (p ∷ ps)
      → let d = first_drawn k.drawn in FitsPart (answer s (UploadPart w.dest.bucket (file_key w g) d.upload (length d.tags + 1) p))
  sending_fits g fs p ps b =
      let d = first_drawn k.drawn in
      let is : d ≡ b.latest = ap first_drawn (knows ∙ b.is) in
      let more = drop_more w minimum a (file_parts w minimum g) (length b.latest.tags) p ps b.left in
      let low : suc (length b.latest.tags) ≤ length (file_parts w minimum g) = more.0 in
      let few : length (file_parts w minimum g) ≤ 10000 = parts_few w minimum g in
      let number : is_part_number (length d.tags + 1) ≡ true = ap (λ (x : Drawn). is_part_number (length x.tags + 1)) is ∙ number_fits
      (length b.latest.tags) (omega (arith, low, few)) in
      subst FitsPart (sym (answer_is w s f.there.0 f.there.1 (UploadPart w.dest.bucket (file_key w g) d.upload (length d.tags + 1) p) refl))
      (part_fits (live f.there.0.uploads (file_key w g) d.upload) (length d.tags + 1) p number)

  pub write_due : (t : Write) → FitsWrite w minimum a (known m a) t → FitsDue write_wants write_fits (at_work w minimum a k t) s
  write_due (writes.Uploads g fs Creating) fits r e repeated = subst (λ q. FitsCreate k.drawn (answer s q)) (some_is e)
      (create_fits (file_key w g))
  write_due (writes.Uploads g fs (Sending p ps)) fits r e repeated = subst (λ q. FitsPart (answer s q)) (some_is e)
      (sending_fits g fs p ps fits.2)
  write_due _ fits r e repeated = tt

  -- ---- a commit

  listing_fits : (keys : List (List ℕ)) → RisesFrom [] keys
      → FitsListing keys (answer s (page_after w.dest.bucket (attempt_prefix w a) keys))
  listing_fits keys rises =
      let q = page_after w.dest.bucket (attempt_prefix w a) keys in
      let xs : List PageEntry = listed (attempt_prefix w a) false (last_of keys) f.there.0.objects in
      let due : answer s q ≡ Page (take 1000 xs) (nat_lt 1000 (length xs)) = answer_is w s f.there.0 f.there.1 q refl in
      let on : RisesFrom [] (keys ++ keys_on (take 1000 xs)) = joins [] keys (keys_on (take 1000 xs)) rises
      (subst (λ l. RisesFrom l (keys_on (take 1000 xs))) (last_so keys) (page_rises 1000 (attempt_prefix w a) (last_of keys)
      f.there.0.objects)) in
      subst (FitsListing keys) (sym due) (page_keys 1000 (attempt_prefix w a) (last_of keys) f.there.0.objects, on)

  -- The record of one of its written files.
  record_fits : is_magic w.committer ≡ true → s.content.next ≤ 2 ^ 64 → (cs : List File) → AreCommits w minimum (m.drawn a) a cs
      → (g : File) → IsIn g (files w a) → FitsRecord w a k g (answer s (GetObject w.dest.bucket (record_key w a g)))
  record_fits magic few cs are g i = elim (record_there j f magic a g i) [
    | inl none ↦ subst (FitsRecord w a k g) (sym none) tt
    | inr there ↦
        let x = are.written g i in
        let same : drawn_in k.drawn (file_key w g) ≡ drawn_in (m.drawn a) (file_key w g) = ap (λ ds. drawn_in ds (file_key w g)) knows in
        let is : drawn_in k.drawn (file_key w g) ≡ x.drawn = same ∙ ap (drawn_in (m.drawn a)) (sym x.key) ∙ drawn_is f a x.drawn x.known in
        let pending : IsPending x.drawn (length g.1) = ((legal_record j f few a g i x).tags, written_sizes j f a g i x) in
        subst (FitsRecord w a k g) (sym there.1) (ap (record_text w a g) (sym same), subst (λ d. IsPending d (length g.1)) (sym is) pending)
  ]

  -- The request for one key below a partition.
  look_fits : (prefix : List ℕ) → FitsPage (answer s (ListPage w.dest.bucket prefix false [] 1))
  look_fits prefix = subst FitsPage (sym (answer_is w s f.there.0 f.there.1 (ListPage w.dest.bucket prefix false [] 1) refl))
      (page_keys 1 prefix [] f.there.0.objects)

  pub commit_due : s.content.next ≤ 2 ^ 64 → (t : TaskCommit) → FitsCommit w minimum a (known m a) t → ReadsOwn w a t
      → FitsDue task_commit_wants commit_fits (at_work w minimum a k t) s
  commit_due few (Looking keys) fits own r e repeated = subst (λ q. FitsListing keys (answer s q)) (some_is e) (listing_fits keys fits.2)
  commit_due few (Reading cs g gs) fits own r e repeated = subst (λ q. FitsRecord w a k g (answer s q)) (some_is e)
      (record_fits fits.0 few cs fits.1 g (own g (inl refl)))
  commit_due few (Checking d ds) fits own r e repeated = subst (λ q. FitsPage (answer s q)) (some_is e) (look_fits (partition_prefix w d))
  commit_due few (commits.Uploads g gs Creating) fits own r e repeated = subst (λ q. FitsCreate k.drawn (answer s q)) (some_is e)
      (create_fits (file_key w g))
  commit_due few (commits.Uploads g gs (Sending p ps)) fits own r e repeated = subst (λ q. FitsPart (answer s q)) (some_is e)
      (sending_fits g gs p ps fits.2)
  commit_due few _ fits own r e repeated = tt

-- ---- an abort

pub abort_due : (w : Script) (minimum : ℕ) (s : Scene) → HasBucket s.content w.dest.bucket → (a : Who) (k : Known) (t : TaskAbort)
    → FitsDue task_abort_wants abort_fits (at_work w minimum a k t) s
abort_due w minimum s there a k (Sweeping (walks.Listing keys)) r e repeated = subst
    (λ q. undoing.FitsAbort (Sweeping (walks.Listing keys)) (answer s q)) (some_is e)
    (sweep_fits w s there (attempt_prefix w a) (walks.Listing keys))
abort_due w minimum s there a k _ r e repeated = tt
