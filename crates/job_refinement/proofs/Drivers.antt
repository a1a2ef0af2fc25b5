-- The answers that S3 must give to the driver's machines.
use Rattle.text_and_lists.proofs.Members.{none_some, some_is, true_or_false}
use Rattle.commit_lanes.specs.Fitting.{FitsCommit, FitsReply, SpellsSet}
use Rattle.conflict.specs.Fits.{FitsCheck, FitsLook}
use Rattle.conflict.specs.Rechecks.{check_wants}
use Rattle.job_invariant.proofs.Held.{nth_of, of_sets}
use Rattle.job_invariant.proofs.Replies.{bytes_read, completed, set_reply}
use Rattle.job_invariant.proofs.Shapes.{answer_is, id_before}
use Rattle.job_invariant.proofs.Turning.{turn_answered}
use Rattle.job_invariant.specs.Driver.{Reads}
use Rattle.job_invariant.specs.Emptying.{SetsUp}
use Rattle.job_invariant.specs.Facts.{Hold}
use Rattle.job_invariant.specs.Filed.{Gone, IsCommit}
use Rattle.job_invariant.specs.FiledLaws.{Commits}
use Rattle.job_invariant.specs.Stores.{sets_at}
use Rattle.job_invariant.specs.Told.{Told}
use Rattle.job_invariant.specs.Turning.{Turns}
use Rattle.job_model.specs.JobScript.{Script}
use Rattle.job_model.specs.Legal.{IsLegal}
use Rattle.job_protocol.specs.AtWork.{clean_wants, commit_wants, job_of, setup_wants}
use Rattle.job_protocol.specs.Cleanups.{Clean}
use Rattle.job_protocol.specs.JobCommits.{Commit, CommitOver, Completing, Fetching, FitsCompletion, Marking, Replacing, Reverting, Sets}
use Rattle.job_protocol.specs.JobCommits.{all_commits, ok_set, set_read, set_request}
use Rattle.job_protocol.specs.LaneTable.{Tabled}
use Rattle.job_protocol.specs.Lanes.{Turn, abort, completion, deletion, nth}
use Rattle.job_protocol.specs.Seen.{Seen}
use Rattle.job_protocol.specs.Setup.{Setup, dest_prefix, lacks_bucket}
use Rattle.job_protocol.specs.TaskCommits.{partition_prefix}
use Rattle.job_refinement.proofs.HeldSets.{same_read, set_is}
use Rattle.job_refinement.proofs.Pages.{page_fits, sweep_fits, uploads_fit}
use Rattle.job_refinement.specs.Due.{FitsDue, SetStands}
use Rattle.job_refinement.specs.Plans.{committing, driving, rechecking}
use Rattle.list_walk.specs.Fitting.{FitsSweep}
use Rattle.magic_paths.specs.Layout.{magic_prefix}
use Rattle.pending_json.specs.Pending.{Pending}
use Rattle.s3_types.specs.Answer.{abort_answer, answer, complete_answer}
use Rattle.s3_types.specs.Blocks.{named_from}
use Rattle.s3_types.specs.Moment.{IsHonestOutcome}
use Rattle.s3_types.specs.Multipart.{joined, live, with_key}
use Rattle.s3_types.specs.Store.{Scene, Upload}
use Rattle.s3_types.specs.declared.journal.Outcome.{Outcome}
use Rattle.s3_types.specs.declared.journal.Outcome.TheVariants.{Answered}
use Rattle.s3_types.specs.declared.reply.Refusal.TheVariants.{NoSuchBucket}
use Rattle.s3_types.specs.declared.reply.Reply.TheVariants.{Refused}
use Rattle.s3_types.specs.declared.request.Request.{Request}
use Rattle.s3_types.specs.declared.request.Request.TheVariants.{ListPage, PutObject}
use Rattle.std.proofs.Common.{List, None, Option, Some, ap, arith, false, inl, inr, length, refl, subst, sym, true, ℕ, [], ◌<◌, ◌^◌, ◌∙◌}
use Rattle.std.proofs.Common.{◌≡◌, ◌≤◌, ◌⊎◌}
use Rattle.store_frame.specs.Held.{HasBucket}
use Rattle.job_protocol.specs.Setup as setup
use Rattle.job_protocol.specs.Cleanups as clean
use Rattle.job_setup.specs.Fits as setups
use Rattle.cleanup.specs.Fits as cleans
use Rattle.job_protocol.specs.Rechecks as checks

-- ---- set-up and clean

pub setup_due : (w : Script) (s : Scene) (t : Setup) → SetsUp w s.content t → FitsDue setup_wants setups.FitsDriving (driving w t) s
setup_due w s (setup.Checking keys) up r e repeated = subst (λ q. setups.FitsSetup (setup.Checking keys) (answer s q)) (some_is e)
    (inl (page_fits w s up (dest_prefix w) keys))
setup_due w s (setup.Sweeping v) up r e repeated = subst (λ q. setups.FitsSetup (setup.Sweeping v) (answer s q)) (some_is e)
    (inl (sweep_fits w s up.0 (magic_prefix w.dest.key w.job) v))
setup_due w s _ up r e repeated = tt

pub clean_due : (w : Script) (s : Scene) → HasBucket s.content w.dest.bucket → (t : Clean)
    → FitsDue clean_wants cleans.FitsDriving (driving w t) s
clean_due w s there (clean.Walking found) r e repeated = subst (λ q. cleans.FitsClean (clean.Walking found) (answer s q)) (some_is e)
    (uploads_fit w s there (dest_prefix w) found)
clean_due w s there (clean.Sweeping v) r e repeated = subst (λ q. cleans.FitsClean (clean.Sweeping v) (answer s q)) (some_is e)
    (sweep_fits w s there (magic_prefix w.dest.key w.job) v)
clean_due w s there _ r e repeated = tt

-- ---- a check before a commit

pub check_due : (w : Script) (s : Scene) → HasBucket s.content w.dest.bucket → (partitions : List (List ℕ)) (c : checks.Check)
    → FitsDue check_wants FitsCheck (rechecking w partitions c) s
check_due w s there ps (checks.Looking keys) r e repeated = subst (λ q. FitsLook (checks.Looking keys) (answer s q)) (some_is e)
    (page_fits w s there (dest_prefix w) keys)
check_due w s there ps (checks.Probing d ds) r e repeated =
    subst (λ q. FitsLook (checks.Probing d ds) (answer s q)) (some_is e) (ap lacks_bucket
    (answer_is w s there.0 there.1 (ListPage w.dest.bucket (partition_prefix w d) false [] 1) refl))
check_due w s there ps _ r e repeated = tt

-- ---- the job's commit

module _ (w : Script) (minimum : ℕ) (s : Seen) (m : Told) (j : IsLegal w) (h : Hold w minimum s m) where
  -- A set that exists is that of an attempt of its task.
  set_fits : s.scene.content.next ≤ 2 ^ 64 → (t : ℕ) → t < w.tasks → (bytes : List ℕ) → sets_at w s.scene t ≡ Some bytes
      → SpellsSet (job_of w) t (set_read (answer s.scene (set_request w.committer w t)))
  set_fits few t low bytes stands =
      let x = h.sets t bytes low stands in
      subst (SpellsSet (job_of w) t) (sym (set_reply j h w.committer t (Some bytes) stands ∙ ap ok_set (bytes_read j h few t bytes low x)))
      (set_is j minimum t x.by (m.drawn x.by) x.commits x.are x.task)

  -- A completion of which a send was lost.
  lost_fits : Gone w s.scene.content m → (x : Turn) → x.lost ≡ true → (p : Pending) → IsCommit w minimum m.publish_sent m.drawn p
      → FitsCompletion x (answer s.scene (completion p))
  lost_fits gone x lost p v =
      let q = completion p in
      let due : answer s.scene q ≡ complete_answer (named_from 1 p.tags) (joined (live h.there.0.uploads p.destination p.upload)
      (named_from 1 p.tags) s.scene.content.minimum) = answer_is w s.scene h.there.0 h.there.1 q (ap (λ (z : Pending). z.bucket) v.is)
      in
      elim (true_or_false (m.ended p.upload)) [
        | inl ended ↦
            let none : live h.there.0.uploads p.destination p.upload ≡ None = ap (with_key p.destination)
            (sym (id_before w s.scene h.there.0 h.there.1 p.upload) ∙ (gone p.upload ended).1) in
            subst (FitsCompletion x) (sym (due ∙ ap (λ o. complete_answer (named_from 1 p.tags)
            (joined o (named_from 1 p.tags) s.scene.content.minimum)) none)) lost
        | inr open_one ↦
            let mine : m.ended v.written.drawn.upload ≡ false = ap m.ended (sym (ap (λ (z : Pending). z.upload) v.is)) ∙ open_one in
            let whole = completed j h v.by v.file v.mine v.written mine (h.kept v.by v.has_sent) in
            subst (λ (z : Pending). FitsCompletion x (answer s.scene (completion z))) (sym v.is) (subst (FitsCompletion x) (sym whole) tt)
      ]

  completion_fits : Gone w s.scene.content m → (sets : Sets) (x : Turn) (xs : List Turn) (finished : List ℕ)
      → Reads w minimum m.publish_sent m.drawn sets → Tabled w (Completing sets x xs finished) → Turns m (Completing sets x xs finished)
      → FitsCompletion x (answer s.scene (completion (nth (all_commits sets) x.number)))
  completion_fits gone sets x xs finished reads tabled turns = elim (true_or_false x.lost) [
    | inr fresh ↦ subst (FitsCompletion x) (sym (turn_answered w minimum s m j h sets x xs finished reads tabled turns fresh)) tt
    | inl lost ↦
        let low = tabled.within x (inl refl) in
        lost_fits gone x lost (nth (all_commits sets) x.number) (of_sets j h sets reads (nth (all_commits sets) x.number)
        (nth_of (all_commits sets) x.number low)).1.commit
  ]

  -- The answer to an abort is never that the bucket does not exist.
  abort_there : (o : Option Upload) → abort_answer o ≡ Refused NoSuchBucket → ⊥
  abort_there o e = grind arith

  revert_fits : (p : Pending) → IsCommit w minimum m.publish_sent m.drawn p → (r : Request) → (r ≡ abort p) ⊎ (r ≡ deletion p)
      → answer s.scene r ≡ Refused NoSuchBucket → ⊥
  revert_fits p v r (inl is) e = abort_there (live h.there.0.uploads p.destination p.upload)
      (sym (answer_is w s.scene h.there.0 h.there.1 (abort p) (ap (λ (z : Pending). z.bucket) v.is)) ∙ ap (answer s.scene) (sym is) ∙ e)
  revert_fits p v r (inr is) e = cc (answer_is w s.scene h.there.0 h.there.1 (deletion p) (ap (λ (z : Pending). z.bucket) v.is), is, e)

  put_there : (key bytes : List ℕ) → answer s.scene (PutObject w.dest.bucket key bytes None) ≡ Refused NoSuchBucket → ⊥
  put_there key bytes e = cc (answer_is w s.scene h.there.0 h.there.1 (PutObject w.dest.bucket key bytes None) refl, e)

-- The answer that S3 must give to the current request fits.
module _ (w : Script) (minimum : ℕ) (s : Seen) (m : Told) (j : IsLegal w) (few : s.scene.content.next ≤ 2 ^ 64) where
  reply_fits : (c : Commit) → Commits w minimum s m c → SetStands w s c → (picked : List ℕ) (r : Request)
      → commit_wants (committing w picked c) ≡ Some r → FitsReply (job_of w) c (answer s.scene r)
  reply_fits (Fetching sets n) v stands picked r e =
      let is : set_request w.committer w (length sets) ≡ r = sym (same_read w.committer w sets (length sets)) ∙ some_is e in
      subst (λ q. SpellsSet (job_of w) (length sets) (set_read (answer s.scene q))) is
      (set_fits w minimum s m j v.hold few (length sets) v.fits.0 stands.0 stands.1)
  reply_fits (Replacing sets p ps t n) v stands picked r e = subst (λ q. FitsSweep t (answer s.scene q)) (some_is e)
      (sweep_fits w s.scene v.hold.there p t)
  reply_fits (Completing sets x xs finished) v stands picked r e = subst (λ q. FitsCompletion x (answer s.scene q)) (some_is e)
      (completion_fits w minimum s m j v.hold v.gone sets x xs finished v.fits v.tabled v.turns)
  reply_fits (Marking sets n) v stands picked r e = λ g. put_there w minimum s m j v.hold _ _ (ap (answer s.scene) (some_is e) ∙ g)
  reply_fits (Reverting q qs n) v stands picked r e =
      let o = v.decides q (inl refl) in
      λ g. revert_fits w minimum s m j v.hold o.0 o.1 q o.2 (ap (answer s.scene) (some_is e) ∙ g)
  reply_fits (CommitOver end) v stands picked r e = absurd (none_some refl e)

  pub job_due : (c : Commit) → Commits w minimum s m c → SetStands w s c → (picked : List ℕ) (r : Request)
      → commit_wants (committing w picked c) ≡ Some r → (o : Outcome) → IsHonestOutcome o (answer s.scene r)
      → FitsCommit (committing w picked c) o
  job_due c v stands picked r e (Answered x) honest = subst (FitsReply (job_of w) c) (sym honest) (reply_fits c v stands picked r e)
  job_due c v stands picked r e _ honest = tt
