-- The first states of operations; and what an attempt sends leaves the driver's commit as it is.
use Rattle.text_and_lists.proofs.Members.{false_true, none_some}
use Rattle.text_and_lists.specs.Members.{IsIn}
use Rattle.job_invariant.proofs.Acting.{fits_checking, fits_writing}
use Rattle.job_invariant.proofs.Foreign.{reads_name}
use Rattle.job_invariant.proofs.Held.{fetching_so}
use Rattle.job_invariant.proofs.JobCommitting.{fits_course}
use Rattle.job_invariant.proofs.Legal.{files_apart}
use Rattle.job_invariant.proofs.Owning.{Asked, creates, operation_asked, reads, sends}
use Rattle.job_invariant.proofs.Whose.{same_or_another, who_here, who_other}
use Rattle.job_invariant.specs.Driver.{FitsJobCommit, IsHeldSet}
use Rattle.job_invariant.specs.Facts.{AreCommits, knowing}
use Rattle.job_invariant.specs.Fits.{Fits, FitsCommit, FitsWrite, IsOpen, Todo, Wrote}
use Rattle.job_invariant.specs.Told.{Told, known, tell_attempt}
use Rattle.job_model.specs.Attempts.{Who}
use Rattle.job_model.specs.JobScript.{Script}
use Rattle.job_model.specs.Known.{Drawn, Known}
use Rattle.job_model.specs.Legal.{IsLegal}
use Rattle.job_protocol.specs.JobCommits.{Commit, commit_start}
use Rattle.job_protocol.specs.Knowledge.{learn}
use Rattle.job_protocol.specs.Operations.{Operation, Setting, asks}
use Rattle.job_protocol.specs.Outputs.{files}
use Rattle.job_protocol.specs.Records.{files_set}
use Rattle.job_protocol.specs.Seen.{is_magic, is_staging}
use Rattle.job_protocol.specs.TaskCommits.{task_commit_start, task_commit_start_by, to_check}
use Rattle.job_protocol.specs.Writes.{WriteOver, write_start, write_start_by}
use Rattle.pending_json.specs.declared.records.PendingSet.{PendingSet}
use Rattle.s3_types.specs.declared.journal.Outcome.{Outcome}
use Rattle.s3_types.specs.declared.request.Committer.{Committer}
use Rattle.s3_types.specs.declared.request.Committer.TheVariants.{Magic}
use Rattle.s3_types.specs.declared.request.Request.{Request}
use Rattle.std.proofs.Common.{Bool, List, None, Option, Some, ap, arith, inl, inr, refl, subst, sym, true, ℕ, [], ◌∙◌, ◌≡◌}
use Rattle.job_model.specs.declared.ends.TaskEnd.TheVariants as tasks

-- ---- the first states of operations

-- An attempt that knows nothing has all its files to write.
all_todo : (w : Script) (minimum : ℕ) → IsLegal w → (a : Who) (ds : List Drawn) → ds ≡ [] → Todo w minimum a ds (files w a)
all_todo w minimum j a ds e = record {
  each = λ f i. i;
  once = files_apart j a;
  unknown = λ f i d k h. absurd
      (subst (λ (l : List Drawn). IsIn d l) e k);
  others = λ f i. inl i;
}

pub begins_write : (g : Setting) → IsLegal g.script → (m : Told) (a : Who) → m.drawn a ≡ [] → IsOpen (known m a)
    → FitsWrite g.script g.minimum a (known m a) (write_start g.script a)
begins_write g j m a e free = by g.script.committer refl
  where
    by : (c : Committer) → g.script.committer ≡ c → FitsWrite g.script g.minimum a (known m a) (write_start_by c (files g.script a))
    by Magic h = fits_writing g.script g.minimum a (known m a) (files g.script a) (ap is_magic h) free
        (all_todo g.script g.minimum j a (m.drawn a) e)
    by _ h = λ done. (free, subst (λ c. Wrote c g.script g.minimum a (m.drawn a)) (sym h) (all_todo g.script g.minimum j a (m.drawn a) e))

pub begins_commit : (g : Setting) → IsLegal g.script → (m : Told) (a : Who)
    → FitsWrite g.script g.minimum a (known m a) (WriteOver tasks.Done)
    → FitsCommit g.script g.minimum a (known m a) (task_commit_start g.script a)
begins_commit g j m a f = by g.script.committer refl
  where
    by : (c : Committer) → g.script.committer ≡ c → FitsCommit g.script g.minimum a (known m a) (task_commit_start_by c g.script a)
    by Magic h = (ap is_magic h, subst (λ c. Wrote c g.script g.minimum a (m.drawn a)) h (f refl).1, tt)
    by _ h = fits_checking g.script g.minimum a j (known m a) (to_check g.script a) (ap is_staging h) (f refl).0
        (subst (λ c. Wrote c g.script g.minimum a (m.drawn a)) h (f refl).1)

pub job_commit_begins : (w : Script) (minimum : ℕ) → IsLegal w → (m : Told) (missing : Option ℕ)
    → FitsJobCommit w minimum m.publish_sent m.drawn (commit_start w missing)
job_commit_begins w minimum j m None = fetching_so (fits_course j minimum m.publish_sent m.drawn) [] (λ t s e. absurd (none_some refl e))
job_commit_begins w minimum j m (Some t) = tt

-- ---- an attempt that has sent its publishing request learns no more

-- Once it was sent, it stays so.
learn_sent : (w : Script) (a : Who) (k : Known) (r : Request) (o : Outcome) → k.publish_sent ≡ true → (learn w a k r o).publish_sent ≡ true
learn_sent w a k r o h = grind arith

asked_frozen : {w : Script} {minimum : ℕ} {back : Bool} (a : Who) (m : Told) → m.publish_sent a ≡ true → (o : Outcome) (r : Request)
    → Asked w minimum a m back r → (learn w a (known m a) r o).drawn ≡ m.drawn a
asked_frozen {w = w} a m sent o _ (reads r h) = ap (λ k. k.drawn) ((reads_name r h).learns w a (known m a) o)
asked_frozen a m sent o _ (creates f free i fresh) = absurd (false_true free.0 sent)
asked_frozen a m sent o _ (sends f x bytes free i x_in key block) = absurd (false_true free.0 sent)
asked_frozen a m sent o _ _ = refl

module _ (g : Setting) (m : Told) (a : Who) (op : Operation) (fits : Fits g.script g.minimum a m op) (r : Request)
    (e : asks g a (known m a) op ≡ Some r) (o : Outcome) where
  abbrev now : Told
  now = tell_attempt g.script m a r o

  pub still_sent : (b : Who) → m.publish_sent b ≡ true → now.publish_sent b ≡ true
  still_sent b h = elim (same_or_another b a) [
    | inl is ↦ who_here m.publish_sent a (learn g.script a (known m a) r o).publish_sent b is ∙ learn_sent g.script a (known m a) r o
        (ap m.publish_sent (sym is) ∙ h)
    | inr ne ↦ who_other m.publish_sent a (learn g.script a (known m a) r o).publish_sent b ne ∙ h
  ]

  pub still_known : (b : Who) → m.publish_sent b ≡ true → m.drawn b ≡ now.drawn b
  still_known b h = elim (same_or_another b a) [
    | inl is ↦ sym (who_here m.drawn a (learn g.script a (known m a) r o).drawn b is ∙ asked_frozen a m (ap m.publish_sent (sym is) ∙ h) o r
        (operation_asked g m a op fits r e) ∙ ap m.drawn (sym is))
    | inr ne ↦ sym (who_other m.drawn a (learn g.script a (known m a) r o).drawn b ne)
  ]

  held_still : (t : ℕ) (s : PendingSet) → IsHeldSet g.script g.minimum m.publish_sent m.drawn t s
      → IsHeldSet g.script g.minimum now.publish_sent now.drawn t s
  held_still t s h =
      let same = still_known h.by h.has_sent in
      record {
        by = h.by;
        task = h.task;
        number = h.number;
        has_sent = still_sent h.by h.has_sent;
        commits = h.commits;
        are = subst (λ ds. AreCommits g.script g.minimum ds h.by h.commits) same h.are;
        is = h.is ∙ ap (λ ds. files_set g.script h.by h.commits (knowing ds)) same;
      }

  -- The driver's commit is as it was.
  pub beside : (c : Commit) → FitsJobCommit g.script g.minimum m.publish_sent m.drawn c
      → FitsJobCommit g.script g.minimum now.publish_sent now.drawn c
  beside c h = grind (arith, held_still)
