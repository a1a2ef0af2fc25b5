-- An attempt's abort of its task keeps the facts with each of its requests, whatever becomes of it, and its state fits afterwards.
use Rattle.text_and_lists.proofs.Members.{false_true, in_append, in_filter}
use Rattle.text_and_lists.specs.Members.{IsIn}
use Rattle.job_invariant.proofs.Going.{Each, each_so, step_by}
use Rattle.job_invariant.proofs.Shapes.{more_keys, page_each, page_is}
use Rattle.job_invariant.specs.Facts.{Hold, IsAttempt}
use Rattle.job_invariant.specs.Fits.{AllOwn, FitsAbort}
use Rattle.job_invariant.specs.Told.{Told, known}
use Rattle.job_model.specs.Attempts.{Who}
use Rattle.job_model.specs.JobScript.{Script}
use Rattle.job_model.specs.Known.{Drawn, Known}
use Rattle.job_model.specs.Legal.{IsLegal}
use Rattle.job_model.specs.declared.ends.TaskEnd.{TaskEnd}
use Rattle.job_protocol.specs.Knowledge.{as_made, learn}
use Rattle.job_protocol.specs.Seen.{Seen, Times}
use Rattle.job_protocol.specs.TaskAborts.{Dropping, Removing, Sweeping, TaskAbort, TaskAbortOver, dropping, removing, sweeping}
use Rattle.job_protocol.specs.TaskAborts.{task_abort_after, task_abort_asks, task_abort_by, task_abort_hears, task_abort_start}
use Rattle.job_protocol.specs.TaskCommits.{attempt_prefix}
use Rattle.list_walk.specs.Walks.{Deleting, Listing, all_go, deleting, swept, walked_by}
use Rattle.retries.specs.Retries.{Retried, step}
use Rattle.s3_types.specs.Answer.{answer}
use Rattle.s3_types.specs.Moment.{IsHonestOutcome}
use Rattle.s3_types.specs.Pages.{begins}
use Rattle.s3_types.specs.declared.journal.Outcome.{Outcome}
use Rattle.s3_types.specs.declared.reply.Reply.{Reply}
use Rattle.s3_types.specs.declared.request.Committer.{Committer}
use Rattle.s3_types.specs.declared.request.Request.{Request}
use Rattle.std.proofs.Common.{Bool, List, Some, arith, drop, false, inl, inr, refl, subst, suc, sym, take, true, zero, ℕ, [], ◌∷◌, ◌≡◌}
use Rattle.std.specs.List.{filter}
use Rattle.job_model.specs.declared.ends.TaskEnd.TheVariants as tasks

pub taken : {X : Type 0} (n : ℕ) (xs : List X) (x : X) → IsIn x (take n xs) → IsIn x xs
taken zero xs x i = absurd i
taken (suc n) [] x i = absurd i
taken (suc n) (y ∷ xs) x (inl e) = inl e
taken (suc n) (y ∷ xs) x (inr i) = inr (taken n xs x i)

pub taken_in : (n : ℕ) (ks : List (List ℕ)) (k : List ℕ) → IsIn k (take n ks) → IsIn k ks
taken_in = taken

pub dropped_in : (n : ℕ) (ks : List (List ℕ)) (k : List ℕ) → IsIn k (drop n ks) → IsIn k ks
dropped_in zero ks k i = i
dropped_in (suc n) [] k i = absurd i
dropped_in (suc n) (q ∷ ks) k i = inr (dropped_in n ks k i)

module _ (w : Script) (a : Who) (k : Known) (unsent : k.publish_sent ≡ false) where
  -- An end other than Kept.
  fits_over : (end : TaskEnd) → (end ≡ tasks.Kept → ⊥) → FitsAbort w a k (TaskAbortOver end)
  fits_over end other = (λ e. absurd (other e), λ e. absurd (false_true unsent e))

  fits_removing : (sent : Bool) → FitsAbort w a k (removing sent)
  fits_removing sent = grind arith

  pub fits_dropping : (c : Committer) (sent : Bool) (ds : List Drawn) → ((e : Drawn) → IsIn e ds → IsIn e k.drawn)
      → FitsAbort w a k (dropping c sent ds)
  fits_dropping c sent ds h = grind arith

  fits_deleting : (keys : List (List ℕ)) → AllOwn w a keys → FitsAbort w a k (sweeping (deleting keys))
  fits_deleting [] h = fits_over tasks.Done (λ e. absurd cc)
  fits_deleting (q ∷ qs) h = (unsent, h)

  fits_walked : (more : Bool) (keys : List (List ℕ)) → AllOwn w a keys → FitsAbort w a k (sweeping (swept all_go (walked_by more keys)))
  fits_walked true keys h = (unsent, h)
  fits_walked false keys h = fits_deleting (filter all_go keys) (λ q i. h q (in_filter all_go q keys i).0)

-- The first state of an abort.
pub abort_fits : (w : Script) (a : Who) (k : Known) → FitsAbort w a k (task_abort_start w k)
abort_fits w a k =
    (elim k.publish_sent as (λ b. k.publish_sent ≡ b → FitsAbort w a k (task_abort_by b w.committer k))
    [ true ↦ λ e. (λ h. e, λ h. refl) | false ↦ λ e. fits_dropping w a k e w.committer k.put_sent (as_made k.drawn) (made_in k.drawn) ])
    refl
  where
    made_in : (ds : List Drawn) (e : Drawn) → IsIn e (as_made ds) → IsIn e ds
    made_in [] e i = absurd i
    made_in (d ∷ ds) e i = elim (in_append e (as_made ds) (d ∷ []) i) [
      | inl h ↦ inr (made_in ds e h)
      | inr h ↦ elim h
          [ inl is ↦ inl is | inr none ↦ absurd none ]
    ]

module _ (w : Script) (minimum : ℕ) (k : Times) (s : Seen) (m : Told) (a : Who) (n : ℕ) (j : IsLegal w) (d : IsAttempt w a)
    (h : Hold w minimum s m) where
  -- Its state fits after an answer.
  heard : (op : TaskAbort) → FitsAbort w a (known m a) op
      → Each (λ q. (x : Reply) → x ≡ answer s.scene q → FitsAbort w a (known m a) (task_abort_hears w op x)) (task_abort_asks w a op)
  heard (Dropping x xs sent) fits = λ y z. fits_dropping w a (known m a) fits.0 w.committer sent xs (λ v i. fits.1 v (inr i))
  heard (Sweeping (Listing keys)) fits = λ x e.
      let p = attempt_prefix w a in
      subst (λ y. FitsAbort w a (known m a) (sweeping (swept all_go y))) (sym (page_is w s.scene h.there p keys x e))
      (fits_walked w a (known m a) fits.0 _ (more_keys w s.scene h.there p keys)
      (page_each w s.scene h.there p keys (λ k. begins p k ≡ true) (λ k b. b) fits.1))
  heard (Sweeping (Deleting q qs)) fits = λ y z. fits_deleting w a (known m a) fits.0 (drop 1000 (q ∷ qs))
      (λ x i. fits.1 x (dropped_in 1000 (q ∷ qs) x i))
  heard Removing fits = λ y z. fits_over w a (known m a) fits tasks.Done (λ v. absurd cc)
  heard (TaskAbortOver end) fits = tt

  unsent : (op : TaskAbort) → FitsAbort w a (known m a) op → Each (λ q. m.publish_sent a ≡ false) (task_abort_asks w a op)
  unsent op h = grind arith

  learns : (op : TaskAbort) (o : Outcome) → Each (λ q. learn w a (known m a) q o ≡ known m a) (task_abort_asks w a op)
  learns op o = grind arith

  pub abort_goes : (retries : ℕ) (t : Retried TaskAbort) → FitsAbort w a (known m a) t.operation → (r : Request)
      → task_abort_asks w a t.operation ≡ Some r → (o : Outcome) → IsHonestOutcome o (answer s.scene r)
      → FitsAbort w a (learn w a (known m a) r o) (step retries (task_abort_after w) t o).operation
  abort_goes retries t fits r e o honest =
      subst (λ k. FitsAbort w a k (step retries (task_abort_after w) t o).operation)
      (sym (each_so (λ q. learn w a (known m a) q o ≡ known m a) r e (learns t.operation o)))
      (step_by (λ v. FitsAbort w a (known m a)) retries (task_abort_after w) t (answer s.scene r) o honest
      (each_so (λ q. (x : Reply) → x ≡ answer s.scene q → FitsAbort w a (known m a) (task_abort_hears w t.operation x)) r e
      (heard t.operation fits)) (λ none. fits)
      (λ none. fits_over w a (known m a) (each_so (λ q. m.publish_sent a ≡ false) r e (unsent t.operation fits)) tasks.StoreFault
      (λ z. absurd cc)))
