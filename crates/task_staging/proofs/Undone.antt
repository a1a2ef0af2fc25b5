-- A staging attempt's abort after a reply, by how many of its uploads are aborted.
use Rattle.text_and_lists.proofs.Naturals.{below_is, below_not}
use Rattle.conflict.proofs.Deleting.{first_of}
use Rattle.job_model.specs.Jobs.{Task}
use Rattle.job_model.specs.Known.{Known}
use Rattle.job_model.specs.declared.ends.TaskEnd.{TaskEnd}
use Rattle.job_protocol.specs.AtWork.{task_script}
use Rattle.job_protocol.specs.Knowledge.{as_made}
use Rattle.job_protocol.specs.TaskAborts.{dropped, dropping, task_abort_hears, task_abort_start}
use Rattle.s3_types.specs.declared.reply.Reply.{Reply}
use Rattle.s3_types.specs.declared.request.Committer.{Committer}
use Rattle.s3_types.specs.declared.request.Committer.TheVariants.{Magic}
use Rattle.std.proofs.Common.{Bool, None, Option, Some, ap, arith, drop, false, length, nat_lt, refl, sym, true, ℕ, [], ◌+◌, ◌<◌, ◌||◌, ◌∙◌}
use Rattle.std.proofs.Common.{◌≡◌}
use Rattle.std.proofs.lemmas.List.{drop_all}
use Rattle.std.specs.Prelude.{if◌then◌else◌}
use Rattle.task_staging.specs.Undoing.{abort_by, abort_from}
use Rattle.task_staging.specs.inner.Undoing.{done_at, end_at}
use Rattle.job_model.specs.declared.ends.TaskEnd.TheVariants as ends

-- The abort after its last upload was aborted.
none_left : (c : Committer) (k : Known) (at : ℕ) (sent : Bool) → (c ≡ Magic → ⊥) → k.put_sent ≡ sent → drop at (as_made k.drawn) ≡ []
    → abort_by k at (if sent then None else Some ends.Done) ≡ dropped c sent
none_left c k at sent h g e = grind arith

pub done_is : (c : Committer) (k : Known) (at : ℕ) → (c ≡ Magic → ⊥)
    → abort_by k at (done_at k at) ≡ dropping c k.put_sent (drop at (as_made k.drawn))
done_is c k at n = by (nat_lt at (length (as_made k.drawn))) refl
  where
    by : (b : Bool) → nat_lt at (length (as_made k.drawn)) ≡ b
        → abort_by k at (if b || k.put_sent then None else Some ends.Done) ≡ dropping c k.put_sent (drop at (as_made k.drawn))
    by true e =
        let x = first_of (as_made k.drawn) at (below_is at (length (as_made k.drawn)) e) in
        ap (λ l. abort_from l k.put_sent) x.1 ∙ sym (ap (dropping c k.put_sent) x.1)
    by false e =
        let none : drop at (as_made k.drawn) ≡ [] = drop_all at (as_made k.drawn) (below_not at (length (as_made k.drawn)) e) in
        none_left c k at k.put_sent n refl none ∙ sym (ap (dropping c k.put_sent) none)

pub start_is : (t : Task) → (t.job.committer ≡ Magic → ⊥) → abort_by t.known 0 (end_at t.known) ≡ task_abort_start (task_script t) t.known
start_is t h = grind arith

pub goes_drawn : (t : Task) (at len : ℕ) (end now : Option TaskEnd) (r : Reply) → (t.job.committer ≡ Magic → ⊥) → end ≡ None
    → len ≡ length (as_made t.known.drawn) → at < len → now ≡ done_at t.known (at + 1)
    → abort_by t.known (at + 1) now ≡ task_abort_hears (task_script t) (abort_by t.known at end) r
goes_drawn t at len end now r n e l h d =
    let k = t.known in
    let x = first_of (as_made k.drawn) at (omega (arith, h, l)) in
    ap (abort_by k (at + 1)) d
    ∙ (done_is t.job.committer k (at + 1) n
    ∙ sym (ap (λ o. task_abort_hears (task_script t) (abort_by k at o) r) e ∙ ap
    (λ l. task_abort_hears (task_script t) (abort_from l k.put_sent) r) x.1))
