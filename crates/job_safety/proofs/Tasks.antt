-- How attempts' operations end in a run, and that a commit that is done has published.
use Rattle.text_and_lists.proofs.Members.{false_true, none_some, some_is}
use Rattle.job_invariant.proofs.Whose.{attempt}
use Rattle.job_model.specs.Attempts.{Who}
use Rattle.job_model.specs.Known.{Known}
use Rattle.job_model.specs.Legal.{IsLegal}
use Rattle.job_model.specs.declared.ends.TaskEnd.{TaskEnd}
use Rattle.job_model.specs.declared.events.Op.{Op}
use Rattle.job_outcomes.proofs.Gone.{done_published, gone_cleaned}
use Rattle.job_outcomes.proofs.RunEntries.{run_entries}
use Rattle.job_outcomes.proofs.TaskEnds.{task_ends, task_joined}
use Rattle.job_outcomes.specs.TaskEnds.{is_abort}
use Rattle.job_protocol.specs.Knowledge.{knows}
use Rattle.job_protocol.specs.Operations.{Operation, Reports, Running, Setting, TheTaskCommit, advance, over, start_of, tells}
use Rattle.job_protocol.specs.TaskCommits.{TaskCommitOver, task_commit_over}
use Rattle.job_safety.proofs.Ending.{Ending, ahead_none, ending, journal_until, until_strange}
use Rattle.job_safety.proofs.Sorts.{memory_task}
use Rattle.job_safety.proofs.Spans.{known_is}
use Rattle.job_safety.proofs.Strange.{strange_last}
use Rattle.job_safety.specs.RunsKeep.{PublishesAmong, TasksEndAmong}
use Rattle.job_spec.specs.Ends.{has_cleaned}
use Rattle.job_spec.specs.Follows.{known_then}
use Rattle.job_spec.specs.OperationEnds.{TaskIs, WasPublished}
use Rattle.job_spec.specs.Promise.{setting}
use Rattle.job_spec.specs.States.{Doing, clean_event, times}
use Rattle.job_spec.specs.Turns.{by_actor, until, until_last}
use Rattle.script_steps.proofs.Running.{is_run}
use Rattle.script_steps.specs.Running.{IsRun, operation_of}
use Rattle.script_steps.specs.Transitions.{Closes, Play, Reachable, happen, happens}
use Rattle.protocol_runs.specs.Runs.{IsOpening}
use Rattle.retries.specs.Operation.{run}
use Rattle.retries.specs.Worn.{WornFirst}
use Rattle.s3_types.specs.Store.{Content}
use Rattle.s3_types.specs.declared.journal.Entry.{Entry}
use Rattle.s3_types.specs.declared.journal.Outcome.{Outcome}
use Rattle.s3_types.specs.declared.request.Actor.TheVariants.{Attempt}
use Rattle.s3_types.specs.declared.request.Request.{Request}
use Rattle.std.proofs.Common.{Bool, List, None, Option, Some, ap, arith, false, inl, inr, refl, subst, sym, true, ℕ, [], ◌+◌, ◌∙◌, ◌∷◌, ◌≡◌}
use Rattle.std.specs.Option.{option_map}
use Rattle.job_model.specs.declared.events.Op.TheVariants as ops
use Rattle.job_model.specs.declared.ends.TaskEnd.TheVariants as tasks
use Rattle.job_model.specs.declared.ends.OpEnd.TheVariants as ends

-- ---- the kind of an operation

abort_tells : (g : Setting) (a : Who) (op : Operation) (o : Outcome) → is_abort (tells g a op o) ≡ is_abort op
abort_tells g a op o = grind arith

abort_run : (g : Setting) (t n : ℕ) (m : Running) (es : List Entry)
    → is_abort (run (advance g (Attempt t n)) m es).operation ≡ is_abort m.operation
abort_run g t n m [] = refl
abort_run g t n m (e ∷ es) = abort_run g t n (advance g (Attempt t n) m e.outcome) es ∙ abort_tells g (attempt t n) m.operation e.outcome

no_abort : (g : Setting) (t n : ℕ) (op : Op) (reports : Reports) (k : Known) (m : Operation)
    → start_of g (Attempt t n) op reports k ≡ Some m → (op ≡ ops.Abort → ⊥) → is_abort m ≡ false
no_abort g t n op reports k m h e = grind arith

abbrev IsTaskCommit : Operation → Type 0
IsTaskCommit (TheTaskCommit t) = Unit {0}
IsTaskCommit _ = ⊥

commit_tells : (g : Setting) (a : Who) (op : Operation) (o : Outcome) → IsTaskCommit op → IsTaskCommit (tells g a op o)
commit_tells g a op o h = grind arith

commit_run : (g : Setting) (t n : ℕ) (m : Running) (es : List Entry) → IsTaskCommit m.operation
    → IsTaskCommit (run (advance g (Attempt t n)) m es).operation
commit_run g t n m [] h = h
commit_run g t n m (e ∷ es) h = commit_run g t n (advance g (Attempt t n) m e.outcome) es
    (commit_tells g (attempt t n) m.operation e.outcome h)

-- A commit that is done.
abbrev IsDoneCommit : Operation → Type 0
IsDoneCommit op = (spare : ℕ) × (repeated : Bool) × (op ≡ TheTaskCommit
    (record { operation = TaskCommitOver tasks.Done; spare = spare; repeated = repeated }))

done_commit : (op : Operation) → IsTaskCommit op → over op ≡ Some (ends.Task tasks.Done) → IsDoneCommit op
done_commit (TheTaskCommit t) h e =
    (elim t.operation as (λ v. option_map ends.Task (task_commit_over v) ≡ Some (ends.Task tasks.Done)
    → IsDoneCommit (TheTaskCommit (record { operation = v; spare = t.spare; repeated = t.repeated }))) [
      | TaskCommitOver end ↦ λ e. let is : end ≡ tasks.Done = cc in (
        t.spare,
        t.repeated,
        ap
            (λ v. TheTaskCommit (record { operation = TaskCommitOver v; spare = t.spare; repeated = t.repeated })) is,
      )
      | _ ↦ λ e. absurd (none_some refl e)
    ]) e
done_commit _ h e = absurd h

module _ (g : Setting) (opening : Content) (j : IsLegal g.script) (is_opening : IsOpening g opening) (x : Play)
    (run_x : Reachable g opening x) (idle : x.now ≡ None) where
  module _ (i t a : ℕ) (d : Doing) (e : TaskEnd) (es : List Entry) (n : Ending g opening x i (Attempt t a) d (ends.Task e) es) where
    abbrev z : Play
    z = n.closed.at

    abbrev k : Known
    k = known_then g (Attempt t a) d (by_actor (Attempt t a) z.journal)

    abbrev at : Operation
    at = (run (advance g (Attempt t a)) (record { operation = n.op; known = k }) es).operation

    -- The run at the end of the event.
    then : IsRun g opening (happen g z (Closes n.event_end)) (times g.script x.ends)
    then = is_run g opening j is_opening (happen g z (Closes n.event_end)) (happens z (Closes n.event_end) n.closed.happened n.closed.may)
        x.ends (n.closed.ahead x.ends (ahead_none x idle))

    is_at : then.stand.attempts (attempt t a) ≡ Some at
    is_at = then.attempts (attempt t a) ∙ ap operation_of n.running

    -- Whether the driver's abort or clean had begun before the attempt's last entry.
    abbrev cleaned : Bool
    cleaned = has_cleaned (clean_event g.script x.ends) (until_last (Attempt t a) (until (i + 1) x.journal))

    cleaned_then : cleaned ≡ has_cleaned then.stand.told.cleans_at (until_last (Attempt t a) z.journal)
    cleaned_then =
        ap (λ l. has_cleaned (clean_event g.script x.ends) (until_last (Attempt t a) l))
        (journal_until g opening x run_x idle i n.event_end n.closed)
        ∙ ap (has_cleaned (clean_event g.script x.ends)) (strange_last (Attempt t a) refl z.journal (until (i + 1) n.closed.entries)
        (until_strange g opening x run_x idle i n.event_end n.closed))
        ∙ ap (λ c. has_cleaned c (until_last (Attempt t a) z.journal)) (sym then.cleans)

    gone_so : over at ≡ Some (ends.Task e) → (d.op ≡ ops.Abort → ⊥) → (name : List ℕ) → e ≡ tasks.Gone name → cleaned ≡ true
    gone_so o not_abort name is =
        cleaned_then
        ∙ gone_cleaned g (times g.script x.ends) opening j is_opening z.journal then.stand then.runs (attempt t a) at name is_at
        (abort_run g t a (record { operation = n.op; known = k }) es ∙ no_abort g t a d.op d.reports k n.op n.begun_is not_abort)
        (o ∙ ap (λ v. Some (ends.Task v)) is)

    task_so : over at ≡ Some (ends.Task e) → (worn : Option Request) × WornFirst g.script.retries es worn
        × TaskIs d.op g.script (attempt t a) es (known_then (setting g.script opening) (Attempt t a) d
        (by_actor (Attempt t a) x.journal)).publish_sent cleaned worn e
    task_so o =
        let r = task_ends g t a d.op d.reports k n.op n.begun_is es n.follows e o in (
          r.0,
          r.1,
          subst (λ (v : Known). TaskIs d.op g.script (attempt t a) es v.publish_sent cleaned r.0 e)
              (ap (knows g.script (attempt t a)) (sym (known_is g opening x i (Attempt t a) d (ends.Task e) es n)))
              (task_joined d.op g.script (attempt t a) es k.publish_sent cleaned r.0 e r.2 (gone_so o)),
        )

    -- A commit that is done.
    publishes_so : d.op ≡ ops.Commit → cleaned ≡ false → e ≡ tasks.Done → over at ≡ Some (ends.Task e)
        → WasPublished g.script opening x.journal t a (i + 1)
    publishes_so is clean done o =
        let first = subst IsTaskCommit (some_is (sym (ap (λ v. start_of g (Attempt t a) v d.reports k) is) ∙ n.begun_is)) tt in
        let c = done_commit at (commit_run g t a (record { operation = n.op; known = k }) es first)
        (subst (λ v. over at ≡ Some (ends.Task v)) done o) in
        let p = done_published g (times g.script x.ends) opening j is_opening z.journal then.stand then.runs (attempt t a) c.0 c.1
        (subst (λ v. then.stand.attempts (attempt t a) ≡ Some v) {y = TheTaskCommit
        (record { operation = TaskCommitOver tasks.Done; spare = c.0; repeated = c.1 })} c.2 is_at) (sym cleaned_then ∙ clean) in
        subst (λ l. WasPublished g.script opening l t a (i + 1)) (sym n.closed.all)
        (run_entries.published g.script opening z.journal n.closed.entries t a p.0 (i + 1) p.1 n.up_to)

  pub tasks_kept : TasksEndAmong g.script opening x.journal x.ends
  tasks_kept i t a d e es h =
      let n = ending g opening x run_x idle i (Attempt t a) refl d (ends.Task e) es h in
      elim n.ended [ inl memory ↦ inl (memory_task e memory) | inr o ↦ inr (task_so i t a d e es n o) ]

  pub publishes_kept : PublishesAmong g.script opening x.journal x.ends
  publishes_kept i t a d es h is clean =
      let n = ending g opening x run_x idle i (Attempt t a) refl d (ends.Task tasks.Done) es h in
      elim n.ended [ inl memory ↦ absurd (false_true refl memory) | inr o ↦ publishes_so i t a d tasks.Done es n is clean refl o ]
