-- How an attempt's operations end, by its own entries alone.
use Rattle.text_and_lists.proofs.Members.{none_some, some_is}
use Rattle.job_invariant.proofs.Going.{step_so}
use Rattle.job_model.specs.Attempts.{Who, actor_of}
use Rattle.job_model.specs.Files.{File}
use Rattle.job_model.specs.JobScript.{Script}
use Rattle.job_model.specs.Known.{Known}
use Rattle.job_model.specs.declared.ends.TaskEnd.{TaskEnd}
use Rattle.job_model.specs.declared.events.Op.{Op}
use Rattle.job_protocol.proofs.Faults.{faults}
use Rattle.job_protocol.proofs.Wearing.{first_spent}
use Rattle.job_protocol.specs.Conflicts.{checks_partitions, partitions}
use Rattle.job_protocol.specs.OperationLaws.{is_fault, is_serial, spare_of}
use Rattle.job_protocol.specs.Operations.{Operation, Reports, Running, Setting, TheTaskAbort, TheTaskCommit, TheWrite, advance, asks, over}
use Rattle.job_protocol.specs.Operations.{start_of, tells, wants, who}
use Rattle.job_protocol.specs.Outputs.{files, paths_of}
use Rattle.job_protocol.specs.Uploading.{AllSent, GoesOn, IsGone, upload_hears}
use Rattle.job_spec.specs.OperationEnds.{TaskIs, TaskMay, WasListed}
use Rattle.list_walk.specs.Walks.{Walked, walked}
use Rattle.retries.specs.Operation.{Follows, run}
use Rattle.retries.specs.Retries.{spent_in}
use Rattle.retries.specs.Worn.{WornFirst}
use Rattle.s3_types.specs.declared.journal.Entry.{Entry}
use Rattle.s3_types.specs.declared.journal.Outcome.TheVariants.{Answered}
use Rattle.s3_types.specs.declared.reply.PageEntry.{PageEntry}
use Rattle.s3_types.specs.declared.reply.Reply.{Reply}
use Rattle.s3_types.specs.declared.reply.Reply.TheVariants.{Page}
use Rattle.s3_types.specs.declared.request.Actor.{Actor}
use Rattle.s3_types.specs.declared.request.Actor.TheVariants.{Attempt}
use Rattle.s3_types.specs.declared.request.Committer.{Committer}
use Rattle.s3_types.specs.declared.request.Committer.TheVariants.{Magic}
use Rattle.s3_types.specs.declared.request.Request.{Request}
use Rattle.s3_types.specs.declared.request.Request.TheVariants.{ListPage}
use Rattle.std.proofs.Common.{Bool, List, None, Option, Some, ap, append_assoc, arith, cond, false, inl, inr, refl, subst, sym, true, ℕ, []}
use Rattle.std.proofs.Common.{◌++◌, ◌∙◌, ◌∷◌, ◌≡◌, ◌⊎◌}
use Rattle.std.proofs.lemmas.List.Elements.{All-push, Contains-append_left, Contains-append_right, Contains-push}
use Rattle.std.specs.List.{All, Contains}
use Rattle.std.specs.Option.{is_some, option_map}
use Rattle.job_model.specs.declared.events.Op.TheVariants as ops
use Rattle.job_model.specs.declared.ends.TaskEnd.TheVariants as tasks
use Rattle.job_model.specs.declared.ends.OpEnd.TheVariants as ends
use Rattle.job_protocol.specs.Writes as writes
use Rattle.job_protocol.specs.TaskCommits as commits
use Rattle.job_protocol.specs.TaskAborts as aborts

-- The end is a fault, or one that the operation may have.
abbrev Ends : Op → Script → Who → List Entry → Bool → TaskEnd → Type 0
Ends op w a all sent e = (e ≡ tasks.StoreFault) ⊎ TaskMay op w a all sent true e

-- For an attempt, all entries of its operation, and whether it has sent its publishing request.
module _ (w : Script) (a : Who) (all : List Entry) (sent : Bool) where
  -- ---- a write

  abbrev Write : writes.Write → Type 0
  Write (writes.WriteOver end) = Ends ops.Write w a all sent end
  Write _ = Unit {0}

  write_so : (minimum : ℕ) (t : writes.Write) (r : Reply) → Write t → Write (writes.write_hears w minimum t r)
  write_so minimum t r h = grind arith

  write_begun : (c : Committer) (fs : List File) → Write (writes.write_start_by c fs)
  write_begun c fs = grind arith

  -- ---- a commit

  -- The commit must check, and has found no key below the partitions before these.
  record Checked (ds : List (List ℕ)) : Type 0 where
    pub checks : checks_partitions w.committer w.mode ≡ true
    pub before : List (List ℕ)
    pub parts : before ++ ds ≡ partitions (paths_of (files w a))
    pub free : All (λ b. WasListed w all b []) before

  abbrev Commit : commits.TaskCommit → Type 0
  Commit (commits.Checking d ds) = Checked (d ∷ ds)
  Commit (commits.TaskCommitOver end) = Ends ops.Commit w a all sent end
  Commit _ = Unit {0}

  reading_so : (cs fs : List File) → Commit (commits.reading cs fs)
  reading_so cs fs = grind arith

  looked_so : (x : Walked (List ℕ)) → Commit (commits.looked w a x)
  looked_so x = grind arith

  record_so : (cs : List File) (f : File) (fs : List File) (r : Reply) → Commit (commits.read_record w a cs f fs r)
  record_so cs f fs r = grind arith

  storing_so : (fs : List File) → Commit (commits.storing fs)
  storing_so fs = grind arith

  checking_so : (ds : List (List ℕ)) → Checked ds → Commit (commits.checking w a ds)
  checking_so ds h = grind arith

  -- By the entry whose answer is the page.
  module _ (d : List ℕ) (ds : List (List ℕ)) (e : Entry) (is_entry : Contains all e)
      (asked : e.request ≡ ListPage w.dest.bucket (commits.partition_prefix w d) false [] 1) (h : Checked (d ∷ ds)) where
    listed_so : (page : List PageEntry) (more : Bool) → e.outcome ≡ Answered (Page page more) → WasListed w all d page
    listed_so page more o = record { entry = e; is_entry = is_entry; asks = asked; more = more; answered = o }

    checked_so : (r : Reply) → e.outcome ≡ Answered r → Commit (commits.checked w a d ds r)
    checked_so (Page [] more) o = checking_so ds (record {
      checks = h.checks;
      before = h.before ++ d ∷ [];
      parts = append_assoc h.before (d ∷ []) ds ∙ h.parts;
      free = All-push (λ b. WasListed w all b []) h.before d h.free (listed_so [] more o);
    })
    checked_so (Page (x ∷ xs) more) o = inr (
      h.checks,
      record {
        before = h.before;
        rest = ds;
        parts = h.parts;
        free = h.free;
        key = x;
        others = xs;
        listed = listed_so (x ∷ xs) more o;
      },
    )
    checked_so _ o = h

  renamed_so : (r : Reply) (b : Bool) → Commit (commits.renamed w a r b)
  renamed_so r b = grind arith

  commit_so : (minimum : ℕ) (k : Known) (t : commits.TaskCommit) (e : Entry) → Contains all e
      → commits.task_commit_asks w a k t ≡ Some e.request → (r : Reply) (b : Bool) → e.outcome ≡ Answered r → Commit t
      → Commit (commits.task_commit_hears w minimum a t r b)
  commit_so minimum k (commits.Looking keys) e i asked r b o h = looked_so (walked keys r)
  commit_so minimum k (commits.Reading cs f fs) e i asked r b o h = record_so cs f fs r
  commit_so minimum k (commits.Publishing cs) e i asked r b o h = inr tt
  commit_so minimum k (commits.Checking d ds) e i asked r b o h = checked_so d ds e i (sym (some_is asked)) h r o
  commit_so minimum k (commits.Uploads f fs u) e i asked r b o h =
      elim (upload_hears w minimum f u r) as (λ v. Commit (commits.uploaded w f fs v))
      [ GoesOn v ↦ tt | AllSent ↦ storing_so fs | IsGone ↦ inr refl ]
  commit_so minimum k commits.Storing e i asked r b o h = tt
  commit_so minimum k commits.Renaming e i asked r b o h = renamed_so r b
  commit_so minimum k (commits.TaskCommitOver end) e i asked r b o h = h

  to_check_so : (b : Bool) → checks_partitions w.committer w.mode ≡ b
      → Commit (commits.checking w a (cond b (partitions (paths_of (files w a))) []))
  to_check_so b h = grind arith

  commit_begun : (c : Committer) → Commit (commits.task_commit_start_by c w a)
  commit_begun Magic = tt
  commit_begun _ = to_check_so (checks_partitions w.committer w.mode) refl

  -- ---- an abort

  abbrev Abort : aborts.TaskAbort → Type 0
  Abort (aborts.TaskAbortOver end) = Ends ops.Abort w a all sent end
  Abort _ = sent ≡ false

  abort_so : (t : aborts.TaskAbort) (r : Reply) → Abort t → Abort (aborts.task_abort_hears w t r)
  abort_so t r h = grind arith

abort_begun : (w : Script) (a : Who) (all : List Entry) (sent : Bool) (k : Known)
    → Abort w a all sent (aborts.task_abort_by sent w.committer k)
abort_begun w a all sent k = grind arith

-- ---- an attempt's operation

abbrev Op_is : Op → Script → Who → List Entry → Bool → Operation → Type 0
Op_is ops.Write w a all sent (TheWrite t) = Write w a all sent t.operation
Op_is ops.Commit w a all sent (TheTaskCommit t) = Commit w a all sent t.operation
Op_is ops.Abort w a all sent (TheTaskAbort t) = Abort w a all sent t.operation
Op_is _ w a all sent _ = ⊥

task_is : {d e : TaskEnd} → Some (ends.Task d) ≡ Some (ends.Task e) → d ≡ e
task_is e = cc

module _ (g : Setting) (a : Who) (all : List Entry) (sent : Bool) where
  goes : (op : Op) (m : Operation) (k : Known) (e : Entry) → Contains all e → asks g a k m ≡ Some e.request → Op_is op g.script a all sent m
      → Op_is op g.script a all sent (tells g a m e.outcome)
  goes ops.Write (TheWrite t) k e i asked h =
      step_so g.script.retries (writes.write_after g.script g.minimum) t e.outcome (Write g.script a all sent)
      (λ x o. write_so g.script a all sent g.minimum t.operation x h) (λ n. h) (λ n. inl refl)
  goes ops.Commit (TheTaskCommit t) k e i asked h =
      step_so g.script.retries (commits.task_commit_after g.script g.minimum a) t e.outcome (Commit g.script a all sent)
      (λ x o. commit_so g.script a all sent g.minimum k t.operation e i asked x t.repeated o h) (λ n. h) (λ n. inl refl)
  goes ops.Abort (TheTaskAbort t) k e i asked h =
      step_so g.script.retries (aborts.task_abort_after g.script) t e.outcome (Abort g.script a all sent)
      (λ x o. abort_so g.script a all sent t.operation x h) (λ n. h) (λ n. inl refl)
  goes _ _ k e i asked h = absurd h

  -- If the operation is over, its end is one of these.
  over_so : (op : Op) (m : Operation) → Op_is op g.script a all sent m → (e : TaskEnd) → over m ≡ Some (ends.Task e)
      → Ends op g.script a all sent e
  over_so op m h e g = grind arith

-- ---- it does not begin at fault

write_calm : (c : Committer) (fs : List File) → is_fault (option_map ends.Task (writes.write_over (writes.write_start_by c fs))) ≡ false
write_calm c fs = grind arith

-- A commit does not even begin as over.
pub commit_going : (c : Committer) (w : Script) (a : Who) → commits.task_commit_over (commits.task_commit_start_by c w a) ≡ None
commit_going c w a = grind arith

abort_calm : (sent : Bool) (c : Committer) (k : Known)
    → is_fault (option_map ends.Task (aborts.task_abort_over (aborts.task_abort_by sent c k))) ≡ false
abort_calm sent c k = grind arith

-- ---- by its entries

record Begun (g : Setting) (a : Who) (all : List Entry) (op : Op) (k : Known) (m : Operation) : Type 0 where
  pub serial : is_serial m ≡ true
  pub spare : spare_of m ≡ g.script.retries
  pub calm : is_fault (over m) ≡ false
  pub is : Op_is op g.script a all k.publish_sent m

begun : (g : Setting) (one : Who) (all : List Entry) (op : Op) (r : Reports) (k : Known) (m : Operation)
    → start_of g (actor_of one) op r k ≡ Some m → Begun g one all op k m
begun g one all ops.Write missing k m e = subst (Begun g one all ops.Write k) (some_is e)
    (record {
      serial = refl;
      spare = refl;
      calm = write_calm g.script.committer (files g.script one);
      is = write_begun g.script one all
          k.publish_sent g.script.committer (files g.script one);
    })
begun g one all ops.Commit missing k m e = subst (Begun g one all ops.Commit k) (some_is e)
    (record {
      serial = refl;
      spare = refl;
      calm = ap (λ o. is_fault (option_map ends.Task o))
          (commit_going g.script.committer g.script one);
      is = commit_begun g.script one all k.publish_sent g.script.committer;
    })
begun g one all ops.Abort missing k m e = subst (Begun g one all ops.Abort k) (some_is e)
    (record {
      serial = refl;
      spare = refl;
      calm = abort_calm k.publish_sent g.script.committer k;
      is = abort_begun g.script one all
          k.publish_sent k;
    })
begun g one all _ missing k m e = absurd (none_some refl e)

run_so : (g : Setting) (a : Actor) (all : List Entry) (sent : Bool) (op : Op) (m : Running) (es : List Entry)
    → ((e : Entry) → Contains es e → Contains all e) → Follows (wants g a) (advance g a) m es
    → Op_is op g.script (who a) all sent m.operation
    → Op_is op g.script (who a) all sent (run (advance g a) m es).operation
run_so g a all sent op m [] among f h = h
run_so g a all sent op m (e ∷ es) among f h =
    run_so g a all sent op (advance g a m e.outcome) es (λ x i. among x (Contains-append_right (e ∷ []) es x i)) f.1
    (goes g (who a) all sent op m.operation m.known e (among e (Contains-append_left (e ∷ []) es e (Contains-push [] e))) f.0 h)

fault_end : (e : TaskEnd) → is_fault (Some (ends.Task e)) ≡ true → e ≡ tasks.StoreFault
fault_end e h = grind arith

not_fault : (op : Op) (w : Script) (a : Who) (all : List Entry) (sent : Bool) (e : TaskEnd) → is_fault (Some (ends.Task e)) ≡ false
    → Ends op w a all sent e → TaskMay op w a all sent true e
not_fault op w a all sent e h g = grind arith

pub task_ends : (g : Setting) (t a : ℕ) (op : Op) (r : Reports) (k : Known) (m : Operation) → start_of g (Attempt t a) op r k ≡ Some m
    → (es : List Entry) → Follows (wants g (Attempt t a)) (advance g (Attempt t a)) (record { operation = m; known = k }) es
    → (e : TaskEnd) → over (run (advance g (Attempt t a)) (record { operation = m; known = k }) es).operation ≡ Some (ends.Task e)
    → (worn : Option Request) × WornFirst g.script.retries es worn
    × TaskIs op g.script (who (Attempt t a)) es k.publish_sent true worn e
task_ends g t a op missing k m start es f e is =
    let one : Who = who (Attempt t a) in
    let x : Running = record { operation = m; known = k } in
    let b = begun g one es op missing k m start in
    let worn = spent_in (advance g (Attempt t a)) (λ y. spare_of y.operation) x es in (
      worn,
      first_spent g (Attempt t a) x b.serial b.spare es f,
      by worn (sym (ap is_fault is) ∙ faults g (Attempt t a) x b.serial b.calm es f)
          (over_so g one es k.publish_sent op (run (advance g (Attempt t a)) x es).operation
          (run_so g (Attempt t a) es k.publish_sent op x es (λ e i. i) f b.is) e is),
    )
  where
    by : (worn : Option Request) → is_fault (Some (ends.Task e)) ≡ is_some worn → Ends op g.script (who (Attempt t a)) es k.publish_sent e
        → TaskIs op g.script (who (Attempt t a)) es k.publish_sent true worn e
    by (Some r) h d = fault_end e h
    by None h d = not_fault op g.script (who (Attempt t a)) es k.publish_sent e h d

-- ---- with what a run says of files that are gone

pub task_joined : (op : Op) (w : Script) (a : Who) (es : List Entry) (sent cleaned : Bool) (worn : Option Request) (e : TaskEnd)
    → TaskIs op w a es sent true worn e → ((op ≡ ops.Abort → ⊥) → (name : List ℕ) → e ≡ tasks.Gone name → cleaned ≡ true)
    → TaskIs op w a es sent cleaned worn e
task_joined op w a es sent cleaned worn e h g = grind arith
