-- The kind of an operation, from its beginning to its end.
use Rattle.text_and_lists.proofs.Options.{end_of}
use Rattle.job_model.specs.Attempts.{Who}
use Rattle.job_model.specs.Known.{Known}
use Rattle.job_model.specs.declared.ends.CheckEnd.{CheckEnd}
use Rattle.job_model.specs.declared.ends.CleanEnd.{CleanEnd}
use Rattle.job_model.specs.declared.ends.CommitEnd.{CommitEnd}
use Rattle.job_model.specs.declared.ends.OpEnd.{OpEnd}
use Rattle.job_model.specs.declared.ends.SetupEnd.{SetupEnd}
use Rattle.job_model.specs.declared.ends.TaskEnd.{TaskEnd}
use Rattle.job_model.specs.declared.events.Op.{Op}
use Rattle.job_protocol.proofs.Begun.{commit_of_so}
use Rattle.job_protocol.specs.Cleanups.{clean_over}
use Rattle.job_protocol.specs.JobCommits.{commit_over}
use Rattle.job_protocol.specs.Operations.{Operation, Reports, Running, Setting, TheCheck, TheClean, TheCommit, TheSetup, TheSparing}
use Rattle.job_protocol.specs.Operations.{advance, clean_of, commit_of, over, start_of, tells, who}
use Rattle.job_protocol.specs.Rechecks.{check_over}
use Rattle.job_protocol.specs.Setup.{setup_over, setup_start}
use Rattle.job_protocol.specs.Sparing.{sparing_over}
use Rattle.job_spec.specs.Turns.{is_memory}
use Rattle.retries.specs.Operation.{run}
use Rattle.retries.specs.Retries.{fresh}
use Rattle.s3_types.specs.declared.journal.Entry.{Entry}
use Rattle.s3_types.specs.declared.journal.Outcome.{Outcome}
use Rattle.s3_types.specs.declared.request.Actor.{Actor}
use Rattle.s3_types.specs.declared.request.Actor.TheVariants.{Driver}
use Rattle.std.proofs.Common.{List, Some, ap, arith, refl, true, [], ◌∙◌, ◌∷◌, ◌≡◌, ◌⊎◌}
use Rattle.job_model.specs.declared.events.Op.TheVariants as ops
use Rattle.job_model.specs.declared.ends.SetupEnd.TheVariants as setups
use Rattle.job_model.specs.declared.ends.TaskEnd.TheVariants as tasks
use Rattle.job_model.specs.declared.ends.CommitEnd.TheVariants as commits
use Rattle.job_model.specs.declared.ends.CleanEnd.TheVariants as cleans
use Rattle.job_model.specs.declared.ends.CheckEnd.TheVariants as checks
use Rattle.job_model.specs.declared.ends.OpEnd.TheVariants as ends

pub data Kind : Type 0 where
  OfSetup : Kind
  OfTask : Kind
  OfCommit : Kind
  OfClean : Kind
  OfNone : Kind

abbrev pub kind : Operation → Kind
kind (TheSetup t) = OfSetup
kind (TheCheck t) = OfCommit
kind (TheCommit c) = OfCommit
kind (TheClean t) = OfClean
kind (TheSparing t) = OfClean
kind _ = OfTask

abbrev pub end_kind : OpEnd → Kind
end_kind (ends.Setup e) = OfSetup
end_kind (ends.Clean e) = OfClean
end_kind (ends.Task e) = OfTask
end_kind ends.NoMemory = OfNone
end_kind _ = OfCommit

pub over_kind : (op : Operation) (e : OpEnd) → over op ≡ Some e → kind op ≡ end_kind e
over_kind (TheSetup t) e o = ap end_kind (end_of ends.Setup (setup_over t.operation) e o).2
over_kind (TheCommit c) e o = ap end_kind (end_of ends.Commit (commit_over c) e o).2
over_kind (TheClean t) e o = ap end_kind (end_of ends.Clean (clean_over t.operation) e o).2
over_kind (TheCheck t) e o = ap end_kind (end_of ends.Check (check_over t.operation) e o).2
over_kind (TheSparing t) e o = ap end_kind (end_of ends.Clean (sparing_over t.operation) e o).2
over_kind _ e o = ap end_kind (end_of ends.Task _ e o).2

kind_tells : (g : Setting) (a : Who) (op : Operation) (o : Outcome) → kind (tells g a op o) ≡ kind op
kind_tells g a op o = grind arith

pub kind_run : (g : Setting) (a : Actor) (m : Running) (es : List Entry) → kind (run (advance g a) m es).operation ≡ kind m.operation
kind_run g a m [] = refl
kind_run g a m (e ∷ es) = kind_run g a (advance g a m e.outcome) es ∙ kind_tells g (who a) m.operation e.outcome

-- ---- the driver's operations, by their kind

commit_kind : (g : Setting) (r : Reports) → kind (commit_of g r) ≡ OfCommit
commit_kind g r = commit_of_so g (λ op. kind op ≡ OfCommit) (λ missing. refl) (λ t. refl) r

pub driver_setup : (g : Setting) (op : Op) (reports : Reports) (k : Known) (m : Operation) → start_of g Driver op reports k ≡ Some m
    → kind m ≡ OfSetup → m ≡ TheSetup (fresh g.script.retries setup_start)
driver_setup g op reports k m h e = grind arith

-- A commit, or the check before it; and an abort or clean.
pub driver_commit : (g : Setting) (op : Op) (reports : Reports) (k : Known) (m : Operation) → start_of g Driver op reports k ≡ Some m
    → kind m ≡ OfCommit → (op ≡ ops.Commit) × (m ≡ commit_of g reports)
driver_commit g op reports k m h e = grind arith

pub driver_clean : (g : Setting) (op : Op) (reports : Reports) (k : Known) (m : Operation) → start_of g Driver op reports k ≡ Some m
    → kind m ≡ OfClean → ((op ≡ ops.Abort) ⊎ (op ≡ ops.Clean)) × (m ≡ clean_of g)
driver_clean g op reports k m h e = grind arith

-- ---- ends because memory ran out

pub memory_setup : (e : SetupEnd) → is_memory (ends.Setup e) ≡ true → e ≡ setups.NoMemory
memory_setup e h = grind arith

pub memory_commit : (e : CommitEnd) → is_memory (ends.Commit e) ≡ true → e ≡ commits.NoMemory
memory_commit e h = grind arith

pub memory_check : (e : CheckEnd) → is_memory (ends.Check e) ≡ true → e ≡ checks.NoMemory
memory_check e h = grind arith

pub memory_clean : (e : CleanEnd) → is_memory (ends.Clean e) ≡ true → e ≡ cleans.NoMemory
memory_clean e h = grind arith

pub memory_task : (e : TaskEnd) → is_memory (ends.Task e) ≡ true → e ≡ tasks.NoMemory
memory_task e h = grind arith
