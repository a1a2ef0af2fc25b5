-- An operation that sends one request at a time ends with StoreFault exactly if one of its requests ran out of retries.
use Rattle.job_model.specs.Attempts.{Who}
use Rattle.job_model.specs.JobScript.{Script}
use Rattle.job_model.specs.declared.ends.OpEnd.{OpEnd}
use Rattle.job_protocol.proofs.Tabled.{goes_on}
use Rattle.job_protocol.proofs.Wearing.{stays_serial}
use Rattle.job_protocol.specs.OperationLaws.{OneOf, is_fault, is_serial, spare_of}
use Rattle.job_protocol.specs.Operations.{Operation, Running, Setting, advance, over, tells, wants, who}
use Rattle.list_walk.specs.Walks.{Walked, all_go, sweep_hears, walked}
use Rattle.retries.specs.Operation.{Follows, run}
use Rattle.retries.specs.Retries.{is_zero, spent_in}
use Rattle.retries.specs.Worn.{was_answered}
use Rattle.s3_types.specs.declared.journal.Entry.{Entry}
use Rattle.s3_types.specs.declared.journal.Outcome.{Outcome}
use Rattle.s3_types.specs.declared.reply.Reply.{Reply}
use Rattle.s3_types.specs.declared.request.Actor.{Actor}
use Rattle.s3_types.specs.declared.request.Committer.{Committer}
use Rattle.s3_types.specs.declared.request.Request.{Request}
use Rattle.s3_types.specs.declared.request.UploadRef.{UploadRef}
use Rattle.std.proofs.Common.{Bool, List, None, Option, Some, arith, cond, drop, false, is_some, not, refl, suc, true, zero, ℕ, [], ◌&&◌}
use Rattle.std.proofs.Common.{◌∷◌, ◌≡◌}
use Rattle.std.specs.Option.{option_map}
use Rattle.job_model.specs.declared.ends.OpEnd.TheVariants as ends
use Rattle.job_model.specs.declared.ends.SetupEnd.TheVariants as setups
use Rattle.job_protocol.specs.Setup as setup
use Rattle.job_protocol.specs.Writes as writes
use Rattle.job_protocol.specs.TaskCommits as tasks
use Rattle.job_protocol.specs.TaskAborts as aborts
use Rattle.job_protocol.specs.Cleanups as cleans
use Rattle.job_protocol.specs.Sparing as sparing

-- ---- no reply leads to StoreFault

-- A set-up goes on, or ends because the bucket does not exist.
pub if_bucket_so : (P : setup.Setup → Type 0) (r : Reply) (next : setup.Setup) → P (setup.SetupOver setups.NoSuchBucket) → P next
    → P (setup.if_bucket r next)
if_bucket_so P r next over on = elim (setup.lacks_bucket r) as (λ b. P (cond b (setup.SetupOver setups.NoSuchBucket) next))
    [ true ↦ over | false ↦ on ]

abbrev SetupCalm : setup.Setup → Type 0
SetupCalm s = is_fault (option_map ends.Setup (setup.setup_over s)) ≡ false

checked_calm : (w : Script) (keys : List (List ℕ)) (r : Reply) → SetupCalm (setup.checked w keys r)
checked_calm w keys r = grind arith

setup_calm : (w : Script) (s : setup.Setup) (r : Reply) → SetupCalm s → SetupCalm (setup.setup_hears w s r)
setup_calm w setup.Heading r h = if_bucket_so SetupCalm r (setup.headed w r) refl (grind arith)
setup_calm w (setup.Checking keys) r h = if_bucket_so SetupCalm r (setup.checked w keys r) refl (checked_calm w keys r)
setup_calm w setup.Clearing r h = if_bucket_so SetupCalm r (setup.cleared w.committer) refl (grind arith)
setup_calm w (setup.Sweeping s) r h = if_bucket_so SetupCalm r (setup.sweeping (sweep_hears all_go s r)) refl
    (elim (sweep_hears all_go s r) as (λ o. SetupCalm (setup.sweeping o)) [ Some t ↦ refl | None ↦ refl ])
setup_calm w (setup.SetupOver end) r h = h

abbrev WriteCalm : writes.Write → Type 0
WriteCalm s = is_fault (option_map ends.Task (writes.write_over s)) ≡ false

write_calm : (w : Script) (minimum : ℕ) (s : writes.Write) (r : Reply) → WriteCalm s → WriteCalm (writes.write_hears w minimum s r)
write_calm w minimum s r h = grind arith

abbrev TaskCalm : tasks.TaskCommit → Type 0
TaskCalm s = is_fault (option_map ends.Task (tasks.task_commit_over s)) ≡ false

task_calm : (w : Script) (minimum : ℕ) (a : Who) (s : tasks.TaskCommit) (r : Reply) (b : Bool) → TaskCalm s
    → TaskCalm (tasks.task_commit_hears w minimum a s r b)
task_calm w minimum a s r b h = grind arith

abbrev AbortCalm : aborts.TaskAbort → Type 0
AbortCalm s = is_fault (option_map ends.Task (aborts.task_abort_over s)) ≡ false

abort_calm : (w : Script) (s : aborts.TaskAbort) (r : Reply) → AbortCalm s → AbortCalm (aborts.task_abort_hears w s r)
abort_calm w s r h = grind arith

abbrev CleanCalm : cleans.Clean → Type 0
CleanCalm s = is_fault (option_map ends.Clean (cleans.clean_over s)) ≡ false

clean_calm : (w : Script) (s : cleans.Clean) (r : Reply) → CleanCalm s → CleanCalm (cleans.clean_hears w s r)
clean_calm w s r h = grind arith

abbrev SparingCalm : sparing.Sparing → Type 0
SparingCalm s = is_fault (option_map ends.Clean (sparing.sparing_over s)) ≡ false

read_calm : (c : Committer) (us : List UploadRef) (ps all : List (List ℕ)) → SparingCalm (sparing.reading_on c us ps all)
read_calm c us ps all = grind arith

keyed_calm : (c : Committer) (x : Walked (List ℕ)) → SparingCalm (sparing.walking c x)
keyed_calm c x = grind arith

listed_calm : (c : Committer) (r : Reply) → SparingCalm (sparing.naming c r)
listed_calm c r = grind arith

sparing_calm : (w : Script) (s : sparing.Sparing) (r : Reply) → SparingCalm s → SparingCalm (sparing.sparing_hears w s r)
sparing_calm w (sparing.Walking keys) r h = keyed_calm w.committer (walked keys r)
sparing_calm w sparing.Naming r h = listed_calm w.committer r
sparing_calm w (sparing.Reading us p ps all) r h = read_calm w.committer _ ps all
sparing_calm w (sparing.Deleting k ks) r h = elim (drop 1000 (k ∷ ks)) as (λ l. SparingCalm (sparing.deleting l))
    [ [] ↦ refl | x ∷ xs ↦ refl ]
sparing_calm w s r h = grind arith

abbrev Calm : Operation → Type 0
Calm op = is_fault (over op) ≡ false

answered_calm : (g : Setting) (a : Who) (op : Operation) (o : Outcome) → was_answered o ≡ true → is_serial op ≡ true → Calm op
    → Calm (tells g a op o)
answered_calm g a op o b s h = grind (arith, setup_calm, write_calm, task_calm, abort_calm, clean_calm, sparing_calm)

-- ---- a send without an answer, with retries left and with none left

missed_calm : (g : Setting) (a : Who) (op : Operation) (o : Outcome) (n : ℕ) → was_answered o ≡ false → spare_of op ≡ suc n
    → is_serial op ≡ true → Calm op → Calm (tells g a op o)
missed_calm g a op o n b e s h = grind arith

worn_fault : (g : Setting) (a : Who) (op : Operation) (o : Outcome) → was_answered o ≡ false → spare_of op ≡ zero → is_serial op ≡ true
    → is_fault (over (tells g a op o)) ≡ true
worn_fault g a op o b e s = grind arith

-- An operation that is over has no next request.
none_by : (o : Option Request) (p : Option OpEnd) → OneOf o p → is_fault p ≡ true → o ≡ None
none_by o p h g = grind arith

-- ---- the law

module _ (g : Setting) (a : Actor) where
  abbrev Same : Running → List Entry → Type 0
  Same m es = is_fault (over (run (advance g a) m es).operation) ≡ is_some (spent_in (advance g a) (λ x. spare_of x.operation) m es)

  abbrev Holds : Running → List Entry → Type 0
  Holds m es = is_serial m.operation ≡ true → Calm m.operation → Follows (wants g a) (advance g a) m es → Same m es

  -- An operation that ended with StoreFault sends nothing more.
  stays_fault : (m : Running) (es : List Entry) → is_fault (over m.operation) ≡ true → Follows (wants g a) (advance g a) m es
      → is_fault (over (run (advance g a) m es).operation) ≡ true
  stays_fault m [] h f = h
  stays_fault m (e ∷ es) h f = let n : wants g a m ≡ None = none_by (wants g a m) (over m.operation) (goes_on g (who a) m.known m.operation)
      h in let k : wants g a m ≡ Some e.request = f.0 in absurd (cc)

  by : (m : Running) (e : Entry) (es : List Entry) (b : Bool) (n : ℕ) → was_answered e.outcome ≡ b → spare_of m.operation ≡ n
      → is_serial m.operation ≡ true → Calm m.operation
      → Holds (advance g a m e.outcome) es → Follows (wants g a) (advance g a) (advance g a m e.outcome) es
      → is_fault (over (run (advance g a) (advance g a m e.outcome) es).operation) ≡ is_some
      (cond (is_zero n && not b) (Some e.request) (spent_in (advance g a) (λ x. spare_of x.operation) (advance g a m e.outcome) es))
  by m e es b n h g f p q r = grind (arith, stays_fault, worn_fault, stays_serial, missed_calm, answered_calm)

  holds : (m : Running) (es : List Entry) → Holds m es
  holds m [] s h f = h
  holds m (e ∷ es) s h f = by m e es (was_answered e.outcome) (spare_of m.operation) refl refl s h (holds (advance g a m e.outcome) es) f.1

pub faults : (g : Setting) (a : Actor) (m : Running) → is_serial m.operation ≡ true → is_fault (over m.operation) ≡ false
    → (es : List Entry) → Follows (wants g a) (advance g a) m es
    → is_fault (over (run (advance g a) m es).operation) ≡ is_some (spent_in (advance g a) (λ x. spare_of x.operation) m es)
faults g a m s h es f = holds g a m es s h f
