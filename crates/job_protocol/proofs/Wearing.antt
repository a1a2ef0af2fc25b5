-- An operation that sends one request at a time counts its sends, and ends with StoreFault exactly if a request ran out of retries.
use Rattle.job_model.specs.Attempts.{Who}
use Rattle.job_model.specs.Files.{File}
use Rattle.job_model.specs.JobScript.{Script}
use Rattle.job_model.specs.Known.{Drawn, Known}
use Rattle.job_protocol.specs.Knowledge.{drawn_in}
use Rattle.job_protocol.specs.OperationLaws.{is_serial, spare_of}
use Rattle.job_protocol.specs.Operations.{Operation, Running, Setting, advance, asks, learn_of, tells, wants, who}
use Rattle.job_protocol.specs.Outputs.{files}
use Rattle.job_protocol.specs.Records.{file_key, file_record}
use Rattle.job_protocol.specs.Uploading.{Uploading, upload_asks}
use Rattle.pending_json.specs.Trees.{set_tree}
use Rattle.retries.proofs.First.{spent_first}
use Rattle.retries.specs.Operation.{Follows}
use Rattle.retries.specs.Retries.{Counting, spent_in}
use Rattle.retries.specs.Worn.{WornFirst, was_answered}
use Rattle.s3_types.specs.declared.journal.Entry.{Entry}
use Rattle.s3_types.specs.declared.journal.Outcome.{Outcome}
use Rattle.s3_types.specs.declared.request.Actor.{Actor}
use Rattle.s3_types.specs.declared.request.Request.{Request}
use Rattle.s3_types.specs.declared.request.Request.TheVariants.{ClusterPut, PutObject}
use Rattle.serde_json.specs.Written.{compact_text}
use Rattle.std.proofs.Common.{List, None, Option, Some, ap, arith, false, map, refl, suc, true, ℕ, ◌≡◌}
use Rattle.magic_paths.specs.Layout as layout
use Rattle.job_protocol.specs.Writes as writes
use Rattle.job_protocol.specs.TaskCommits as tasks

-- ---- a send without an answer adds no upload

learnt_stays : (w : Script) (a : Who) (k : Known) (r : Option Request) (o : Outcome) → was_answered o ≡ false
    → (learn_of w a k r o).drawn ≡ k.drawn
learnt_stays w a k r o h = grind arith

-- ---- the next request depends only on the known uploads

upload_same : (w : Script) (k l : Known) (f : File) (u : Uploading) → k.drawn ≡ l.drawn → upload_asks w k f u ≡ upload_asks w l f u
upload_same w k l f u h = grind arith

text_by : Script → Who → List File → List Drawn → List ℕ
text_by w a cs ds = compact_text (set_tree (record {
  job = w.job;
  task = a.task;
  attempt = a.attempt;
  commits = map
      (λ f. file_record w a f (drawn_in ds (file_key w f))) cs;
}))

write_same : (w : Script) (a : Who) (k l : Known) (s : writes.Write) → k.drawn ≡ l.drawn
    → writes.write_asks w a k s ≡ writes.write_asks w a l s
write_same w a k l s e = grind arith

task_same : (w : Script) (a : Who) (k l : Known) (s : tasks.TaskCommit) → k.drawn ≡ l.drawn
    → tasks.task_commit_asks w a k s ≡ tasks.task_commit_asks w a l s
unfolding text_by
task_same w a k l (tasks.Publishing cs) e = ap (λ ds. Some (PutObject w.dest.bucket (layout.set_key w.dest.key w.job a.task)
    (text_by w a cs ds) None)) e
task_same w a k l (tasks.Uploads f fs u) e = ap Some (upload_same w k l f u e)
task_same w a k l tasks.Storing e = ap (λ ds. Some (ClusterPut (tasks.temporary_path w a) (text_by w a (files w a) ds))) e
task_same w a k l _ e = refl

-- ---- an operation counts its sends

pub stays_serial : (g : Setting) (a : Who) (op : Operation) (o : Outcome) → is_serial op ≡ true → is_serial (tells g a op o) ≡ true
stays_serial g a op o h = grind arith

all_spare : (g : Setting) (a : Who) (op : Operation) (o : Outcome) → is_serial op ≡ true → was_answered o ≡ true
    → spare_of (tells g a op o) ≡ g.script.retries
all_spare g a op o s h = grind arith

asks_again : (g : Setting) (a : Who) (k l : Known) (op : Operation) (o : Outcome) (n : ℕ) → is_serial op ≡ true → was_answered o ≡ false
    → spare_of op ≡ suc n → l.drawn ≡ k.drawn
    → (spare_of (tells g a op o) ≡ n) × (asks g a l (tells g a op o) ≡ asks g a k op)
asks_again g a k l op o n s h e d = grind (arith, write_same, task_same)

pub serial_counts : (g : Setting) (a : Actor) → Counting g.script.retries (wants g a) (advance g a) (λ x. spare_of x.operation)
    (λ x. is_serial x.operation)
serial_counts g a = record {
  kept = λ m o s. stays_serial g (who a) m.operation o s;
  answered = λ m o s h. all_spare g (who a) m.operation o s h;
  again = λ m o n s h e. asks_again g (who a) m.known (learn_of g.script (who a) m.known (wants g a m) o) m.operation o n s h e
      (learnt_stays g.script (who a) m.known (wants g a m) o h);
}

pub first_spent : (g : Setting) (a : Actor) (m : Running) → is_serial m.operation ≡ true → spare_of m.operation ≡ g.script.retries
    → (es : List Entry) → Follows (wants g a) (advance g a) m es
    → WornFirst g.script.retries es (spent_in (advance g a) (λ x. spare_of x.operation) m es)
first_spent g a m s e es f = spent_first g.script.retries (wants g a) (advance g a) (λ x. spare_of x.operation) (λ x. is_serial x.operation)
    (serial_counts g a) m s e es f
