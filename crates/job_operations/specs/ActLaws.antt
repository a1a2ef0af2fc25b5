-- Laws of every operation of a job's actors.
use Rattle.job_operations.specs.Acts.{FitsAct, FitsChecked, checked_end, checked_left, checked_rise, checked_told, checked_wants, end_of}
use Rattle.job_operations.specs.Acts.{is_clear, left_of, rise_of, sendings_left, stepped, tells_of, wants_of}
use Rattle.job_operations.specs.Falls.{sending_falls, sending_rises}
use Rattle.job_operations.specs.declared.act.Act.{Act}
use Rattle.job_operations.specs.declared.act.Act.TheVariants.{AbortTask, Checked, Clean, Commit, CommitTask, Setup, Sparing, Write}
use Rattle.text_and_lists.proofs.Members.{none_some, some_is}
use Rattle.cleanup.proofs.Falling.{cleans_end}
use Rattle.cleanup.proofs.SparingFalls.{sparings_end}
use Rattle.cleanup.specs.SparingFits.{most_commits}
use Rattle.commit_lanes.proofs.Falling.{commit_falls}
use Rattle.commit_lanes.specs.CommitEnds.{left}
use Rattle.conflict.proofs.Falling.{checks_end}
use Rattle.conflict.specs.Left.{check_left}
use Rattle.conflict.specs.Rechecks.{PlannedCheck, check_told, check_wants}
use Rattle.job_actor.specs.Acts.{ActLaws}
use Rattle.job_protocol.specs.AtWork.{Attempting, Committing, Driving, clean_wants, commit_wants, setup_wants, sparing_wants}
use Rattle.job_protocol.specs.AtWork.{task_abort_wants, task_commit_wants, write_wants}
use Rattle.job_setup.proofs.Falling.{set_ups_end}
use Rattle.machine.specs.declared.retrying.Retrying.{Retrying}
use Rattle.s3_types.specs.Answer.{answer, apply}
use Rattle.s3_types.specs.Moment.{IsHonestOutcome, effect}
use Rattle.s3_types.specs.Requests.{only_reads}
use Rattle.s3_types.specs.Store.{Scene}
use Rattle.s3_types.specs.declared.journal.Outcome.{Outcome}
use Rattle.s3_types.specs.declared.journal.Outcome.TheVariants.{Answered, RequestLost, Slow}
use Rattle.s3_types.specs.declared.reply.Reply.{Reply}
use Rattle.s3_types.specs.declared.request.Request.{Request}
use Rattle.std.proofs.Common.{ap, arith, refl, sym, ◌∙◌}
use Rattle.std.specs.Option.{option_map}
use Rattle.std.specs.Prelude.{Bool, None, Option, Some, cond, false, is_some, not, true, ℕ, ◌+◌, ◌<◌, ◌≡◌, ◌≤◌}
use Rattle.store_frame.proofs.Reading.{reads_nothing}
use Rattle.task_operation.proofs.AbortFalls.{abort_falls as task_abort_falls}
use Rattle.task_operation.proofs.CommitFalls.{commit_falls as task_commit_falls}
use Rattle.task_operation.proofs.WriteFalls.{write_falls}
use Rattle.job_protocol.specs.Setup as setups
use Rattle.job_protocol.specs.Writes as writes
use Rattle.job_protocol.specs.TaskCommits as commits
use Rattle.job_protocol.specs.TaskAborts as aborts
use Rattle.job_protocol.specs.JobCommits as jobs
use Rattle.job_protocol.specs.Cleanups as cleans
use Rattle.job_protocol.specs.Rechecks as checks
use Rattle.job_protocol.specs.Sparing as sparings

-- ---- it has a request to send exactly until it has ended

setup_goes_on : (m : Driving setups.Setup) (o : setups.Setup)
    → is_some (setup_wants (record { plan = m.plan; operation = o })) ≡ not (is_some (setups.setup_over o))
setup_goes_on m setups.Heading = refl
setup_goes_on m _ = refl

write_goes_on : (m : Attempting writes.Write) (o : writes.Write)
    → is_some (write_wants (record { plan = m.plan; operation = o })) ≡ not (is_some (writes.write_over o))
write_goes_on m (writes.Uploads f fs u) = refl
write_goes_on m _ = refl

commit_goes_on : (m : Attempting commits.TaskCommit) (o : commits.TaskCommit)
    → is_some (task_commit_wants (record { plan = m.plan; operation = o })) ≡ not (is_some (commits.task_commit_over o))
commit_goes_on m (commits.Looking keys) = refl
commit_goes_on m _ = refl

abort_goes_on : (m : Attempting aborts.TaskAbort) (o : aborts.TaskAbort)
    → is_some (task_abort_wants (record { plan = m.plan; operation = o })) ≡ not (is_some (aborts.task_abort_over o))
abort_goes_on m (aborts.Dropping d ds sent) = refl
abort_goes_on m _ = refl

job_goes_on : (m : Committing) (c : jobs.Commit) → is_some (commit_wants (record { plan = m.plan; picked = m.picked; operation = c })) ≡ not
    (is_some (jobs.commit_over c))
job_goes_on m (jobs.Fetching sets n) = refl
job_goes_on m _ = refl

clean_goes_on : (m : Driving cleans.Clean) (o : cleans.Clean)
    → is_some (clean_wants (record { plan = m.plan; operation = o })) ≡ not (is_some (cleans.clean_over o))
clean_goes_on m (cleans.Walking found) = refl
clean_goes_on m _ = refl

sparing_goes_on : (m : Driving sparings.Sparing) (o : sparings.Sparing)
    → is_some (sparing_wants (record { plan = m.plan; operation = o })) ≡ not (is_some (sparings.sparing_over o))
sparing_goes_on m (sparings.Walking keys) = refl
sparing_goes_on m _ = refl

check_goes_on : (m : PlannedCheck) (o : checks.Check)
    → is_some (check_wants (record { plan = m.plan; operation = o })) ≡ not (is_some (checks.check_over o))
check_goes_on m (checks.Looking keys) = refl
check_goes_on m _ = refl

asks_on : {X Y : Type 0} (f : X → Y) (o : Option X) (b : Bool) → b ≡ not (is_some o) → b ≡ not (is_some (option_map f o))
asks_on f (Some x) b h = h
asks_on f None b h = h

checked_goes_on : (o : Option (Retrying PlannedCheck)) (c : Committing) → is_some (checked_wants o c) ≡ not (is_some (checked_end o c))
checked_goes_on (Some t) c = asks_on _ _ _ (check_goes_on t.machine t.machine.operation)
checked_goes_on None c = asks_on _ _ _ (job_goes_on c c.operation)

goes_on : (a : Act) → is_some (wants_of a) ≡ not (is_some (end_of a))
goes_on (Setup t) = asks_on _ _ _ (setup_goes_on t.machine t.machine.operation)
goes_on (Write t) = asks_on _ _ _ (write_goes_on t.machine t.machine.operation)
goes_on (CommitTask t) = asks_on _ _ _ (commit_goes_on t.machine t.machine.operation)
goes_on (AbortTask t) = asks_on _ _ _ (abort_goes_on t.machine t.machine.operation)
goes_on (Commit c) = asks_on _ _ _ (job_goes_on c c.operation)
goes_on (Clean t) = asks_on _ _ _ (clean_goes_on t.machine t.machine.operation)
goes_on (Sparing t) = asks_on _ _ _ (sparing_goes_on t.machine t.machine.operation)
goes_on (Checked x) = checked_goes_on x.check x.commit

-- ---- what is left

-- An honest answer is the one that S3 must give.
due_is : (o : Outcome) (due : Reply) → IsHonestOutcome o due → (a : Reply) → o ≡ Answered a → a ≡ due
due_is (Answered b) due h a e = let k : b ≡ a = cc in sym k ∙ h
due_is _ due h a e = absurd (cc)

-- A check only reads.
check_reads : (m : PlannedCheck) (o : checks.Check) (r : Request) → check_wants (record { plan = m.plan; operation = o }) ≡ Some r
    → only_reads r ≡ true
check_reads m (checks.CheckOver end) r e = absurd (none_some refl e)
check_reads m _ r e = ap only_reads (sym (some_is e))

reads_leave : (s : Scene) (r : Request) → only_reads r ≡ true → (o : Outcome) → effect s r o ≡ s
reads_leave s r h Slow = refl
reads_leave s r h RequestLost = refl
reads_leave s r h _ = reads_nothing s r h

-- After the check is clear, only the commit is left.
past_check : (b : Bool) (u : Retrying PlannedCheck) (c : Committing) (s : Scene) (n : ℕ) → sendings_left check_left u s < n
    → checked_left (cond b None (Some u)) c s < n + left most_commits c s
past_check true u c s n h = omega (arith, h)
past_check false u c s n h = omega (arith, h)

checked_falls : (o : Option (Retrying PlannedCheck)) (c : Committing) (s : Scene) (r : Request) (x : Outcome) → checked_wants o c ≡ Some r
    → FitsChecked o c x → IsHonestOutcome x (answer s r)
    → checked_left (checked_told o c x).check (checked_told o c x).commit (effect s r x) < checked_left o c s
checked_falls (Some t) c s r x w f e =
    let same : left most_commits c (effect s r x) ≡ left most_commits c s = ap (left most_commits c)
    (reads_leave s r (check_reads t.machine t.machine.operation r w) x) in
    let k = past_check (is_clear (checks.check_over (stepped check_told t x).machine.operation)) (stepped check_told t x) c (effect s r x)
    (sendings_left check_left t s) (sending_falls checks_end t s r x w f e) in
    omega (arith, k, same)
checked_falls None c s r x w f e = commit_falls.falls most_commits c s r x w f (due_is x (answer s r) e)

sums : (a b c d x y : ℕ) → a ≤ b + x → c ≤ d + y → a + c ≤ b + d + (x + y)
sums a b c d x y h k = omega (arith, h, k)

checked_others : (o : Option (Retrying PlannedCheck)) (c : Committing) (s : Scene) (r : Request)
    → checked_left o c (apply s r) ≤ checked_left o c s + checked_rise o c r
checked_others (Some t) c s r = sums _ _ _ _ _ _ (sending_rises checks_end t s r) (commit_falls.others most_commits c s r)
checked_others None c s r = commit_falls.others most_commits c s r

falls : (a : Act) (s : Scene) (r : Request) (o : Outcome) → wants_of a ≡ Some r → FitsAct a o → IsHonestOutcome o (answer s r)
    → left_of (tells_of a o) (effect s r o) < left_of a s
falls (Setup t) s r o w f e = sending_falls set_ups_end t s r o w f e
falls (Write t) s r o w f e = sending_falls write_falls t s r o w f e
falls (CommitTask t) s r o w f e = sending_falls task_commit_falls t s r o w f e
falls (AbortTask t) s r o w f e = sending_falls task_abort_falls t s r o w f e
falls (Commit c) s r o w f e = commit_falls.falls most_commits c s r o w f (due_is o (answer s r) e)
falls (Clean t) s r o w f e = sending_falls cleans_end t s r o w f e
falls (Sparing t) s r o w f e = sending_falls sparings_end t s r o w f e
falls (Checked x) s r o w f e = checked_falls x.check x.commit s r o w f e

others : (a : Act) (s : Scene) (r : Request) → left_of a (apply s r) ≤ left_of a s + rise_of a r
others (Setup t) s r = sending_rises set_ups_end t s r
others (Write t) s r = let k = sending_rises write_falls t s r in omega (arith, k)
others (CommitTask t) s r = sending_rises task_commit_falls t s r
others (AbortTask t) s r = sending_rises task_abort_falls t s r
others (Commit c) s r = commit_falls.others most_commits c s r
others (Clean t) s r = sending_rises cleans_end t s r
others (Sparing t) s r = sending_rises sparings_end t s r
others (Checked x) s r = checked_others x.check x.commit s r

pub act_laws : ActLaws wants_of tells_of FitsAct end_of left_of rise_of
act_laws = record { goes_on = goes_on; falls = falls; others = others }
