-- The operations of a job's actors go on as the script says.
use Rattle.job_operations.proofs.Checking.{check_goes, sparing_asks_same, sparing_goes, until_at}
use Rattle.job_operations.proofs.Going.{abort_tells, attempts_ask, attempts_go, clean_goes, driver_goes, setup_goes, task_commit_tells}
use Rattle.job_operations.proofs.Going.{write_tells}
use Rattle.job_operations.specs.Acts.{checked_told, checked_wants, end_of, stepped, tells_of, wants_of}
use Rattle.job_operations.specs.Begins.{ActorsGo}
use Rattle.job_operations.specs.Plans.{AsksSo, CheckedAsksSo, CheckedGoesSo, GoesSo, IsOf, OfChecked, checked_at, plan_of, running_of}
use Rattle.job_operations.specs.declared.act.Act.{Act}
use Rattle.job_operations.specs.declared.act.Act.TheVariants.{AbortTask, Checked, Clean, Commit, CommitTask, Setup, Sparing, Write}
use Rattle.conflict.specs.Rechecks.{PlannedCheck, check_told}
use Rattle.job_actor.specs.Plans.{IsPlanOf}
use Rattle.job_model.specs.Known.{Known}
use Rattle.job_protocol.proofs.Told.{jobs_tell}
use Rattle.job_protocol.specs.AtWork.{Committing, clean_told, job_of, job_script, read_script, sets_after, sets_in, setup_told}
use Rattle.job_protocol.specs.AtWork.{sparing_told}
use Rattle.job_protocol.specs.Cleanups.{clean_after, clean_asks}
use Rattle.job_protocol.specs.JobCommits.{commit_asks, commit_tells}
use Rattle.job_protocol.specs.Operations.{Operation, Running, Setting, TheClean, TheCommit, TheSetup, TheSparing, TheTaskAbort}
use Rattle.job_protocol.specs.Operations.{TheTaskCommit, TheWrite, advance, after_check, over, tells, wants, who}
use Rattle.job_protocol.specs.Setup.{setup_after, setup_asks}
use Rattle.job_protocol.specs.Sparing.{sparing_after, sparing_asks}
use Rattle.machine.specs.declared.retrying.Retrying.{Retrying}
use Rattle.s3_types.specs.declared.journal.Outcome.{Outcome}
use Rattle.s3_types.specs.declared.request.Actor.{Actor}
use Rattle.s3_types.specs.declared.request.Actor.TheVariants.{Driver}
use Rattle.std.proofs.Common.{None, Option, Some, ap, arith, refl, sym, ◌∙◌, ◌≡◌}

checked_asks : (g : Setting) (a : Actor) (k : Known) (o : Option (Retrying PlannedCheck)) (c : Committing) → OfChecked g.script a o c
    → CheckedAsksSo g.script o c → checked_wants o c ≡ wants g a (record { operation = checked_at o c; known = k })
checked_asks g a k o c h e = grind arith

asks : (g : Setting) (a : Actor) (k : Known) (act : Act) → IsOf g a act → AsksSo g.script act → wants_of act ≡ wants g a (running_of k act)
asks g a k (Setup t) h so = ap (λ p. setup_asks (job_script p) t.machine.operation) h.plan ∙ jobs_tell.setup_asks g.script
    t.machine.operation
asks g a k (Write t) h so = attempts_ask (write_tells g.script g.minimum (who a)) t h.plan
asks g a k (CommitTask t) h so = attempts_ask (task_commit_tells g.script g.minimum (who a)) t h.plan
asks g a k (AbortTask t) h so = attempts_ask (abort_tells g.script g.minimum (who a)) t h.plan
asks g a k (Commit c) h so = ap (λ p. commit_asks (read_script p (sets_in c.operation)) c.operation) h.1 ∙ so
asks g a k (Clean t) h so = ap (λ p. clean_asks (job_script p) t.machine.operation) h.plan ∙ jobs_tell.clean_asks g.script
    t.machine.operation
asks g a k (Sparing t) h so = ap (λ p. sparing_asks (job_script p) t.machine.operation) h.plan ∙ sparing_asks_same g.script
    t.machine.operation
asks g a k (Checked x) h so = checked_asks g a k x.check x.commit h so

abbrev running_at : Operation → Known → Running
running_at x k = record { operation = x; known = k }

both : (x y : Operation) (k l : Known) → x ≡ y → k ≡ l → running_at x k ≡ running_at y l
both x y k l e f = ap (λ z. running_at z k) e ∙ ap (running_at y) f

checked_goes : (g : Setting) (a : Actor) (o : Option (Retrying PlannedCheck)) (c : Committing) (x : Outcome) → OfChecked g.script a o c
    → CheckedGoesSo g.script o c x → checked_at (checked_told o c x).check (checked_told o c x).commit ≡ tells g (who a) (checked_at o c) x
checked_goes g a (Some t) c x h so = sym (until_at g (stepped check_told t x) c h.begins) ∙ ap (after_check g)
    (check_goes g.script t x h.plan h.retries)
checked_goes g a None c x h so = ap TheCommit (ap (λ p. commit_tells (read_script p (sets_after c.operation x)) c.operation x) h.1 ∙ so)

goes : (g : Setting) (a : Actor) (k : Known) (act : Act) (o : Outcome) → IsOf g a act → AsksSo g.script act → GoesSo g.script act o
    → running_of (advance g a (running_of k act) o).known (tells_of act o) ≡ advance g a (running_of k act) o
goes g a k (Setup t) o h asks so = both _ _ _ _ (ap TheSetup (driver_goes (job_of g.script) g.script.retries setup_told
    (setup_after g.script) (setup_goes g.script) t o h.plan h.retries)) refl
goes g a k (Write t) o h asks so =
    let s = attempts_go (write_tells g.script g.minimum (who a)) t o h.plan h.retries h.spare in
    both _ _ _ _ (ap TheWrite s.operation) s.known
goes g a k (CommitTask t) o h asks so =
    let s = attempts_go (task_commit_tells g.script g.minimum (who a)) t o h.plan h.retries h.spare in
    both _ _ _ _ (ap TheTaskCommit s.operation) s.known
goes g a k (AbortTask t) o h asks so =
    let s = attempts_go (abort_tells g.script g.minimum (who a)) t o h.plan h.retries h.spare in
    both _ _ _ _ (ap TheTaskAbort s.operation) s.known
goes g a k (Commit c) o h asks so = both _ _ _ _ (ap TheCommit (ap
    (λ p. commit_tells (read_script p (sets_after c.operation o)) c.operation o) h.1 ∙ so)) refl
goes g a k (Clean t) o h asks so = both _ _ _ _ (ap TheClean (driver_goes (job_of g.script) g.script.retries clean_told
    (clean_after g.script) (clean_goes g.script) t o h.plan h.retries)) refl
goes g a k (Sparing t) o h asks so = both _ _ _ _ (ap TheSparing (driver_goes (job_of g.script) g.script.retries sparing_told
    (sparing_after g.script) (sparing_goes g.script) t o h.plan h.retries)) refl
goes g a k (Checked x) o h asks so = both _ _ _ _ (checked_goes g a x.check x.commit o h so) refl

-- ---- its plan stays the script's

stays : (g : Setting) (a : Actor) (act : Act) (o : Outcome) → IsOf g a act → IsOf g a (tells_of act o)
stays g a act o h = grind arith

-- ---- its end, and its plan after that

ends : (k : Known) (act : Act) → end_of act ≡ over (running_of k act).operation
ends k act = grind arith

pub checked_plan : (g : Setting) (a : Actor) (o : Option (Retrying PlannedCheck)) (c : Committing) → OfChecked g.script a o c → (a ≡ Driver)
    × (c.plan ≡ job_of g.script)
checked_plan g a o c h = grind arith

plans : (g : Setting) (a : Actor) (k : Known) (act : Act) → IsOf g a act → wants_of act ≡ None
    → IsPlanOf g a (running_of k act).known (plan_of act)
plans g a k act h e = grind arith

pub actors_go : ActorsGo
actors_go = record { wants = asks; goes = goes; stays = stays; ends = ends; plans = plans }
