-- What `States` keeps follows the events and ends.
use Rattle.job_model.specs.Attempts.{is_known}
use Rattle.job_model.specs.JobScript.{Script}
use Rattle.job_model.specs.declared.ends.ActorEnd.{ActorEnd}
use Rattle.job_model.specs.declared.ends.OpEnd.{OpEnd}
use Rattle.job_model.specs.declared.events.Op.{Op}
use Rattle.job_model.specs.declared.events.Op.TheVariants.{Commit, Setup}
use Rattle.job_model.specs.declared.states.ActorStage.{ActorStage}
use Rattle.job_model.specs.declared.states.ActorState.{ActorState}
use Rattle.job_spec.specs.States.{Decided, Doing, Past, begin, decide, end_op, ended, idle, is_commit, is_committing, is_done, is_reported}
use Rattle.job_spec.specs.States.{is_setup, kill, put, report, restarted}
use Rattle.job_states.proofs.ReportLemmas.{same_tests}
use Rattle.job_states.proofs.ToldLemmas.{told_more}
use Rattle.job_states.specs.Standing.{began, decision, standing}
use Rattle.job_states.specs.inner.Standing.{begun_in, ended_in, fresh, killed_in, renewed_in}
use Rattle.job_states.specs.Stands.{tested}
use Rattle.job_states.specs.inner.Stands.{ChangesAt, told_by}
use Rattle.job_states.specs.declared.standing.Standing.{Standing}
use Rattle.s3_types.specs.declared.request.Actor.{Actor}
use Rattle.s3_types.specs.declared.request.Actor.TheVariants.{Driver}
use Rattle.std.proofs.Common.{Bool, Option, arith, false, true, ◌&&◌, ◌≡◌}
use Rattle.std.specs.Prelude.{option_map}

-- ---- the standing of one actor afterwards

pub changes_end : (w : Script) (p : Past) (x : ActorEnd) (s : Standing) → (is_known w.attempts x.actor ≡ true → s ≡ standing p x.actor)
    → ChangesAt w x.actor (ended_in x.end s) (standing p) (standing (end_op p x))
changes_end w p x s h = grind arith

pub changes_kill : (w : Script) (p : Past) (a : Actor) (s : Standing) → (is_known w.attempts a ≡ true → s ≡ standing p a)
    → ChangesAt w a (killed_in s) (standing p) (standing (kill p a))
changes_kill w p a s h = grind arith

-- The state with a new driver that still knows the reports.
abbrev pub renew : Past → Past
renew p = record p { state = put p.state Driver (idle (restarted (p.state Driver).stage)) }

pub changes_restart : (w : Script) (p : Past) (s : Standing) → (is_known w.attempts Driver ≡ true → s ≡ standing p Driver)
    → ChangesAt w Driver (renewed_in s) (standing p) (standing (renew p))
changes_restart w p s h = grind arith

pub changes_begin : (w : Script) (p : Past) (a : Actor) (op : Op) (s : Standing) → (is_known w.attempts a ≡ true → s ≡ standing p a)
    → ChangesAt w a (begun_in a op s) (standing p) (standing (begin w p a op))
changes_begin w p a op s h = grind arith

-- ---- an actor outside the job never commits

pub never : (e : OpEnd) (s : ActorStage) → is_committing s ≡ false → is_committing (ended e s).stage ≡ false
never e s h = grind arith

pub others_put : (w : Script) (p : Past) (a : Actor) (x : ActorState)
    → ((b : Actor) → is_known w.attempts b ≡ false → is_committing (p.state b).stage ≡ false)
    → (is_known w.attempts a ≡ false → is_committing x.stage ≡ false)
    → (b : Actor) → is_known w.attempts b ≡ false → is_committing (put p.state a x b).stage ≡ false
others_put w p a x h g b e = grind arith

-- ---- what an end reports and decides

-- An end at a stage that is equally committing reports the same tasks, and only for an attempt of the job.
pub same_report : (w : Script) (a : Actor) (s t : ActorStage) (e : OpEnd) (f : Actor → Bool) → is_committing s ≡ is_committing t
    → (is_known w.attempts a ≡ false → is_committing t ≡ false)
    → tested w.tasks (told_by a (is_committing s && is_done e) (is_reported w f)) ≡ tested w.tasks (is_reported w (report a t e f))
same_report w a s t e f h g = grind (arith, same_tests, told_more)

-- The kept stage of a declared actor is its stage. That of another actor is not committing, like its own.
pub same_stage : (w : Script) (p : Past) (a : Actor) (s : Standing)
    → ((b : Actor) → is_known w.attempts b ≡ false → is_committing (p.state b).stage ≡ false)
    → (is_known w.attempts a ≡ true → s ≡ standing p a) → (is_known w.attempts a ≡ false → s ≡ fresh)
    → is_committing s.state.stage ≡ is_committing (p.state a).stage
same_stage w p a s h g e = grind arith

pub setup_was : (d : Option Doing) → began Setup (option_map (λ q. q.op) d) ≡ is_setup d
setup_was d = grind arith

pub commit_was : (d : Option Doing) → began Commit (option_map (λ q. q.op) d) ≡ is_commit d
commit_was d = grind arith

pub decides : (w : Script) (p : Past) (a : Actor) (e : OpEnd) (s : Standing) (op : Op) (is_it : Option Doing → Bool) (x : Decided)
    (b : Bool) → ((d : Option Doing) → began op (option_map (λ q. q.op) d) ≡ is_it d) → b ≡ began op s.begun
    → (is_known w.attempts a ≡ true → s ≡ standing p a)
    → decision (decide a b e x) ≡ decision (decide a (is_it (p.doing a)) e x)
decides w p a e s op is_it x b h g f = grind arith
