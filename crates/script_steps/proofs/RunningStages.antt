-- The operation of the driver, by the driver's life and stage.
use Rattle.job_model.specs.Known.{Known}
use Rattle.job_model.specs.declared.ends.ActorEnd.{ActorEnd}
use Rattle.job_model.specs.declared.ends.CheckEnd.{CheckEnd}
use Rattle.job_model.specs.declared.ends.CleanEnd.{CleanEnd}
use Rattle.job_model.specs.declared.ends.CommitEnd.{CommitEnd}
use Rattle.job_model.specs.declared.ends.EventFault.{EventFault}
use Rattle.job_model.specs.declared.ends.OpEnd.{OpEnd}
use Rattle.job_model.specs.declared.ends.SetupEnd.{SetupEnd}
use Rattle.job_model.specs.declared.events.Event.{Event}
use Rattle.job_model.specs.declared.events.Op.{Op}
use Rattle.job_model.specs.declared.events.Op.TheVariants.{Clean, Commit, Setup}
use Rattle.job_model.specs.declared.states.ActorStage.{ActorStage}
use Rattle.job_model.specs.declared.states.Life.{Life}
use Rattle.job_model.specs.declared.states.Life.TheVariants.{Busy, Idle}
use Rattle.job_protocol.proofs.Begun.{after_check_so}
use Rattle.job_protocol.specs.Cleanups.{clean_over}
use Rattle.job_protocol.specs.JobCommits.{commit_over}
use Rattle.job_protocol.specs.Operations.{Operation, Running, Setting, TheCheck, TheClean, TheCommit, TheSetup, TheSparing, asks, over}
use Rattle.job_protocol.specs.Operations.{tells, who}
use Rattle.job_protocol.specs.Rechecks.{check_after, check_over}
use Rattle.job_protocol.specs.Seen.{Times, is_begun}
use Rattle.job_protocol.specs.Setup.{setup_over}
use Rattle.job_protocol.specs.Sparing.{sparing_over}
use Rattle.job_spec.specs.States.{begins_clean, begins_commit, dead, driver_may, ended, is_new, may, needs_set, refuse_begin, refuse_op}
use Rattle.job_spec.specs.States.{restarted}
use Rattle.job_spec.specs.Turns.{is_busy, is_memory, is_wanting}
use Rattle.script_steps.specs.Transitions.{MayFinish, Play}
use Rattle.protocol_runs.specs.Runs.{IsTimely, is_done, is_just_set, is_set, nothing_learnt}
use Rattle.retries.specs.Retries.{Retried, step}
use Rattle.s3_types.specs.declared.journal.Outcome.{Outcome}
use Rattle.s3_types.specs.declared.request.Actor.{Actor}
use Rattle.s3_types.specs.declared.request.Actor.TheVariants.{Driver}
use Rattle.s3_types.specs.declared.request.Request.{Request}
use Rattle.std.proofs.Common.{Bool, None, Option, Some, ap, arith, false, inl, inr, subst, sym, true, ℕ, ◌&&◌, ◌||◌, ◌≡◌, ◌⊎◌}
use Rattle.std.proofs.Math.Bool.{or-false}
use Rattle.std.specs.Option.{option_map}
use Rattle.std.specs.Prelude.{if◌then◌else◌}
use Rattle.job_model.specs.declared.ends.SetupEnd.TheVariants as setups
use Rattle.job_model.specs.declared.ends.OpEnd.TheVariants as ends
use Rattle.job_model.specs.declared.ends.EventFault.TheVariants as faults
use Rattle.job_model.specs.declared.states.ActorStage.TheVariants as stage
use Rattle.job_protocol.specs.Setup as setup

-- ---- when an operation may begin

idle_begins : (l : Life) (r : Option EventFault) → refuse_begin l r ≡ None → (l ≡ Idle) × (r ≡ None)
idle_begins l r h = grind arith

let_by : (unset may : Bool) → (if unset then Some faults.NotSet else (if may then None else Some faults.WrongState)) ≡ None
    → (unset ≡ false) × (may ≡ true)
let_by unset may h = grind arith

-- An operation is not refused: its actor is idle, the job is set up if it must be, and the operation may begin in this stage.
pub record Begins (driver : ActorStage) (a : Actor) (op : Op) (life : Life) (s : ActorStage) : Type 0 where
  pub idle : life ≡ Idle
  pub set : (needs_set a op && is_new driver) ≡ false
  pub may_begin : may a op s ≡ true

pub begins_so : (driver : ActorStage) (a : Actor) (op : Op) (life : Life) (s : ActorStage)
    → refuse_begin life (refuse_op driver a op s) ≡ None → Begins driver a op life s
begins_so driver a op life s h = grind (arith, idle_begins, let_by)

-- ---- an end because memory ran out

wanting_memory : (a : Actor) (op : Op) (e : OpEnd) → is_wanting a op e ≡ true → is_memory e ≡ true
wanting_memory a op e h = grind arith

-- The same for any actor and operation.
pub memory_or : {X : Type 0} (a : Actor) (op : Op) (e : OpEnd) → (is_wanting a op e ≡ true) ⊎ X → (is_memory e ≡ true) ⊎ X
memory_or a op e h = grind arith

pub may_end : (x : Play) (y : ActorEnd) → MayFinish x y → (is_memory y.end ≡ true)
    ⊎ ((m : Running) × (x.running y.actor ≡ Some m) × (over m.operation ≡ Some y.end))
may_end x y may = memory_or y.actor may.doing.op y.end may.end

-- Its actor is dead, in its stage.
pub memory_dies : (e : OpEnd) (s : ActorStage) → is_memory e ≡ true → ended e s ≡ dead s
memory_dies e s h = grind arith

-- ---- the operation of the driver

-- No operation, or a set-up.
abbrev pub IsSettingUp : Option Operation → Type 0
IsSettingUp None = Unit {0}
IsSettingUp (Some (TheSetup t)) = Unit {0}
IsSettingUp (Some _) = ⊥

-- A commit or the check before it, or an abort or clean of the job.
abbrev pub IsBehind : Option Operation → Type 0
IsBehind (Some (TheCommit c)) = Unit {0}
IsBehind (Some (TheClean t)) = Unit {0}
IsBehind (Some (TheCheck t)) = Unit {0}
IsBehind (Some (TheSparing t)) = Unit {0}
IsBehind _ = ⊥

abbrev pub DriverAt : ActorStage → Life → Option Operation → Type 0
DriverAt stage.New l d = IsSettingUp d
DriverAt stage.Set l d = (is_busy l ≡ false) × (is_just_set d ≡ true)
DriverAt _ l d = IsBehind d

behind_set : (d : Option Operation) → IsBehind d → is_set d ≡ true
behind_set d h = grind arith

-- If the driver is not new, the job is set up.
pub driver_set : (s : ActorStage) (l : Life) (d : Option Operation) → DriverAt s l d → is_new s ≡ false → is_set d ≡ true
driver_set s l d h g = grind arith

-- ---- it begins an operation

-- A set-up may begin if none is done, or if the last one is but the driver did not learn of its end.
abbrev pub MaySet : Option Operation → Type 0
MaySet d = (is_set d ≡ false) ⊎ (is_just_set d ≡ true)

setting_up : (d : Option Operation) → IsSettingUp d → MaySet d
setting_up d h = grind arith

pub may_setup : (s : ActorStage) (l : Life) (d : Option Operation) → DriverAt s l d → driver_may Setup s ≡ true → (is_new s ≡ true)
    × IsSettingUp d × MaySet d
may_setup s l d h g = grind arith

pub may_commit_job : (s : ActorStage) (l : Life) (d : Option Operation) → DriverAt s l d → driver_may Commit s ≡ true → is_just_set d ≡ true
may_commit_job s l d h g = grind arith

-- The operation of a new driver may be a set-up, a new one too.
pub new_at : (s : ActorStage) (l : Life) (t : Retried setup.Setup) → is_new s ≡ true → DriverAt s l (Some (TheSetup t))
new_at s l t h = grind arith

-- A clean begins after the commit or after an abort, and the stage stays.
pub behind_at : (s : ActorStage) (l : Life) (d : Option Operation) → IsBehind d → driver_may Clean s ≡ true → DriverAt s l d
    × (is_new s ≡ false)
behind_at s l d h g = grind arith

-- ---- its life changes

pub driver_stops : (s : ActorStage) (l m : Life) (d : Option Operation) → is_busy m ≡ false → DriverAt s l d → DriverAt s m d
driver_stops s l m d h g = grind arith

pub driver_restarts : (s : ActorStage) (l : Life) (d : Option Operation) → DriverAt s l d → DriverAt (restarted s) Idle d
driver_restarts s l d h = grind arith

pub restarted_new : (s : ActorStage) → is_new (restarted s) ≡ true → is_new s ≡ true
restarted_new s h = grind arith

-- ---- its operation ends

-- What holds of each end of one kind holds of the end.
pub of_sort : {X Y : Type 0} (f : X → Y) (P : Y → Type 0) (o : Option X) (y : Y) → option_map f o ≡ Some y
    → ((x : X) → o ≡ Some x → P (f x)) → P y
of_sort f P o y h g = grind arith

-- When its operation ends, the operation still fits the driver's new state, and the driver is new only if it was new before.
abbrev pub EndedAt : ActorStage → Operation → OpEnd → Type 0
EndedAt s op e = DriverAt (ended e s).stage (ended e s).life (Some op) × (is_new (ended e s).stage ≡ true → is_new s ≡ true)

setup_is_done : (x : setup.Setup) → setup_over x ≡ Some setups.Done → is_done x ≡ true
setup_is_done x h = grind arith

setup_ends : (t : Retried setup.Setup) (e : SetupEnd) → setup_over t.operation ≡ Some e → EndedAt stage.New (TheSetup t) (ends.Setup e)
setup_ends t e h = grind arith

commit_ends : (s : ActorStage) (op : Operation) (e : CommitEnd) → DriverAt s Busy (Some op) → IsBehind (Some op)
    → EndedAt s op (ends.Commit e)
commit_ends s op e h g = grind arith

check_ends : (s : ActorStage) (op : Operation) (e : CheckEnd) → DriverAt s Busy (Some op) → IsBehind (Some op) → EndedAt s op (ends.Check e)
check_ends s op e h g = grind arith

clean_ends : (s : ActorStage) (op : Operation) (e : CleanEnd) → DriverAt s Busy (Some op) → EndedAt s op (ends.Clean e)
clean_ends s op e h = grind arith

-- Only a new driver goes on with a set-up.
setup_new : (s : ActorStage) (t : Retried setup.Setup) → DriverAt s Busy (Some (TheSetup t)) → s ≡ stage.New
setup_new s t h = grind arith

-- The operation is a set-up, or one that comes after it.
abbrev pub Kind : Option Operation → Type 0
Kind d = IsSettingUp d ⊎ IsBehind d

pub just_kind : (d : Option Operation) → is_just_set d ≡ true → IsSettingUp d
just_kind d h = grind arith

pub driver_kind : (s : ActorStage) (l : Life) (d : Option Operation) → DriverAt s l d → Kind d
driver_kind s l d h = grind arith

-- If the operation of a busy driver is no set-up, it comes after the set-up.
goes_behind : (s : ActorStage) (d e : Option Operation) → DriverAt s Busy d → (IsSettingUp d → ⊥) → IsBehind e → DriverAt s Busy e
goes_behind s d e h g f = grind arith

pub driver_ends : (s : ActorStage) (op : Operation) (e : OpEnd) → DriverAt s Busy (Some op) → over op ≡ Some e → EndedAt s op e
driver_ends s (TheSetup t) e h o =
    of_sort ends.Setup (EndedAt s (TheSetup t)) (setup_over t.operation) e o (λ x is. subst (λ u. EndedAt u (TheSetup t) (ends.Setup x))
    (sym (setup_new s t h)) (setup_ends t x is))
driver_ends s (TheCommit c) e h o = of_sort ends.Commit (EndedAt s (TheCommit c)) (commit_over c) e o
    (λ x is. commit_ends s (TheCommit c) x h tt)
driver_ends s (TheClean t) e h o = of_sort ends.Clean (EndedAt s (TheClean t)) (clean_over t.operation) e o
    (λ x is. clean_ends s (TheClean t) x h)
driver_ends s (TheCheck t) e h o = of_sort ends.Check (EndedAt s (TheCheck t)) (check_over t.operation) e o
    (λ x is. check_ends s (TheCheck t) x h tt)
driver_ends s (TheSparing t) e h o = of_sort ends.Clean (EndedAt s (TheSparing t)) (sparing_over t.operation) e o
    (λ x is. clean_ends s (TheSparing t) x h)
driver_ends s op e h o = elim (driver_kind s Busy (Some op) h) [ inl x ↦ absurd x | inr x ↦ absurd x ]

-- ---- it goes on

-- What it asks does not depend on what is known.
pub driver_asks : (g : Setting) (op : Operation) (k : Known) (r : Request) → Kind (Some op) → asks g (who Driver) k op ≡ Some r
    → asks g (who Driver) nothing_learnt op ≡ Some r
driver_asks g op k r h e = grind arith

pub driver_hears : (g : Setting) (s : ActorStage) (op : Operation) (o : Outcome) → DriverAt s Busy (Some op)
    → DriverAt s Busy (Some (tells g (who Driver) op o))
driver_hears g s (TheSetup t) o h = new_at s Busy _ (ap is_new (setup_new s t h))
driver_hears g s (TheCommit c) o h = goes_behind s (Some (TheCommit c)) (Some (tells g (who Driver) (TheCommit c) o)) h (λ x. x) tt
driver_hears g s (TheClean t) o h = goes_behind s (Some (TheClean t)) (Some (tells g (who Driver) (TheClean t) o)) h (λ x. x) tt
driver_hears g s (TheCheck t) o h = goes_behind s (Some (TheCheck t)) (Some (tells g (who Driver) (TheCheck t) o)) h (λ x. x)
    (after_check_so g (λ op. IsBehind (Some op)) tt (λ u. tt) (step g.script.retries (check_after g.script) t o))
driver_hears g s (TheSparing t) o h = goes_behind s (Some (TheSparing t)) (Some (tells g (who Driver) (TheSparing t) o)) h (λ x. x) tt
driver_hears g s op o h = elim (driver_kind s Busy (Some op) h) [ inl x ↦ absurd x | inr x ↦ absurd x ]

-- ---- whether its commit has begun

-- Whether the commit, and an abort or clean, have begun.
pub record Begun : Type 0 where
  pub commit : Bool
  pub clean : Bool

-- After an event that is refused or not, and after one that begins neither.
abbrev pub with_event : Bool → Begun → Event → Begun
with_event fine b ev = record { commit = b.commit || (begins_commit ev && fine); clean = b.clean || (begins_clean ev && fine) }

abbrev pub still_begun : Begun → Begun
still_begun b = record { commit = b.commit || false; clean = b.clean || false }

-- A commit or its check: the commit has begun, and no abort or clean has. An abort or clean: that has begun. A set-up or nothing: neither
-- has begun.
abbrev pub IsTimed : Begun → Option Operation → Type 0
IsTimed b None = (b.commit ≡ false) × (b.clean ≡ false)
IsTimed b (Some (TheSetup t)) = (b.commit ≡ false) × (b.clean ≡ false)
IsTimed b (Some (TheCommit c)) = (b.commit ≡ true) × (b.clean ≡ false)
IsTimed b (Some (TheCheck t)) = (b.commit ≡ true) × (b.clean ≡ false)
IsTimed b (Some (TheClean t)) = b.clean ≡ true
IsTimed b (Some (TheSparing t)) = b.clean ≡ true
IsTimed b (Some _) = Unit {0}

pub timed_setting : (b : Begun) (d : Option Operation) → IsTimed b d → IsSettingUp d → (b.commit ≡ false) × (b.clean ≡ false)
timed_setting b d h g = grind arith

pub timed_sends : (k : Times) (n : ℕ) (op : Operation)
    → IsTimed (record { commit = is_begun k.commit n; clean = is_begun k.clean n }) (Some op) → IsTimely k n op
timed_sends k n op h = grind arith

pub timed_tells : (g : Setting) (b : Begun) (op : Operation) (o : Outcome) → IsTimed b (Some op)
    → IsTimed b (Some (tells g (who Driver) op o))
timed_tells g b op o h = grind arith

-- After a later event that begins neither.
pub timed_on : (b : Begun) (d : Option Operation) → IsTimed b d → IsTimed (still_begun b) d
timed_on b d h = subst (λ c. IsTimed c d) (λ i. record { commit = sym (or-false b.commit) i; clean = sym (or-false b.clean) i }) h
