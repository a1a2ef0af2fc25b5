-- The run of one attempt with one file follows its script.
use Rattle.text_and_lists.proofs.Members.{false_true, none_some, some_is}
use Rattle.job_examples.proofs.OneSet.{set_is_read}
use Rattle.job_examples.specs.Jobs.{doing, worker}
use Rattle.job_examples.specs.OneFile.{OneFileRuns, journal, script, setting}
use Rattle.job_examples.specs.OneFinished.{the_ends}
use Rattle.job_model.specs.declared.ends.ActorEnd.{ActorEnd}
use Rattle.job_model.specs.declared.ends.EventEnd.{EventEnd}
use Rattle.job_model.specs.declared.ends.EventEnd.TheVariants.{Ended}
use Rattle.job_model.specs.declared.ends.OpEnd.{OpEnd}
use Rattle.job_model.specs.declared.events.Event.{Event}
use Rattle.job_model.specs.declared.events.Event.TheVariants.{Do}
use Rattle.job_model.specs.declared.events.Op.{Op}
use Rattle.job_protocol.specs.Operations.{Setting}
use Rattle.job_spec.specs.Follows.{AllObeyed, Obeyed, OpFollows, Plays, op_over}
use Rattle.job_spec.specs.States.{Doing, after_event, past, refusal}
use Rattle.job_spec.specs.Turns.{AllBy, by_actor, is_busy, is_wanting, of_event, until}
use Rattle.s3_types.specs.Blocks.{block_of, parts_of}
use Rattle.s3_types.specs.declared.journal.Entry.{Entry}
use Rattle.s3_types.specs.declared.request.Actor.{Actor}
use Rattle.s3_types.specs.declared.request.Actor.TheVariants.{Attempt, Driver, Shell}
use Rattle.std.proofs.Common.{List, None, Option, Some, ap, arith, cond, false, inr, length, refl, subst, suc, sym, take, true, zero, ℕ, []}
use Rattle.std.proofs.Common.{◌&&◌, ◌+◌, ◌∙◌, ◌∷◌, ◌≡◌, ◌⊎◌}
use Rattle.std.specs.Fmt.{digits}
use Rattle.std.specs.List.{slice_get}
use Rattle.std.specs.Prelude.{nat_eq}
use Rattle.job_model.specs.declared.events.Op.TheVariants as ops
use Rattle.job_model.specs.declared.ends.SetupEnd.TheVariants as setups
use Rattle.job_model.specs.declared.ends.TaskEnd.TheVariants as tasks
use Rattle.job_model.specs.declared.ends.CommitEnd.TheVariants as commits
use Rattle.job_model.specs.declared.ends.OpEnd.TheVariants as ends

-- ---- the operations

pub goes : OneFileRuns
unfolding digits block_of parts_of
goes = search set_is_read

-- ---- actors

by_actors : (P : Actor → Type 0) → P Driver → P worker → ((t a : ℕ) → (nat_eq t 0 && nat_eq a 0) ≡ false → P (Attempt t a)) → P Shell
    → (x : Actor) → P x
by_actors P h g e f x = grind arith

abbrev pub setup_doing : Doing
setup_doing = doing ops.Setup 1 (Some 0)

abbrev pub write_doing : Doing
write_doing = doing ops.Write 2 (Some 0)

abbrev pub task_doing : Doing
task_doing = doing ops.Commit 3 (Some 0)

abbrev pub commit_doing : Doing
commit_doing = doing ops.Commit 4 None

-- ---- event by event

one_over : (g : Setting) (after_it : Actor → Option Doing) (a : Actor) (end : OpEnd) (d : Doing) (es : List Entry) → after_it a ≡ Some d
    → op_over g a d (by_actor a es) ≡ Some end
    → (i : ℕ) (x : ActorEnd) → slice_get (record { actor = a; end = end } ∷ []) i ≡ Some x → (c : Doing) × (after_it x.actor ≡ Some c)
    × ((is_wanting x.actor c.op x.end ≡ true) ⊎ (op_over g x.actor c (by_actor x.actor es) ≡ Some x.end))
one_over g after_it a end d es h o zero x e =
    let y : ActorEnd = record { actor = a; end = end } in
    let k : y ≡ x = some_is e in
    subst (λ (z : ActorEnd). (c : Doing) × (after_it z.actor ≡ Some c)
    × ((is_wanting z.actor c.op z.end ≡ true) ⊎ (op_over g z.actor c (by_actor z.actor es) ≡ Some z.end))) k (d, h, inr o)
one_over g after_it a end d es h o (suc i) x e = absurd (cc)

-- The operations of the driver and the attempt; no other actor has one.
abbrev of_two : Option Doing → Option Doing → Actor → Option Doing
of_two d v Driver = d
of_two d v Shell = None
of_two d v (Attempt t a) = cond (nat_eq t 0 && nat_eq a 0) v None

-- Holds if these are the operations after event k, and no actor is busy.
abbrev Behind : ℕ → Actor → Op → OpEnd → Option Doing → Option Doing → Actor → Type 0
Behind k a op end d v x =
    let p = after_event script (past script (take k the_ends)) (Do a op) (Ended end) in
    (p.doing x ≡ of_two d v x) × (is_busy (p.state x).life ≡ false)

-- Holds if the actor's entries are the requests of its operation, if it has one.
abbrev Followed : List Entry → Actor → Option Doing → Type 0
Followed es x None = Unit {0}
Followed es x (Some d) = OpFollows setting x d (by_actor x es)

followed : (es : List Entry) (x : Actor) (o : Option Doing) (d : Doing) → o ≡ Some d → Followed es x o
    → OpFollows setting x d (by_actor x es)
followed es x o d h g = grind arith

follows : (es : List Entry) (d v : Option Doing) → Followed es Driver d → Followed es worker v → (x : Actor) (c : Doing)
    → of_two d v x ≡ Some c → OpFollows setting x c (by_actor x es)
follows es d v g h = by_actors (λ x. (c : Doing) → of_two d v x ≡ Some c → OpFollows setting x c (by_actor x es))
    (λ c e. followed es Driver d c e g)
    (λ c e. followed es worker v c e h)
    (λ t a k c e. absurd (none_some (ap (λ b. cond b v None) k) e))
    (λ c e. absurd (none_some refl e))

-- An event that does a whole operation, after which no actor is busy.
does : (k : ℕ) (a : Actor) (op : Op) (end : OpEnd) (d v : Option Doing) (began : Doing)
    → refusal (past script (take k the_ends)).state (Do a op) ≡ None
    → AllBy a (of_event (length (take k the_ends) + 1) (until (k + 1) journal))
    → ((x : Actor) → Behind k a op end d v x) → Followed (until (k + 1) journal) Driver d → Followed (until (k + 1) journal) worker v
    → of_two d v a ≡ Some began → op_over setting a began (by_actor a (until (k + 1) journal)) ≡ Some end
    → (ev : Event) (x : EventEnd) → Some (Do a op) ≡ Some ev → Some (Ended end) ≡ Some x
    → Obeyed setting (take k the_ends) (until (k + 1) journal) ev x
does k a op end d v began may turns behind g h is over ev x e f =
    subst (λ (p : Event × EventEnd). Obeyed setting (take k the_ends) (until (k + 1) journal) p.0 p.1) (λ i. (some_is e i, some_is f i))
    (record {
      refused = λ f e. absurd (cc);
      refuses = λ f e. absurd (none_some may e);
      silent = λ f e. absurd (cc);
      turns = λ e. turns;
      follow = λ y c e. follows (until (k + 1) journal) d v g h y c (sym (behind y).0 ∙ e);
      goes_on = λ y c e u. absurd (false_true (behind y).1 u);
      over = one_over setting (after_event script (past script (take k the_ends)) (Do a op) (Ended end)).doing a end began
          (until (k + 1) journal) ((behind a).0 ∙ is) over;
    })

all_obeyed : AllObeyed setting the_ends journal
unfolding digits
all_obeyed zero =
    does 0 Driver ops.Setup (ends.Setup setups.Done) (Some setup_doing) None setup_doing refl (refl, (refl, (refl, tt)))
    (by_actors (Behind 0 Driver ops.Setup (ends.Setup setups.Done) (Some setup_doing) None) (refl, refl) (refl, refl)
    (λ t a h. (rw h refl, refl)) (refl, refl)) goes.setup.0 tt refl goes.setup.1
all_obeyed (suc zero) =
    does 1 worker ops.Write (ends.Task tasks.Done) (Some setup_doing) (Some write_doing) write_doing refl (refl, (refl, (refl, (refl, tt))))
    (by_actors (Behind 1 worker ops.Write (ends.Task tasks.Done) (Some setup_doing) (Some write_doing)) (refl, refl) (refl, refl)
    (λ t a h. (rw h refl, rw h refl)) (refl, refl)) goes.setup.0 goes.write.0 refl goes.write.1
all_obeyed (suc (suc zero)) =
    does 2 worker ops.Commit (ends.Task tasks.Done) (Some setup_doing) (Some task_doing) task_doing refl (refl, (refl, (refl, tt)))
    (by_actors (Behind 2 worker ops.Commit (ends.Task tasks.Done) (Some setup_doing) (Some task_doing)) (refl, refl) (refl, refl)
    (λ t a h. (rw h refl, rw h refl)) (refl, refl)) goes.setup.0 goes.task.0 refl goes.task.1
all_obeyed (suc (suc (suc zero))) =
    does 3 Driver ops.Commit (ends.Commit commits.Committed) (Some commit_doing) (Some task_doing) commit_doing refl
    (refl, (refl, (refl, tt)))
    (by_actors (Behind 3 Driver ops.Commit (ends.Commit commits.Committed) (Some commit_doing) (Some task_doing)) (refl, refl) (refl, refl)
    (λ t a h. (rw h refl, rw h refl)) (refl, refl)) goes.commit.0 goes.task.0 refl goes.commit.1
all_obeyed (suc (suc (suc (suc k)))) = λ ev end e f. absurd (none_some refl e)

pub plays : Plays setting the_ends journal
plays = record {
  obeyed = all_obeyed;
  unended = λ ev e. absurd (none_some refl e);
  numbered = search (arith) parts 20;
  none = λ e. refl;
  rising = search (arith) parts 40;
  past = search (arith) parts 20;
  within = omega arith;
}
