-- Scripts as numbers and pairs, by which proofs tell scripts apart.
use Rattle.job_model.specs.Attempts.{Declared, Who}
use Rattle.job_model.specs.JobScript.{Script}
use Rattle.job_model.specs.declared.events.Event.{Event}
use Rattle.job_model.specs.declared.events.Op.{Op}
use Rattle.path_keys.specs.Paths.{Path}
use Rattle.pending_json.specs.Committers.{coded_committer}
use Rattle.s3_types.specs.Coded.{coded_text}
use Rattle.s3_types.specs.Fates.{FateMap, coded_fates}
use Rattle.s3_types.specs.declared.request.Actor.{Actor}
use Rattle.s3_types.specs.declared.request.Actor.TheVariants.{Attempt, Driver, Shell}
use Rattle.s3_types.specs.declared.request.Committer.{Committer}
use Rattle.s3_types.specs.declared.request.Mode.{Mode}
use Rattle.s3_types.specs.declared.request.Mode.TheVariants.{Append, Fail, Replace}
use Rattle.std.specs.Coded.{Coded, code_by, coded_bool, coded_list, coded_option, coded_ℕ, coded×}
use Rattle.std.specs.Prelude.{Bool, List, Option, refl, suc, zero, ℕ, ◌≡◌}
use Rattle.job_model.specs.declared.events.Op.TheVariants as op
use Rattle.job_model.specs.declared.events.Event.TheVariants as event

-- The number of a conflict mode.
abbrev pub mode_number : Mode → ℕ
mode_number Fail = 0
mode_number Append = 1
mode_number Replace = 2

-- The conflict mode with this number.
abbrev pub numbered_mode : ℕ → Mode
numbered_mode zero = Fail
numbered_mode (suc zero) = Append
numbered_mode (suc (suc n)) = Replace

-- The mode with the number of `m` is `m`.
abbrev pub mode_again : (m : Mode) → numbered_mode (mode_number m) ≡ m
mode_again Fail = refl
mode_again _ = refl

-- The number of an operation.
abbrev pub op_number : Op → ℕ
op_number op.Setup = 0
op_number op.Write = 1
op_number op.Commit = 2
op_number op.Abort = 3
op_number op.Clean = 4

-- The operation with this number.
abbrev pub numbered_op : ℕ → Op
numbered_op zero = op.Setup
numbered_op (suc zero) = op.Write
numbered_op (suc (suc zero)) = op.Commit
numbered_op (suc (suc (suc zero))) = op.Abort
numbered_op (suc (suc (suc (suc n)))) = op.Clean

-- The operation with the number of `o` is `o`.
abbrev pub op_again : (o : Op) → numbered_op (op_number o) ≡ o
op_again op.Setup = refl
op_again _ = refl

-- An actor as its kind and its numbers.
abbrev pub actor_numbers : Actor → ℕ × (ℕ × ℕ)
actor_numbers Driver = (0, (0, 0))
actor_numbers (Attempt task attempt) = (1, (task, attempt))
actor_numbers Shell = (2, (0, 0))

-- The actor of a kind with these numbers.
abbrev pub numbered_actor : ℕ → ℕ → ℕ → Actor
numbered_actor zero task attempt = Driver
numbered_actor (suc zero) task attempt = Attempt task attempt
numbered_actor (suc (suc n)) task attempt = Shell

-- The actor with the kind and numbers of `a` is `a`.
abbrev pub actor_again : (a : Actor) → numbered_actor (actor_numbers a).0 (actor_numbers a).1.0 (actor_numbers a).1.1 ≡ a
actor_again Driver = refl
actor_again _ = refl

-- The code of an actor.
abbrev pub coded_actor : Coded Actor
coded_actor = code_by (ℕ × (ℕ × ℕ)) (coded× coded_ℕ (coded× coded_ℕ coded_ℕ)) actor_numbers (λ p. numbered_actor p.0 p.1.0 p.1.1)
    actor_again

-- The code of an operation.
abbrev pub coded_op : Coded Op
coded_op = code_by ℕ coded_ℕ op_number numbered_op op_again

-- An event as its kind, actor, operation and number.
abbrev pub event_parts : Event → ℕ × (Actor × (Op × ℕ))
event_parts (event.Do actor op) = (0, (actor, (op, 0)))
event_parts (event.Start actor op) = (1, (actor, (op, 0)))
event_parts (event.Step actor count) = (2, (actor, (op.Setup, count)))
event_parts (event.Run actor) = (3, (actor, (op.Setup, 0)))
event_parts (event.Kill actor) = (4, (actor, (op.Setup, 0)))
event_parts (event.Mix seed) = (5, (Driver, (op.Setup, seed)))
event_parts event.Restart = (6, (Driver, (op.Setup, 0)))
event_parts (event.Recover actor) = (7, (actor, (op.Setup, 0)))

-- The event of a kind with this actor, operation and number.
abbrev pub event_of : ℕ → Actor → Op → ℕ → Event
event_of zero actor op number = event.Do actor op
event_of (suc zero) actor op number = event.Start actor op
event_of (suc (suc zero)) actor op number = event.Step actor number
event_of (suc (suc (suc zero))) actor op number = event.Run actor
event_of (suc (suc (suc (suc zero)))) actor op number = event.Kill actor
event_of (suc (suc (suc (suc (suc zero))))) actor op number = event.Mix number
event_of (suc (suc (suc (suc (suc (suc zero)))))) actor op number = event.Restart
event_of (suc (suc (suc (suc (suc (suc (suc n))))))) actor op number = event.Recover actor

-- The event with the parts of `e` is `e`.
abbrev pub event_again : (e : Event) → event_of (event_parts e).0 (event_parts e).1.0 (event_parts e).1.1.0 (event_parts e).1.1.1 ≡ e
event_again (event.Do actor op) = refl
event_again _ = refl

-- The code of an event.
abbrev pub coded_event : Coded Event
coded_event = code_by (ℕ × (Actor × (Op × ℕ))) (coded× coded_ℕ (coded× coded_actor (coded× coded_op coded_ℕ))) event_parts
    (λ p. event_of p.0 p.1.0 p.1.1.0 p.1.1.1) event_again

-- The code of an attempt's name.
abbrev pub coded_name : Coded Who
coded_name = code_by (ℕ × ℕ) (coded× coded_ℕ coded_ℕ) (λ n. (n.task, n.attempt)) (λ p. record { task = p.0; attempt = p.1 }) (λ _. refl)

-- The code of an attempt with its files.
abbrev pub coded_declared : Coded Declared
coded_declared = coded× coded_name (coded_list (coded× coded_text coded_text))

-- The code of a path: a bucket and a key.
abbrev pub coded_path : Coded Path
coded_path = code_by (List ℕ × List ℕ) (coded× coded_text coded_text) (λ p. (p.bucket, p.key)) (λ p. record { bucket = p.0; key = p.1 })
    (λ _. refl)

-- The code of a script.
abbrev pub coded_script : Coded Script
coded_script =
    code_by (List ℕ × (Path × (Committer × (Mode × (Bool ×
    (ℕ × (ℕ × (ℕ × (ℕ × (Option ℕ × (FateMap × (List Declared × List Event))))))))))))
    (coded× coded_text (coded× coded_path (coded× coded_committer (coded× (code_by ℕ coded_ℕ mode_number numbered_mode mode_again)
    (coded× coded_bool (coded× coded_ℕ (coded× coded_ℕ (coded× coded_ℕ
    (coded× coded_ℕ (coded× (coded_option coded_ℕ) (coded× coded_fates
    (coded× (coded_list coded_declared) (coded_list coded_event)))))))))))))
    (λ s. (
      s.job,
      (
        s.dest,
        (
          s.committer,
          (
            s.mode,
            (
              s.unique,
              (
                s.tasks,
                (s.retries, (s.block, (s.lanes, (s.stamp, (s.fates, (s.attempts, s.events)))))),
              ),
            ),
          ),
        ),
      ),
    ))
    (λ p. record {
      job = p.0;
      dest = p.1.0;
      committer = p.1.1.0;
      mode = p.1.1.1.0;
      unique = p.1.1.1.1.0;
      tasks = p.1.1.1.1.1.0;
      retries =
          p.1.1.1.1.1.1.0;
      block = p.1.1.1.1.1.1.1.0;
      lanes = p.1.1.1.1.1.1.1.1.0;
      stamp = p.1.1.1.1.1.1.1.1.1.0;
      fates =
          p.1.1.1.1.1.1.1.1.1.1.0;
      attempts = p.1.1.1.1.1.1.1.1.1.1.1.0;
      events = p.1.1.1.1.1.1.1.1.1.1.1.1;
    })
    (λ _. refl)
