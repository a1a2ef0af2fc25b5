-- A run of allowed steps is one of the job's runs, and the operation of each actor fits the actor's life and stage.
use Rattle.text_and_lists.proofs.Members.{false_true, none_some, some_is, true_or_false}
use Rattle.job_invariant.proofs.Whose.{attempt, who_is}
use Rattle.job_invariant.specs.Foreign.{IsForeign}
use Rattle.job_invariant.specs.Told.{Told, driver_entry, entry, known, nothing_told, strange_entry}
use Rattle.job_model.specs.Attempts.{Who, actor_of, same_name}
use Rattle.job_model.specs.Legal.{IsLegal}
use Rattle.job_model.specs.declared.ends.OpEnd.{OpEnd}
use Rattle.job_model.specs.declared.states.ActorStage.{ActorStage}
use Rattle.job_model.specs.declared.states.ActorState.{ActorState}
use Rattle.job_model.specs.declared.states.Life.{Life}
use Rattle.job_model.specs.declared.states.Life.TheVariants.{Busy, Dead}
use Rattle.job_protocol.specs.Knowledge.{knows, learn}
use Rattle.job_protocol.specs.Operations.{Operation, Running, Setting, advance, asks, learn_of, over, tells, wants, who}
use Rattle.job_protocol.specs.Seen.{Times}
use Rattle.job_spec.specs.States.{ended, is_new, put}
use Rattle.job_spec.specs.Turns.{by_actor}
use Rattle.script_steps.proofs.Actors.{one_put}
use Rattle.script_steps.proofs.RunningNumbers.{begun_at}
use Rattle.script_steps.proofs.RunningStages.{Begun, DriverAt, IsTimed, driver_asks, driver_ends, driver_hears, driver_kind, driver_set}
use Rattle.script_steps.proofs.RunningStages.{timed_sends, timed_tells}
use Rattle.script_steps.proofs.RunningTasks.{AttemptAt, attempt_ends, attempt_hears}
use Rattle.script_steps.specs.Running.{operation_of}
use Rattle.protocol_runs.proofs.Changes.{moment_scene}
use Rattle.protocol_runs.proofs.Entries.{tells_so}
use Rattle.protocol_runs.proofs.Learnt.{known_is}
use Rattle.protocol_runs.specs.Runs.{IsOpening, Runs, Stand, attempt_sends, commit_with, driver_sends, is_set, saw, strays, with_attempt}
use Rattle.protocol_runs.specs.Runs.{with_commit, with_driver}
use Rattle.s3_types.specs.Answer.{answer}
use Rattle.s3_types.specs.Moment.{IsHonestOutcome, moment}
use Rattle.s3_types.specs.Store.{Content, Scene}
use Rattle.s3_types.specs.declared.journal.Entry.{Entry}
use Rattle.s3_types.specs.declared.journal.Outcome.{Outcome}
use Rattle.s3_types.specs.declared.request.Actor.{Actor}
use Rattle.s3_types.specs.declared.request.Actor.TheVariants.{Attempt, Driver, Shell}
use Rattle.s3_types.specs.declared.request.Request.{Request}
use Rattle.std.proofs.Common.{List, None, Option, Some, ap, arith, cond, false, inl, inr, length, refl, subst, sym, true, ℕ, [], ◌++◌, ◌^◌}
use Rattle.std.proofs.Common.{◌∙◌, ◌∷◌, ◌≡◌, ◌≤◌}

-- The state is that of one of the job's runs, and its actors began these operations last.
pub record Ran (g : Setting) (opening : Content) (k : Times) (journal : List Entry) (running : Actor → Option Running) (stand : Stand) :
    Type 0 where
  pub runs : Runs g k opening journal stand
  pub cleans : stand.told.cleans_at ≡ k.clean
  pub driver : stand.driver ≡ operation_of (running Driver)
  pub attempts : (a : Who) → stand.attempts a ≡ operation_of (running (actor_of a))
  -- What an attempt knew when it sent last is what it knows now.
  pub last : (a : Who) (m : Running) → running (actor_of a) ≡ Some m → m.known ≡ known stand.told a
  pub nobody : running Shell ≡ None

-- The driver and the attempts are in these states and run these operations; b says whether the commit, and an abort or clean, have begun.
pub record Along (g : Setting) (opening : Content) (k : Times) (b : Begun) (journal : List Entry) (running : Actor → Option Running)
    (state : Actor → ActorState) : Type 0 where
  pub stand : Stand
  pub ran : Ran g opening k journal running stand
  pub open ran use *
  pub timed : IsTimed b (operation_of (running Driver))
  pub driver_at : DriverAt (state Driver).stage (state Driver).life (operation_of (running Driver))
  -- While the driver is new, no attempt has begun anything.
  pub unset : is_new (state Driver).stage ≡ true → (a : Who) → operation_of (running (actor_of a)) ≡ None
  pub attempt_at : (a : Who) → AttemptAt (state (actor_of a)).stage (state (actor_of a)).life (operation_of (running (actor_of a)))

-- ---- the operation of an actor

abbrev pub ActorAt : Actor → ActorStage → Life → Option Operation → Type 0
ActorAt Driver s l d = DriverAt s l d
ActorAt (Attempt t n) s l d = AttemptAt s l d
ActorAt Shell s l d = Unit {0}

pub actor_dies : (a : Actor) (s : ActorStage) (l : Life) (d : Option Operation) → ActorAt a s l d → ActorAt a s Dead d
actor_dies a s l d h = grind arith

-- When its operation ends, the operation still fits the actor's new state, and the driver is new only if it was new before.
pub actor_ends : (a : Actor) (s : ActorStage) (op : Operation) (e : OpEnd) → ActorAt a s Busy (Some op) → over op ≡ Some e
    → ActorAt a (ended e s).stage (ended e s).life (Some op) × (a ≡ Driver → is_new (ended e s).stage ≡ true → is_new s ≡ true)
actor_ends Driver s op e h o = let x = driver_ends s op e h o in (x.0, λ is. x.1)
actor_ends (Attempt t n) s op e h o = (attempt_ends s op e h o, λ is. absurd cc)
actor_ends Shell s op e h o = (tt, λ is. absurd cc)

module _ (g : Setting) (opening : Content) (k : Times) (j : IsLegal g.script) (is_opening : IsOpening g opening) where
  -- What an attempt knows by its entries.
  pub told_known : (es : List Entry) (x : Stand) → Runs g k opening es x → (a : Who)
      → known x.told a ≡ knows g.script a (by_actor (actor_of a) es)
  told_known es x run a = ap (λ m. known m a) (tells_so g k opening j is_opening es x run) ∙ known_is g.script a es
      (nothing_told x.told.cleans_at)

  module _ {b : Begun} {es : List Entry} {r : Actor → Option Running} {st : Actor → ActorState} (h : Along g opening k b es r st) where
    pub set_up : is_new (st Driver).stage ≡ false → is_set h.stand.driver ≡ true
    set_up n = ap is_set h.driver ∙ driver_set (st Driver).stage (st Driver).life (operation_of (r Driver)) h.driver_at n

    pub at_of : (a : Actor) → ActorAt a (st a).stage (st a).life (operation_of (r a))
    at_of Driver = h.driver_at
    at_of (Attempt t n) = h.attempt_at (attempt t n)
    at_of Shell = tt

    -- The operation of a busy actor.
    pub busy_at : (a : Actor) (m : Running) → (st a).life ≡ Busy → r a ≡ Some m → ActorAt a (st a).stage Busy (Some m.operation)
    busy_at a m busy is = subst (λ l. ActorAt a (st a).stage l (Some m.operation)) busy
        (subst (λ o. ActorAt a (st a).stage (st a).life (operation_of o)) is (at_of a))

    -- ---- only the states change

    pub state_so : (a : Actor) (v : ActorState) → ActorAt a v.stage v.life (operation_of (r a))
        → (a ≡ Driver → is_new v.stage ≡ true → is_new (st a).stage ≡ true)
        → Along g opening k b es r (put st a v)
    state_so a v at new = record {
      stand = h.stand;
      ran = h.ran;
      timed = h.timed;
      driver_at = all Driver;
      unset = λ n c. h.unset (was n) c;
      attempt_at = λ c. all (actor_of c);
    }
      where
        all : (q : Actor) → ActorAt q (put st a v q).stage (put st a v q).life (operation_of (r q))
        all q = one_put (λ s. ActorAt q s.stage s.life (operation_of (r q))) st a v q
            (λ is. subst (λ c. ActorAt c v.stage v.life (operation_of (r c))) (sym is) at) (λ ne. at_of q)

        was : is_new (put st a v Driver).stage ≡ true → is_new (st Driver).stage ≡ true
        was = one_put (λ s. is_new s.stage ≡ true → is_new (st Driver).stage ≡ true) st a v Driver
            (λ is n. ap (λ c. is_new (st c).stage) is ∙ new (sym is) n) (λ ne n. n)

    -- ---- an operation begins

    pub driver_begins : (c : Begun) (m : Running) (v : ActorState) (y : Stand) → Runs g k opening es y → y.driver ≡ Some m.operation
        → y.attempts ≡ h.stand.attempts
        → y.told ≡ h.stand.told → IsTimed c (Some m.operation) → DriverAt v.stage v.life (Some m.operation)
        → (is_new v.stage ≡ true → is_new (st Driver).stage ≡ true)
        → Along g opening k c es (put r Driver (Some m)) (put st Driver v)
    driver_begins c m v y run d same told timed at new =
        let attempts : (a : Who) → y.attempts a ≡ operation_of (r (actor_of a)) = λ a. ap (λ f. f a) same ∙ h.attempts a in
        let last : (a : Who) (m : Running) → r (actor_of a) ≡ Some m
        → m.known ≡ known y.told a = λ a m e. h.last a m e ∙ ap (λ t. known t a) (sym told) in
        record {
          stand = y;
          ran = assumption (run, ap (λ (m : Told). m.cleans_at) told ∙ h.cleans, attempts, last, h);
          timed = timed;
          driver_at = at;
          unset = λ n a. h.unset (new n) a;
          attempt_at = h.attempt_at;
        }

    pub attempt_begins : (a : Who) (m : Running) (v : ActorState) → Runs g k opening es (with_attempt h.stand a m.operation)
        → is_new (st Driver).stage ≡ false
        → m.known ≡ known h.stand.told a → AttemptAt v.stage v.life (Some m.operation)
        → Along g opening k b es (put r (actor_of a) (Some m)) (put st (actor_of a) v)
    attempt_begins a m v run set learnt at =
        let x = with_attempt h.stand a m.operation in
        let attempts : (c : Who) → x.attempts c ≡ operation_of (put r (actor_of a) (Some m) (actor_of c)) =
        λ c. elim (same_name c a) as (λ s. cond s (Some m.operation) (h.stand.attempts c) ≡ operation_of (cond s (Some m) (r (actor_of c))))
        [ true ↦ refl | false ↦ h.attempts c ] in
        let last : (c : Who) (y : Running) → put r (actor_of a) (Some m) (actor_of c) ≡ Some y → y.known ≡ known h.stand.told c =
        λ c. (elim (same_name c a) as (λ s. (s ≡ true → c ≡ a) → (x : Running) → cond s (Some m) (r (actor_of c)) ≡ Some x
        → x.known ≡ known h.stand.told c) [
          | true ↦ λ same x e. ap (λ (z : Running). z.known) (sym (some_is e)) ∙ learnt ∙ ap (known h.stand.told) (sym (same refl))
          | false ↦ λ same. h.last c
        ]) (who_is c a) in
        record {
          stand = x;
          ran = assumption (run, attempts, last, h);
          timed = h.timed;
          driver_at = h.driver_at;
          unset = λ n c. absurd (false_true set n);
          attempt_at = λ c. elim (same_name c a) as (λ s. AttemptAt (cond s v (st (actor_of c))).stage (cond s v (st (actor_of c))).life
              (operation_of (cond s (Some m) (r (actor_of c))))) [ true ↦ at | false ↦ h.attempt_at c ];
        }

    -- ---- a request is sent

    scene_now : h.stand.seen.scene ≡ moment opening es (length es)
    scene_now = sym (moment_scene g k opening j is_opening es h.stand h.runs)

    due : (q : Request) (o : Outcome) → IsHonestOutcome o (answer (moment opening es (length es)) q)
        → IsHonestOutcome o (answer h.stand.seen.scene q)
    due q o honest = subst (λ s. IsHonestOutcome o (answer s q)) (sym scene_now) honest

    pub driver_sent : (n : ℕ) (q : Request) (o : Outcome) (m : Running) → begun_at k n ≡ b → (st Driver).life ≡ Busy → r Driver ≡ Some m
        → wants g Driver m ≡ Some q
        → IsHonestOutcome o (answer (moment opening es (length es)) q) → (moment opening es (length es)).content.next ≤ 2 ^ 64
        → Along g opening k b (es ++ driver_entry n q o ∷ []) (put r Driver (Some (advance g Driver m o))) st
    driver_sent n q o m begun busy is asked honest few =
        let x = h.stand in
        let op = m.operation in
        let here : operation_of (r Driver) ≡ Some op = ap operation_of is in
        let at : DriverAt (st Driver).stage Busy (Some op) = busy_at Driver m busy is in
        let timed : IsTimed b (Some op) = subst (IsTimed b) here h.timed in
        let asks_so = driver_asks g op m.known q (driver_kind (st Driver).stage Busy (Some op) at) asked in
        let left : x.seen.scene.content.next ≤ 2 ^ 64 = subst (λ (s : Scene). s.content.next ≤ 2 ^ 64) (sym scene_now) few in
        let timely = timed_sends k n op (subst (λ c. IsTimed c (Some op)) (sym begun) timed) in
        record {
          stand = with_commit (with_driver (saw g k x (driver_entry n q o)) (tells g (who Driver) op o))
              (commit_with op x.commit (driver_entry n q o));
          ran = assumption (driver_sends es x op n q o h.runs (h.driver ∙ here) asks_so timely left (due q o honest), h);
          timed = timed_tells g b op o timed;
          driver_at = subst (λ l. DriverAt (st Driver).stage l (Some (tells g (who Driver) op o))) (sym busy)
              (driver_hears g (st Driver).stage op o at);
          unset = h.unset;
          attempt_at = h.attempt_at;
        }

    pub attempt_sent : (a : Who) (n : ℕ) (q : Request) (o : Outcome) (m : Running) → (st (actor_of a)).life ≡ Busy → r (actor_of a) ≡ Some m
        → wants g (actor_of a) m ≡ Some q
        → IsHonestOutcome o (answer (moment opening es (length es)) q)
        → Along g opening k b (es ++ entry a n q o ∷ []) (put r (actor_of a) (Some (advance g (actor_of a) m o))) st
    attempt_sent a n q o m busy is asked honest =
        let x = h.stand in
        let op = m.operation in
        let next = advance g (actor_of a) m o in
        let here : operation_of (r (actor_of a)) ≡ Some op = ap operation_of is in
        let knew : m.known ≡ known x.told a = h.last a m is in
        let asks_so : asks g a (known x.told a) op ≡ Some q = subst (λ v. asks g a v op ≡ Some q) knew asked in
        let new : is_new (st Driver).stage ≡ false = elim (true_or_false (is_new (st Driver).stage))
        [ inl n ↦ absurd (none_some (h.unset n a) here) | inr n ↦ n ] in
        let v = learn g.script a (known x.told a) q o in
        let learnt : next.known ≡ v = ap (λ v. learn_of g.script a m.known v o) asked ∙ ap (λ v. learn g.script a v q o) knew in
        let there : AttemptAt (st (actor_of a)).stage (st (actor_of a)).life (Some (tells g a op o)) =
        subst (λ l. AttemptAt (st (actor_of a)).stage l (Some (tells g a op o))) (sym busy)
        (attempt_hears g a (st (actor_of a)).stage op o (busy_at (actor_of a) m busy is)) in
        record {
          stand = with_attempt (saw g k x (entry a n q o)) a (tells g a op o);
          ran = record {
            runs = attempt_sends es x a op n q o h.runs (set_up new) (h.attempts a ∙ here) asks_so (due q o honest);
            cleans = h.cleans;
            driver = h.driver;
            attempts = λ c. elim (same_name c a) as (λ s. cond s (Some (tells g a op o)) (x.attempts c) ≡ operation_of
                (cond s (Some next) (r (actor_of c)))) [ true ↦ refl | false ↦ h.attempts c ];
            last = λ c y. elim (same_name c a) as
                (λ s. cond s (Some next) (r (actor_of c)) ≡ Some y
                → y.known ≡ record {
                  drawn = cond s v.drawn (x.told.drawn c);
                  put_sent = cond s v.put_sent (x.told.put_sent c);
                  publish_sent = cond s v.publish_sent (x.told.publish_sent c);
                }) [
                  | true ↦ λ e. ap (λ (z : Running). z.known) (sym (some_is e)) ∙ learnt
                  | false ↦ h.last c y
                ];
            nobody = h.nobody;
          };
          timed = h.timed;
          driver_at = h.driver_at;
          unset = λ u c. absurd (false_true new u);
          attempt_at =
              λ c. (elim (same_name c a) as (λ s. (s ≡ true → c ≡ a)
              → AttemptAt (st (actor_of c)).stage (st (actor_of c)).life (operation_of (cond s (Some next) (r (actor_of c))))) [
                | true ↦ λ same. subst (λ z. AttemptAt (st (actor_of z)).stage (st (actor_of z)).life (Some (tells g a op o)))
                    (sym (same refl)) there
                | false ↦ λ same. h.attempt_at c
              ]) (who_is c a);
        }

    -- A stranger sends a request that is foreign.
    pub strays_on : (n : ℕ) (q : Request) (o : Outcome) → IsForeign g.script (λ a. (knows g.script a (by_actor (actor_of a) es)).drawn) q
        → Along g opening k b (es ++ strange_entry n q o ∷ []) r st
    strays_on n q o foreign = record {
      stand = saw g k h.stand (strange_entry n q o);
      ran = assumption (
        strays es h.stand n q o h.runs (subst (λ v. IsForeign g.script v q)
            (λ i a. (sym (told_known es h.stand h.runs a) i).drawn) foreign),
        h,
      );
      timed = h.timed;
      driver_at = h.driver_at;
      unset = h.unset;
      attempt_at = h.attempt_at;
    }
