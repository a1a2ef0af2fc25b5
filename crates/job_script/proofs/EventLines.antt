-- The lines of events. Reading a printed line gives its event, and what is read keeps the bounds.
use Rattle.text_and_lists.proofs.Bools.{contrary}
use Rattle.text_and_lists.proofs.Reading.{checked, made_so, needed, parted, same_ok}
use Rattle.text_and_lists.proofs.Round.{number_in-decimal, two_numbers}
use Rattle.text_and_lists.proofs.Split.{lone_from}
use Rattle.text_and_lists.specs.Parts.{parts_of}
use Rattle.text_and_lists.specs.Reading.{check, need, ◌>>=◌}
use Rattle.text_and_lists.specs.Shapes.{one, two}
use Rattle.job_model.specs.Attempts.{Declared, actor_of, declares, is_known, same_name}
use Rattle.job_model.specs.Files.{File}
use Rattle.job_model.specs.Legal.{AreAttempts, AreEvents, HasOp, IsEvent}
use Rattle.job_model.specs.Words.{op_word}
use Rattle.job_model.specs.declared.attempts.AttemptName.{AttemptName}
use Rattle.job_model.specs.declared.events.Event.{Event}
use Rattle.job_model.specs.declared.events.Op.{Op}
use Rattle.job_script.proofs.AttemptLines.{group_after, group_ended, name_again, name_lettered}
use Rattle.job_script.proofs.HeadLines.{drafted}
use Rattle.job_script.proofs.Lines.{Goes, IsPrinted, each_goes, goes_on, printed, said}
use Rattle.job_script.proofs.Words.{decimal_lettered, is_lettered, number_bounds}
use Rattle.job_script.specs.AttemptLines.{name_at}
use Rattle.job_script.specs.EventLines.{actor_at, alone_at, event_at, event_line_at, is_driver, op_of, order_at, recover_at, restart_at}
use Rattle.job_script.specs.EventLines.{step_at}
use Rattle.job_script.specs.HeadLines.{number, value_at}
use Rattle.job_script.specs.Kinds.{attempt_ops, driver_ops, named}
use Rattle.job_script.specs.Print.{event_line}
use Rattle.job_script.specs.Script.{kind_of, said_at, words_at}
use Rattle.job_script.specs.declared.draft.Draft.{Draft}
use Rattle.job_script.specs.declared.draft.Group.{Group}
use Rattle.job_script.specs.declared.fault.ScriptFault.TheVariants.{BadLine, TooLarge, UnknownActor}
use Rattle.job_script.specs.declared.head.Head.{Head}
use Rattle.job_script.specs.declared.kinds.EventWord.{EventWord}
use Rattle.s3_types.specs.Spelling.{actor_text}
use Rattle.s3_types.specs.declared.request.Actor.{Actor}
use Rattle.std.proofs.Common.{Bool, List, Ok, Option, Some, ap, arith, cond, decimal, false, length, lit<, map, refl, subst, sym, true, ℕ}
use Rattle.std.proofs.Common.{[], ◌++◌, ◌+◌, ◌<◌, ◌∙◌, ◌∷◌, ◌≡◌, ◌≤◌}
use Rattle.std.proofs.lemmas.Bool.{lt-ltb, ltb-true}
use Rattle.std.proofs.lemmas.List.{length-append}
use Rattle.std.proofs.lemmas.Slice.Eq.{bytes_eq-Decides}
use Rattle.std.specs.List.{AllByRecursion}
use Rattle.std.specs.Map.{lookup}
use Rattle.std.specs.Prelude.{codes, if◌then◌else◌, is_some, nat_lt}
use Rattle.s3_types.specs.declared.request.Actor.TheVariants as actor
use Rattle.job_model.specs.declared.events.Op.TheVariants as op
use Rattle.job_model.specs.declared.events.Event.TheVariants as event
use Rattle.job_script.specs.declared.draft.Group.TheVariants as group
use Rattle.job_script.specs.declared.kinds.EventWord.TheVariants as words
use Rattle.job_script.specs.declared.kinds.Kind.TheVariants as kind

-- ---- actors

-- The bounds of an attempt's numbers.
pub record IsNamed (t a : ℕ) : Type 0 where
  pub task : t ≤ 999
  pub attempt : a ≤ 99

-- Holds if the names of attempts are in their ranges.
abbrev pub AreNamed : List Declared → Type 0
AreNamed all = AllByRecursion (λ (a : Declared). IsNamed a.0.task a.0.attempt) all

pub are_named : (tasks : ℕ) (before all : List Declared) → tasks ≤ 1000 → AreAttempts tasks before all → AreNamed all
are_named tasks before [] t h = tt
are_named tasks before (a ∷ more) t h = (
  record { task = omega (arith, t, h.0); attempt = h.1 },
  are_named tasks (before ++ a ∷ []) more t
      h.4,
)

named_or : (t a : ℕ) (name : AttemptName) (files : List File) (later : Option (List File)) → IsNamed name.task name.attempt
    → (is_some later ≡ true → IsNamed t a) → is_some (cond (same_name (record { task = t; attempt = a }) name) (Some files) later) ≡ true
    → IsNamed t a
named_or t a name files later is old h = grind arith

declared_named : (all : List Declared) (t a : ℕ) → AreNamed all → declares all (record { task = t; attempt = a }) ≡ true → IsNamed t a
declared_named [] t a h k = absurd cc
declared_named (d ∷ all) t a h k = named_or t a d.0 d.1 (lookup (same_name (record { task = t; attempt = a })) all) h.0
    (declared_named all t a h.1) k

-- T.A is not the word `driver`, which has no dot.
not_driver : (t a : ℕ) → IsNamed t a → is_driver (actor_text (actor.Attempt t a)) ≡ false
not_driver t a h = contrary (is_driver (actor_text (actor.Attempt t a))) (λ e.
    let same : actor_text (actor.Attempt t a) ≡ codes "driver" = (bytes_eq-Decides (actor_text (actor.Attempt t a)) (codes "driver")).0 e in
    let parts : decimal t ∷ decimal a ∷ [] ≡ codes "driver" ∷ [] = sym (two_numbers 46 t a (lit< tt) (omega (arith, h.task))
    (omega (arith, h.attempt))) ∙ ap (parts_of 46) same ∙ lone_from 46 [] (codes "driver") refl in
    absurd cc)

actor_from : (n t a : ℕ) (word : List ℕ) → is_driver word ≡ false → word ≡ actor_text (actor.Attempt t a) → IsNamed t a
    → actor_at n word ≡ Ok (actor.Attempt t a)
unfolding actor_at
actor_from n t a word d e h = rw d (ap (λ r. r >>= λ (name : AttemptName). Ok (actor.Attempt name.task name.attempt))
    (ap (name_at n) e ∙ name_again n t a h.task h.attempt))

-- Holds if reading the text of an actor gives the actor, and the text is a word of letters.
record IsAgain (n : ℕ) (x : Actor) : Type 0 where
  pub read : actor_at n (actor_text x) ≡ Ok x
  pub lettered : is_lettered (actor_text x) ≡ true

actor_again : (n : ℕ) (all : List Declared) (x : Actor) → AreNamed all → is_known all x ≡ true → IsAgain n x
unfolding actor_at
actor_again n all actor.Driver named k = record { read = refl; lettered = refl }
actor_again n all (actor.Attempt t a) named k =
    let h = declared_named all t a named k in
    record {
      read = actor_from n t a (actor_text (actor.Attempt t a)) (not_driver t a h) refl h;
      lettered = name_lettered t a h.task
          h.attempt;
    }
actor_again n all actor.Shell named k = absurd cc

-- ---- operations

op_from : (word : List ℕ) (o : Op) (t a : ℕ) → is_driver word ≡ false → HasOp (actor.Attempt t a) o → op_of word (op_word o) ≡ Some o
op_from word op.Setup t a d h = absurd h
op_from word op.Clean t a d h = absurd h
op_from word o t a d h = rw d refl

op_again : (all : List Declared) (x : Actor) (o : Op) → AreNamed all → is_known all x ≡ true → HasOp x o
    → op_of (actor_text x) (op_word o) ≡ Some o
op_again all actor.Driver op.Write named k h = absurd h
op_again all actor.Driver o named k h = refl
op_again all (actor.Attempt t a) o named k h = op_from (actor_text (actor.Attempt t a)) o t a
    (not_driver t a (declared_named all t a named k)) h
op_again all actor.Shell o named k h = absurd h

op_lettered : (o : Op) → is_lettered (op_word o) ≡ true
op_lettered op.Setup = refl
op_lettered o = refl

-- ---- reading a printed event

-- The draft after these events.
abbrev happened : Group → Head → List Declared → List Event → Draft
happened g h all es = drafted (group_after g group.Events es) h all es

event_words : (n : ℕ) (g : Group) (h : Head) (all : List Declared) (before : List Event) (e : Event) (word : List ℕ) (k : EventWord)
    (values : List (List ℕ))
    → kind_of word ≡ Some (kind.Event k) → event_at n k (drafted group.Events h all before) values ≡ Ok e → length before < 100000
    → words_at n (happened g h all before) (word ∷ values) ≡ Ok (happened g h all (before ++ e ∷ []))
unfolding said_at event_line_at
event_words n g h all before e word k values is read few =
    said n word (kind.Event k) group.Events values (happened g h all before) _ is refl
    (rw (read, lt-ltb (length before) 100000 few) (ap (λ (z : Group). Ok (drafted z h all (before ++ e ∷ [])))
    (sym (group_ended g group.Events before e))))

-- Holds if the line of an event can be printed, and reading it adds the event.
record IsBack (n : ℕ) (g : Group) (h : Head) (all : List Declared) (before : List Event) (e : Event) : Type 0 where
  pub printed : IsPrinted (event_line e)
  pub read : words_at n (happened g h all before) (event_line e) ≡ Ok (happened g h all (before ++ e ∷ []))

event_again : (n : ℕ) (g : Group) (h : Head) (all : List Declared) (before : List Event) (e : Event) → AreNamed all → IsEvent all e
    → length before < 100000 → IsBack n g h all before e
unfolding order_at alone_at step_at restart_at recover_at number
event_again n g h all before (event.Do x o) named is few =
    let a = actor_again n all x named is.0 in
    record {
      printed = printed (codes "do") (actor_text x ∷ op_word o ∷ []) (rw (a.lettered, op_lettered o) refl) refl;
      read = event_words n g h all before (event.Do x o) (codes "do") words.Do (actor_text x ∷ op_word o ∷ []) refl
          (rw (op_again all x o named is.0 is.1, a.read, is.0) refl) few;
    }
event_again n g h all before (event.Start x o) named is few =
    let a = actor_again n all x named is.0 in
    record {
      printed = printed (codes "start") (actor_text x ∷ op_word o ∷ []) (rw (a.lettered, op_lettered o) refl) refl;
      read = event_words n g h all before (event.Start x o) (codes "start") words.Start (actor_text x ∷ op_word o ∷ []) refl
          (rw (op_again all x o named is.0 is.1, a.read, is.0) refl) few;
    }
event_again n g h all before (event.Step x count) named is few =
    let a = actor_again n all x named is.0 in
    record {
      printed = printed (codes "step") (actor_text x ∷ decimal count ∷ []) (rw (a.lettered, decimal_lettered count (omega (arith, is.2)))
          refl) refl;
      read = event_words n g h all before (event.Step x count) (codes "step") words.Step (actor_text x ∷ decimal count ∷ []) refl
          (rw (a.read, number_in-decimal 1 1000000 count is.1 is.2 (lit< tt), is.0) refl) few;
    }
event_again n g h all before (event.Run x) named is few =
    let a = actor_again n all x named is in
    record {
      printed = printed (codes "run") (actor_text x ∷ []) (rw a.lettered refl) refl;
      read = event_words n g h all before
          (event.Run x) (codes "run") words.Run (actor_text x ∷ []) refl (rw (a.read, is) refl) few;
    }
event_again n g h all before (event.Kill x) named is few =
    let a = actor_again n all x named is in
    record {
      printed = printed (codes "kill") (actor_text x ∷ []) (rw a.lettered refl) refl;
      read = event_words n g h all before
          (event.Kill x) (codes "kill") words.Kill (actor_text x ∷ []) refl (rw (a.read, is) refl) few;
    }
event_again n g h all before (event.Mix seed) named is few =
    record {
      printed = printed (codes "mix") (decimal seed ∷ []) (rw (decimal_lettered seed (omega (arith, is))) refl) refl;
      read = event_words n g h all before (event.Mix seed) (codes "mix") words.Mix (decimal seed ∷ []) refl
          (rw (number_in-decimal 0 2147483647 seed (omega arith) is (lit< tt)) refl) few;
    }
event_again n g h all before event.Restart named is few =
    record {
      printed = printed (codes "restart") (codes "driver" ∷ []) refl refl;
      read = event_words n g h all before event.Restart
          (codes "restart") words.Restart (codes "driver" ∷ []) refl refl few;
    }
event_again n g h all before (event.Recover (actor.Attempt t a)) named is few =
    let name = declared_named all t a named is in
    let text = actor_text (actor.Attempt t a) in
    record {
      printed = printed (codes "recover") (text ∷ []) (rw (name_lettered t a name.task name.attempt) refl) refl;
      read = event_words n g h all before (event.Recover (actor.Attempt t a)) (codes "recover") words.Recover (text ∷ []) refl
          (rw (name_again n t a name.task name.attempt, is) refl) few;
    }
event_again n g h all before (event.Recover x) named is few = absurd is

pub events_go : (n : ℕ) (g : Group) (h : Head) (all : List Declared) (es : List Event) → AreNamed all → AreEvents all es
    → length es ≤ 100000 → Goes n (happened g h all []) (map event_line es) (happened g h all es)
events_go n g h all es named are few =
    each_goes (λ e. event_line e ∷ []) (map event_line) refl (λ e more. refl) (happened g h all) es (λ before after. AreEvents all after)
    (λ m before e more whole is.
    let long : length es ≡ length before + length (e ∷ more) = ap length (sym whole) ∙ length-append before (e ∷ more) in
    let b = event_again m g h all before e named is.0 (omega arith) in
    (goes_on m (happened g h all before) (happened g h all (before ++ e ∷ [])) (event_line e) b.printed b.read, is.1)) n [] es refl are

-- ---- what is read keeps the bounds

-- The operation that is read is one of the actor's.
has_op_at : (b : Bool) (n : ℕ) (word name : List ℕ) (a : Actor) (o : Op)
    → (if b then named driver_ops name else named attempt_ops name) ≡ Some o
    → (if b then Ok actor.Driver else (name_at n word >>= λ m. Ok (actor.Attempt m.task m.attempt))) ≡ Ok a → HasOp a o
has_op_at b n word name a o h k = grind arith

record IsOrder (attempts : List Declared) (order : Actor × Op) : Type 0 where
  pub known : is_known attempts order.0 ≡ true
  pub op : HasOp order.0 order.1

order_sound : (n : ℕ) (d : Draft) (values : List (List ℕ)) (order : Actor × Op) → order_at n d values ≡ Ok order → IsOrder d.attempts order
unfolding order_at actor_at
order_sound n d values order h =
    let a = parted (need (two values) (BadLine n)) _ _ h in
    let b = parted (need (op_of a.value.0 a.value.1) (BadLine n)) _ _ a.next in
    let c = parted (actor_at n a.value.0) _ _ b.next in
    let f = parted (check (is_known d.attempts c.value) (UnknownActor n)) _ _ c.next in
    subst (IsOrder d.attempts) (same_ok (c.value, b.value) order f.next)
    (record {
      known = checked _ (UnknownActor n) _ f.first;
      op = has_op_at (is_driver a.value.0) n a.value.0 a.value.1 c.value b.value
          (needed _ (BadLine n) _ b.first) c.first;
    })

alone_sound : (n : ℕ) (d : Draft) (values : List (List ℕ)) (a : Actor) → alone_at n d values ≡ Ok a → is_known d.attempts a ≡ true
unfolding alone_at
alone_sound n d values who h = grind arith

step_sound : (n : ℕ) (d : Draft) (values : List (List ℕ)) (e : Event) → step_at n d values ≡ Ok e → IsEvent d.attempts e
unfolding step_at
step_sound n d values e h = grind (arith, number_bounds)

seed_sound : (n : ℕ) (values : List (List ℕ)) (seed : ℕ) → value_at (number 0 2147483647) n values ≡ Ok seed → seed ≤ 2147483647
unfolding number
seed_sound n values seed h = grind (arith, number_bounds)

restart_sound : (n : ℕ) (attempts : List Declared) (values : List (List ℕ)) (e : Event) → restart_at n values ≡ Ok e → IsEvent attempts e
unfolding restart_at
restart_sound n attempts values e h = grind arith

recover_sound : (n : ℕ) (d : Draft) (values : List (List ℕ)) (e : Event) → recover_at n d values ≡ Ok e → IsEvent d.attempts e
unfolding recover_at
recover_sound n d values e h =
    let a = parted (need (one values) (BadLine n)) _ _ h in
    let b = parted (name_at n a.value) _ _ a.next in
    let c = parted (check (declares d.attempts b.value) (UnknownActor n)) _ _ b.next in
    subst (IsEvent d.attempts) (same_ok (event.Recover (actor_of b.value)) e c.next) (checked _ (UnknownActor n) _ c.first)

one_sound : (n : ℕ) (word : EventWord) (d : Draft) (values : List (List ℕ)) (e : Event) → event_at n word d values ≡ Ok e
    → IsEvent d.attempts e
one_sound n words.Do d values e h = made_so (IsEvent d.attempts) (order_at n d values) (λ order. event.Do order.0 order.1) e h
    (λ order is. let o = order_sound n d values order is in (o.known, o.op))
one_sound n words.Start d values e h = made_so (IsEvent d.attempts) (order_at n d values) (λ order. event.Start order.0 order.1) e h
    (λ order is. let o = order_sound n d values order is in (o.known, o.op))
one_sound n words.Step d values e h = step_sound n d values e h
one_sound n words.Run d values e h = made_so (IsEvent d.attempts) (alone_at n d values) event.Run e h (alone_sound n d values)
one_sound n words.Kill d values e h = made_so (IsEvent d.attempts) (alone_at n d values) event.Kill e h (alone_sound n d values)
one_sound n words.Mix d values e h = made_so (IsEvent d.attempts) (value_at (number 0 2147483647) n values) event.Mix e h
    (seed_sound n values)
one_sound n words.Restart d values e h = restart_sound n d.attempts values e h
one_sound n words.Recover d values e h = recover_sound n d values e h

pub events_more : (attempts : List Declared) (es : List Event) (e : Event) → IsEvent attempts e → AreEvents attempts es
    → AreEvents attempts (es ++ e ∷ [])
events_more attempts [] e is all = (is, tt)
events_more attempts (f ∷ es) e is all = (all.0, events_more attempts es e is all.1)

-- Holds if a line changed only the events, to which it added one.
pub record Added (d e : Draft) : Type 0 where
  pub event : Event
  pub is : IsEvent d.attempts event
  pub few : length d.events < 100000
  pub after : record d { events = d.events ++ event ∷ [] } ≡ e

pub event_added : (n : ℕ) (word : EventWord) (d e : Draft) (values : List (List ℕ)) → event_line_at n word d values ≡ Ok e → Added d e
unfolding event_line_at
event_added n word d e values h =
    let a = parted (event_at n word d values) _ _ h in
    let b = parted (check (nat_lt (length d.events) 100000) TooLarge) _ _ a.next in
    record {
      event = a.value;
      is = one_sound n word d values a.value a.first;
      few = ltb-true _ _ (checked _ TooLarge _ b.first);
      after =
          same_ok (record d { events = d.events ++ a.value ∷ [] }) e b.next;
    }
