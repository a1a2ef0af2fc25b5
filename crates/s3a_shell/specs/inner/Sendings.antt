-- Definitions beside those of `Sendings` that no public contract cites.
use Rattle.machine.specs.Counted.{AreAnswered}
use Rattle.machine.specs.Turns.{AreBy}
use Rattle.s3_types.specs.Moment.{AreHonest, after_all}
use Rattle.s3_types.specs.Store.{Scene}
use Rattle.s3_types.specs.declared.journal.Entry.{Entry}
use Rattle.s3_types.specs.declared.journal.Outcome.TheVariants.{Answered}
use Rattle.s3_types.specs.declared.reply.Reply.{Reply}
use Rattle.s3_types.specs.declared.request.Actor.TheVariants.{Shell}
use Rattle.s3_types.specs.declared.request.Request.{Request}
use Rattle.s3a_shell.specs.declared.session.Session.{Session}
use Rattle.std.specs.List.{AllByRecursion}
use Rattle.std.specs.Prelude.{List, length, take, ℕ, ◌++◌, ◌+◌, ◌≡◌, ◌≤◌}

-- A journal gained requests of the shell, in event 0, each with the reply that S3 must give. They lead from the scene z to s.
pub record Sends (always : Scene → Type 0) (old : List Entry) (z : Scene) (new : List Entry) (s : Scene) : Type 0 where
  pub part : List Entry
  pub appended : new ≡ old ++ part
  pub by : AreBy Shell 0 part
  pub answered : AreAnswered part
  pub honest : AreHonest z part
  pub scene : s ≡ after_all z part
  -- this holds before the first of them and after each
  pub moments : (m : ℕ) → always (after_all z (take m part))

-- Holds if the store was asked no more requests than the journal has.
abbrev pub IsCounted : Session → Type 0
IsCounted a = a.store.requests ≤ length a.journal.entries

-- The session went on only by such requests.
pub record Sent (always : Scene → Type 0) (a b : Session) : Type 0 where
  pub sends : Sends always a.journal.entries a.store.scene b.journal.entries b.store.scene
  pub counted : IsCounted b

-- The session asked only such requests.
pub record Asked (sends : Request → Type 0) (a b : Session) : Type 0 where
  pub part : List Entry
  pub appended : b.journal.entries ≡ a.journal.entries ++ part
  pub each : AllByRecursion (λ e. sends e.request) part

-- Holds if the session sent at most n requests.
abbrev pub AtMost : ℕ → Session → Session → Type 0
AtMost n a b = length b.journal.entries ≤ length a.journal.entries + n

-- The entry of a request of the shell that was answered.
abbrev pub answered_by : Request → Reply → Entry
answered_by request reply = record { event = 0; actor = Shell; request = request; outcome = Answered reply }
