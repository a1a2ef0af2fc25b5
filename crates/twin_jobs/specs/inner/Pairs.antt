-- Definitions beside those of `Pairs` that no public contract cites.
use Rattle.job_model.specs.JobScript.{Script}
use Rattle.job_model.specs.Known.{Known}
use Rattle.job_model.specs.declared.ends.Pick.{Pick}
use Rattle.job_protocol.specs.Operations.{Running, Setting}
use Rattle.job_run.specs.Events.{Grown, IsAsBefore}
use Rattle.job_run.specs.Firsts.{IsFirstSide}
use Rattle.job_run.specs.Holds.{Quiet}
use Rattle.job_run.specs.declared.body.Body.{Body}
use Rattle.job_run.specs.declared.body.Shared.{Shared}
use Rattle.job_spec.specs.Entries.{AreOwn}
use Rattle.s3_types.specs.Fates.{fate_at}
use Rattle.s3_types.specs.declared.journal.Entry.{Entry}
use Rattle.s3_types.specs.declared.request.Actor.{Actor}
use Rattle.s3_types.specs.declared.request.Request.{Request}
use Rattle.std.specs.List.{AllByRecursion}
use Rattle.std.specs.Prelude.{List, Option, length, true, ℕ, ◌+◌, ◌<◌, ◌^◌, ◌≡◌, ◌≤◌}
use Rattle.twin_facts.specs.TwinLaws.{MayBeTwins}
use Rattle.twin_jobs.specs.Order.{other_of, others_in}
use Rattle.twin_jobs.specs.inner.Order.{events_of}
use Rattle.twin_jobs.specs.Pairs.{side_in}
use Rattle.twin_jobs.specs.declared.pair.Pair.{Pair}
use Rattle.twin_script.specs.declared.turns.Side.{Side}
use Rattle.twin_script.specs.declared.turns.Side.TheVariants.{First, Second}
use Rattle.job_run.specs.declared.body.JobRun as body

-- A side with what it shares, as a body.
abbrev pub over : {W : Type 0} → body.JobRun W → Shared → Body W
over s shared = record { side = s; shared = shared }

-- The entry's event has a number from 1 to n.
abbrev pub IsAmong : ℕ → Entry → Type 0
IsAmong n e = (1 ≤ e.event) × (e.event ≤ n)

-- A side rests between events. Its own events are those that the order gives it, and its script has at least as many.
pub record RestsOne {W : Type 0} (wants : W → Option Request) (is_of : Setting → Actor → W → Type 0) (running : Known → W → Running)
    (picks_of : W → Option (List Pick)) (sides : List Side) (name : Side) (s : body.JobRun W) (shared : Shared) : Type 0 where
  pub quiet : Quiet wants is_of running picks_of (over s shared)
  pub shares : s.shares ≡ true
  pub others : s.others.items ≡ others_in name 1 sides
  pub enough : events_of name sides ≤ length s.script.events

-- What holds between events of what both sides share.
pub record RestsShared (sides : List Side) (shared : Shared) : Type 0 where
  pub own : AreOwn shared.journal.entries
  pub among : AllByRecursion (IsAmong shared.events) shared.journal.entries
  pub few : shared.events ≤ length sides
  pub short : length sides + 1 < 2 ^ 32

-- Both sides rest between events, they may share a destination, and the store has the fates of the first script.
pub record RestsBoth {W : Type 0} (wants : W → Option Request) (is_of : Setting → Actor → W → Type 0) (running : Known → W → Running)
    (picks_of : W → Option (List Pick)) (sides : List Side) (s t : body.JobRun W) (shared : Shared) : Type 0 where
  pub first : RestsOne wants is_of running picks_of sides First s shared
  pub second : RestsOne wants is_of running picks_of sides Second t shared
  pub common : RestsShared sides shared
  pub twins : MayBeTwins s.script t.script
  pub fates : (n : ℕ) → fate_at shared.store.fates n ≡ fate_at s.script.fates n

-- Both sides of a pair rest between events.
abbrev pub Rests : {W : Type 0} → (W → Option Request) → (Setting → Actor → W → Type 0) → (Known → W → Running) → (W → Option (List Pick))
    → Pair W → Type 0
Rests wants is_of running picks_of p = RestsBoth wants is_of running picks_of p.sides.items (side_in First p) (side_in Second p)
    p.body.shared

-- A side with this script, to which all events but these belong, and of which nothing has happened.
pub record IsFresh {W : Type 0} (w : Script) (minimum : ℕ) (numbers : List ℕ) (s : body.JobRun W) : Type 0 where
  pub script : s.script ≡ w
  pub others : s.others.items ≡ numbers
  pub shares : s.shares ≡ true
  pub first : IsFirstSide minimum s

-- Two such sides, each with the events that the order gives it, with what they share.
pub record IsPaired {W : Type 0} (first second : Script) (shared : Shared) (sides : List Side) (p : Pair W) : Type 0 where
  pub one : IsFresh first shared.opening.minimum (others_in First 1 sides) (side_in First p)
  pub other : IsFresh second shared.opening.minimum (others_in Second 1 sides) (side_in Second p)
  pub same : p.body.shared ≡ shared
  pub order : p.sides.items ≡ sides

-- This side is now the moving one, and nothing else has changed.
pub record IsTurnedTo {W : Type 0} (side : Side) (p q : Pair W) : Type 0 where
  pub moving : q.moving ≡ side
  pub first : side_in First q ≡ side_in First p
  pub second : side_in Second q ≡ side_in Second p
  pub shared : q.body.shared ≡ p.body.shared
  pub sides : q.sides ≡ p.sides

-- The next event of this side was played, and the other side has not changed.
pub record IsPlayed {W : Type 0} (side : Side) (p q : Pair W) : Type 0 where
  pub grown : Grown (over (side_in side p) p.body.shared) (over (side_in side q) q.body.shared)
  pub other : side_in (other_of side) q ≡ side_in (other_of side) p
  pub sides : q.sides ≡ p.sides

-- Memory ran out before the next event of this side, and nothing but spare room has changed.
pub record IsUnplayed {W : Type 0} (side : Side) (p q : Pair W) : Type 0 where
  pub before : IsAsBefore (over (side_in side p) p.body.shared) (over (side_in side q) q.body.shared)
  pub other : side_in (other_of side) q ≡ side_in (other_of side) p
  pub sides : q.sides ≡ p.sides
