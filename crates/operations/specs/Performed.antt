-- What has happened after an operation was performed.
use Rattle.machine.specs.Counted.{Counted}
use Rattle.machine.specs.Tries.{IsFaultBy, Tried}
use Rattle.machine.specs.Turns.{AreBy}
use Rattle.machine.specs.declared.driving.DriveStop.{DriveStop}
use Rattle.s3_types.specs.Foretold.{AreForetold}
use Rattle.s3_types.specs.Moment.{AreHonest, after_all}
use Rattle.s3_types.specs.Store.{Scene}
use Rattle.s3_types.specs.declared.fates.Fate.{Fate}
use Rattle.s3_types.specs.declared.journal.Entry.{Entry}
use Rattle.s3_types.specs.declared.request.Actor.{Actor}
use Rattle.s3_types.specs.declared.request.Request.{Request}
use Rattle.std.specs.List.{AllByRecursion}
use Rattle.std.specs.Prelude.{List, Option, Result, take, ℕ, ◌++◌, ◌+◌, ◌≡◌}

-- A store and the journal beside it.
pub record Seen : Type 0 where
  pub scene : Scene
  pub requests : ℕ
  pub losses : ℕ
  pub foretold : ℕ → Option Fate
  pub entries : List Entry

-- A store, as the functions of its type show it, and the journal beside it.
abbrev pub seen : {S : Type 0} → (S → Scene) → (S → ℕ) → (S → ℕ) → (S → ℕ → Option Fate) → S → List Entry → Seen
seen scene requests losses foretold store entries = record {
  scene = scene store;
  requests = requests store;
  losses = losses store;
  foretold = foretold store;
  entries = entries;
}

-- The journal gained entries of this actor and event, which lead from the old scene to the new one.
pub record Performed {A : Type 0} (actor : Actor) (event retries : ℕ) (always : Scene → Type 0) (sends : Request → Type 0) (old new : Seen)
    (result : Result A DriveStop) : Type 0 where
  pub part : List Entry
  pub appended : new.entries ≡ old.entries ++ part
  pub by : AreBy actor event part
  -- Each answer is the one that the store gives.
  pub honest : AreHonest old.scene part
  pub scene : new.scene ≡ after_all old.scene part
  -- `always` holds before the first send and after each.
  pub moments : (m : ℕ) → always (after_all old.scene (take m part))
  -- Each request is one that may be sent.
  pub sent : AllByRecursion (λ e. sends e.request) part
  -- Each request is sent at most `retries + 1` times, and StoreFault comes exactly if one exhausted its retries.
  pub tried : Tried retries retries part result
  -- The entries alone say whether one did.
  pub literal : IsFaultBy retries part result
  pub foretold : AreForetold old.foretold (old.requests + 1) part
  pub counts : Counted old.entries new.entries old.requests new.requests old.losses new.losses old.foretold new.foretold
