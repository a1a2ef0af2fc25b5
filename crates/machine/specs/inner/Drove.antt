-- Definitions beside those of `Drove` that no public contract cites.
use Rattle.machine.specs.Counted.{Counted}
use Rattle.machine.specs.Drove.{IsRun, standing_after}
use Rattle.machine.specs.Standing.{Standing}
use Rattle.machine.specs.Turns.{retried}
use Rattle.machine.specs.declared.retrying.Retrying.{Retrying}
use Rattle.retries.specs.Operation.{run}
use Rattle.retries.specs.Retries.{Item, has_worn, step}
use Rattle.s3_types.specs.Foretold.{AreForetold}
use Rattle.s3_types.specs.Store.{Scene}
use Rattle.s3_types.specs.declared.fates.Fate.{Fate}
use Rattle.s3_types.specs.declared.journal.Entry.{Entry}
use Rattle.s3_types.specs.declared.request.Actor.{Actor}
use Rattle.s3_types.specs.declared.request.Request.{Request}
use Rattle.std.specs.Prelude.{Bool, List, Option, length, true, ℕ, ◌++◌, ◌+◌, ◌<◌, ◌≡◌, ◌≤◌}

-- A machine that is alone, while it is being driven.
pub record Driving {M : Type 0} (after : M → Item → M) (wants : M → Option Request) (ready : M → Scene → Bool → Type 0)
    (standing : M → Standing) (actor : Actor) (event : ℕ) (t t' : Retrying M) (s s' : Scene) (old new : List Entry) (before now : ℕ)
    (told tells : ℕ → Option Fate) (first requests : ℕ) (worn : Bool) : Type 0 where
  pub part : List Entry
  pub appended : new ≡ old ++ part
  pub is_run : IsRun wants after actor event t s part s'
  pub there : retried t' ≡ run (step t.retries after) (retried t) part
  pub retries : t'.retries ≡ t.retries
  pub wore : worn ≡ has_worn t.retries after (retried t) part
  pub ready_still : ready t'.machine s' t'.repeated
  pub foretold : AreForetold told (first + 1) part
  pub counted : requests ≤ length new
  pub counts : Counted old new first requests before now told tells
  pub stands : standing t'.machine ≡ standing_after worn (standing t.machine)
  pub lost : worn ≡ true → before < now
