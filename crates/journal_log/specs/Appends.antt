-- A run of appends, of which each call but the last was answered.
use Rattle.devices.specs.Logged.{HoldsOneOf, Sight}
use Rattle.devices.specs.Logged.Call.{Append, AppendOutOfMemory, Replace}
use Rattle.devices.specs.declared.kept.ShelfStop.{ShelfStop}
use Rattle.devices.specs.declared.kept.ShelfStop.TheVariants.{Failed, NoMemory}
use Rattle.journal_log.specs.Changes.{Begins}
use Rattle.journal_log.specs.Kept.{HoldsGrownBy}
use Rattle.s3_types.specs.declared.request.Request.{Request}
use Rattle.std.specs.Prelude.{List, [], ◌++◌, ◌∷◌, ◌≡◌, ◌⊎◌}

-- Holds if one append was answered for each of these changes.
abbrev pub AreAnswered : {S : Type 0} → Sight S → List Request → S → S → Type 0
AreAnswered F [] old new = old ≡ new
AreAnswered {S} F (r ∷ rs) old new = (mid : S) × F.answers Append old mid × AreAnswered F rs mid new

-- What the failed append of a change leaves, according to the fault: after Failed the change may be there, after NoMemory it is not.
abbrev pub LeftOut : {S : Type 0} → Sight S → ShelfStop → Request → S → S → Type 0
LeftOut F Failed r old new = HoldsOneOf (F.held old) (F.held new) r × F.fails Append old new
LeftOut F NoMemory r old new = (F.held new ≡ F.held old) × F.answers AppendOutOfMemory old new

-- The first of these changes were appended, and the next one was not.
pub record Stopped {S : Type 0} (F : Sight S) (fault : ShelfStop) (rs : List Request) (old new : S) : Type 0 where
  pub front : List Request
  pub next : Request
  pub rest : List Request
  pub parts : rs ≡ front ++ next ∷ rest
  pub at : S
  pub grown : HoldsGrownBy (F.held old) (F.held at) front
  pub answered : AreAnswered F front old at
  pub left_out : LeftOut F fault next at new

-- ---- calls

-- The appends of the first of these changes were answered, and after them came at most one that ran out of memory or failed.
pub record Stops {S : Type 0} (F : Sight S) (rs : List Request) (old new : S) : Type 0 where
  pub front : List Request
  pub begins : Begins front rs
  pub at : S
  pub answered : AreAnswered F front old at
  pub last : (at ≡ new) ⊎ (F.answers AppendOutOfMemory at new ⊎ F.fails Append at new)

-- Holds if the shelf was called to replace what it held, and then once for each of these changes.
abbrev pub AreCalled : {S : Type 0} → Sight S → List Request → S → S → Type 0
AreCalled {S} F rs old new = (mid : S) × F.answers Replace old mid × AreAnswered F rs mid new

-- Holds if the shelf was called to replace what it held, and then for the first of these changes.
abbrev pub AreStopped : {S : Type 0} → Sight S → List Request → S → S → Type 0
AreStopped {S} F rs old new = (mid : S) × F.answers Replace old mid × Stops F rs mid new

-- Holds if the shelf was called up to some call that failed: not at all, once to replace what it held, or for that and the first of these
-- changes.
abbrev pub AreCut : {S : Type 0} → Sight S → List Request → S → S → Type 0
AreCut F rs old new = (old ≡ new) ⊎ (F.fails Replace old new ⊎ AreStopped F rs old new)
