-- Definitions beside those of `Appends` that no public contract cites.
use Rattle.devices.specs.Logged.{IsDurable, Sight}
use Rattle.journal_log.specs.Appends.{AreAnswered}
use Rattle.journal_log.specs.Kept.{HoldsGrownBy}
use Rattle.s3_types.specs.declared.request.Request.{Request}
use Rattle.std.specs.Prelude.{List}

-- All these changes were appended.
pub record Appended {S : Type 0} (F : Sight S) (rs : List Request) (old new : S) : Type 0 where
  pub grown : HoldsGrownBy (F.held old) (F.held new) rs
  pub durable : IsDurable (F.held new) (F.may_leave new)
  pub answered : AreAnswered F rs old new
