-- One send of the request that an actor's operation asks.
use Rattle.job_model.specs.declared.ends.OpEnd.{OpEnd}
use Rattle.job_run.specs.declared.hands.Hand.{Hand}
use Rattle.job_run.specs.declared.hands.Hand.TheVariants.{At}
use Rattle.s3_types.specs.declared.request.Request.{Request}
use Rattle.std.specs.Prelude.{IsSome, None, Option, Some}

-- The hand has an operation that asks a request.
abbrev pub Asks : {W : Type 0} → (W → Option Request) → Hand W → Type 0
Asks wants (At m) = IsSome (wants m)
Asks wants _ = ⊥

-- The end of the operation in hand, or None if it has not ended or there is none.
abbrev pub hand_end : {W : Type 0} → (W → Option OpEnd) → Option (Hand W) → Option OpEnd
hand_end end_of (Some (At m)) = end_of m
hand_end end_of _ = None
