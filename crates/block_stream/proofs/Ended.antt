-- What a stream that ended with Done has stored.
use Rattle.block_stream.specs.Holds.{Holds, HoldsIn, IsWritten}
use Rattle.block_stream.specs.Stream.{Stream, asks, stage_of, standing, wanted}
use Rattle.block_stream.specs.declared.mode.StreamEnd.TheVariants.{Done}
use Rattle.machine.specs.Standing.{Fine}
use Rattle.s3_types.specs.Store.{BucketContent, Scene}
use Rattle.std.proofs.Common.{arith}
use Rattle.std.specs.Prelude.{Bool, List, None, Option, Some, true, ℕ, ◌≡◌}

-- A closed stream that has not ended has a request.
asks_on : (m : Stream) (s : Scene) (repeated : Bool) (bytes : List ℕ) (c : BucketContent) (u : Option ℕ) → m.closed ≡ true
    → HoldsIn None u m c repeated bytes → asks (stage_of None u m) m ≡ None → ⊥
asks_on m s repeated bytes c u h g = grind arith

-- A closed stream without a request and without a fault has stored all that was written.
pub stored : (m : Stream) (s : Scene) (repeated : Bool) (bytes : List ℕ) → (h : Holds m s repeated bytes) → m.closed ≡ true
    → wanted m ≡ None → standing m ≡ Fine → (m.end ≡ Some Done) × IsWritten m.mode m h.content bytes
stored m s repeated bytes h g e f = grind (arith, asks_on)
