use Rattle.block_stream.specs.Holds.{IsReady}
use Rattle.s3_types.specs.Store.{Scene}
use Rattle.std.proofs.Common.{Bool, false, ◌≡◌}
use Rattle.store_rows.proofs.streams.fill.Given as goal

abbrev pub invariant-loop-piece : goal.invariant-loop-piece
invariant-loop-piece l =
    (l.stream.closed ≡ false) × ((scene : Scene) (repeated : Bool) → IsReady l.fn.stream scene repeated → IsReady l.stream scene repeated)
