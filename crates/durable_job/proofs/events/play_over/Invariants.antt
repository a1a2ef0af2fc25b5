use Rattle.durable_job.specs.Pace.{InPace}
use Rattle.std.proofs.Common.{◌≡◌}
use Rattle.durable_job.proofs.events.play_over.Given as goal

abbrev pub invariant-steps : goal.invariant-steps
invariant-steps g l =
    let s = g.F.Shelf in
    let m = g.M.Moves in
    record {
      origin : m.origin l.world ≡ m.origin l.fn.world;
      keeps : m.keeps l.fn.world l.world;
      pace : InPace s.sight (m.origin l.fn.world) (m.sent l.world) l.fn.shelf l.shelf;
      takes : s.takes_appends l.shelf;
      calm : s.faults l.shelf ≡ s.faults l.fn.shelf;
    }

abbrev pub decreases-steps : goal.decreases-steps
decreases-steps g l = g.M.Moves.left l.world
