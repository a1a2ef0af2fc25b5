use Rattle.commit_lanes.proofs.Undoing.{adds_begin, adds_end, tried_below, tried_turn}
use Rattle.job_protocol.specs.Lanes.{is_tried, undo}
use Rattle.std.proofs.Common.{arith, refl, ◌+◌, ◌-◌, ◌<◌, ◌≡◌, ◌≤◌}
use Rattle.commit_lanes.proofs.reverting.add_tried.Goals as goal

pub loop-n-init : goal.loop-n-init
loop-n-init c = (omega arith, adds_begin undo (is_tried c.args.lanes.now.turns) c.args.total c.args.list.now refl, λ w. w)

pub loop-n-preserved : goal.loop-n-preserved
loop-n-preserved c =
    let most : c.loop-n.n ≤ c.args.total = c.loop-n.invariant.0 in
    let low : c.loop-n.n - 1 < c.args.total = omega arith in
    let next : c.loop-n.n ≡ c.loop-n.n - 1 + 1 = omega arith in (
      omega arith,
      tried_turn c.args.total c.args.lanes.now.turns (c.loop-n.n - 1) c.loop-n.n c.args.list.now c.loop-n.list c.add_if_tried.new.list low
          next c.in_ok-add_if_tried.ensures c.loop-n.invariant.1,
      λ w. tried_below c.args.total (c.loop-n.n - 1) c.loop-n.list c.add_if_tried.new.list
          (is_tried c.args.lanes.now.turns (c.loop-n.n - 1)) low c.in_ok-add_if_tried.ensures (c.loop-n.invariant.2 w),
    )

pub returns-clause-adds : goal.returns-clause-adds
returns-clause-adds c = adds_end undo (is_tried c.args.lanes.now.turns) c.args.total c.loop-n.n c.args.list.now c.loop-n.list (omega arith)
    c.loop-n.invariant.1

pub returns-clause-within : goal.returns-clause-within
returns-clause-within c = c.loop-n.invariant.2
