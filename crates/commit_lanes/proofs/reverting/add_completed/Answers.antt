use Rattle.std.proofs.Common.{◌≡◌, ◌+◌, ◌-◌, ◌<◌, ◌≤◌, length, arith, refl}
use Rattle.commit_lanes.proofs.Undoing.{done_begin, done_turn, done_below, done_end, finished_below}
use Rattle.commit_lanes.proofs.reverting.add_completed.Goals as goal

pub loop-n-init : goal.loop-n-init
loop-n-init c = (omega arith, done_begin c.args.total c.args.finished.now (length c.args.finished.now) c.args.list.now refl, λ w. w)

pub loop-n-preserved : goal.loop-n-preserved
loop-n-preserved c =
    let most : c.loop-n.n ≤ length c.args.finished.now = c.loop-n.invariant.0 in
    let low : c.loop-n.n - 1 < length c.args.finished.now = omega arith in
    let next : c.loop-n.n ≡ c.loop-n.n - 1 + 1 = omega arith in (
      omega arith,
      done_turn c.args.total c.args.finished.now (c.loop-n.n - 1) c.loop-n.n c.number_at-number.result c.args.list.now c.loop-n.list
          c.add.new.self low next c.number_at-number.ensures c.in_ok-add.ensures c.loop-n.invariant.1,
      λ w. done_below c.args.total c.number_at-number.result c.loop-n.list c.add.new.self
          (finished_below c.args.total c.args.finished.now (c.loop-n.n - 1) c.number_at-number.result c.requires low
          c.number_at-number.ensures) c.in_ok-add.ensures (c.loop-n.invariant.2 w),
    )

pub returns-clause-adds : goal.returns-clause-adds
returns-clause-adds c = done_end c.args.total c.args.finished.now c.loop-n.n c.args.list.now c.loop-n.list (omega arith)
    c.loop-n.invariant.1

pub returns-clause-within : goal.returns-clause-within
returns-clause-within c = c.loop-n.invariant.2
