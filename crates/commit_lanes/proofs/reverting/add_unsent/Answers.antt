use Rattle.commit_lanes.proofs.Undoing.{adds_begin, adds_end, unsent_below, unsent_turn}
use Rattle.job_protocol.specs.Lanes.{abort, is_in, is_tried, is_unsent}
use Rattle.std.proofs.Common.{ap, arith, map, nat_eq, refl, ◌+◌, ◌-◌, ◌<◌, ◌||◌, ◌∙◌, ◌≡◌, ◌≤◌}
use Rattle.commit_lanes.proofs.reverting.add_unsent.Goals as goal

pub loop-n-init : goal.loop-n-init
loop-n-init c = (
  omega arith,
  adds_begin (map abort) (is_unsent c.args.worn c.args.lanes.now.turns c.args.lanes.now.finished) c.args.total
      c.args.list.now refl,
  λ w. w,
)

pub loop-n-preserved : goal.loop-n-preserved
loop-n-preserved c =
    let most : c.loop-n.n ≤ c.args.total = c.loop-n.invariant.0 in
    let low : c.loop-n.n - 1 < c.args.total = omega arith in
    let next : c.loop-n.n ≡ c.loop-n.n - 1 + 1 = omega arith in
    let sent : c.is_sent-sent.result ≡ (nat_eq (c.loop-n.n - 1) c.args.worn ||
    (is_tried c.args.lanes.now.turns (c.loop-n.n - 1) || is_in c.args.lanes.now.finished (c.loop-n.n - 1))) = c.is_sent-sent.ensures ∙
    ap (λ b. nat_eq (c.loop-n.n - 1) c.args.worn || (is_tried c.args.lanes.now.turns (c.loop-n.n - 1) || b))
    (c.requires (c.loop-n.n - 1)) in (
      omega arith,
      unsent_turn c.args.total c.args.worn c.args.lanes.now.turns c.args.lanes.now.finished (c.loop-n.n - 1) c.loop-n.n c.args.list.now
          c.loop-n.list c.add_if_unsent.new.list c.is_sent-sent.result low next sent c.in_ok-add_if_unsent.ensures c.loop-n.invariant.1,
      λ w. unsent_below c.args.total (c.loop-n.n - 1) c.loop-n.list c.add_if_unsent.new.list c.is_sent-sent.result low
          c.in_ok-add_if_unsent.ensures (c.loop-n.invariant.2 w),
    )

pub returns-clause-adds : goal.returns-clause-adds
returns-clause-adds c =
    adds_end (map abort) (is_unsent c.args.worn c.args.lanes.now.turns c.args.lanes.now.finished) c.args.total c.loop-n.n c.args.list.now
    c.loop-n.list
    (omega arith) c.loop-n.invariant.1

pub returns-clause-within : goal.returns-clause-within
returns-clause-within c = c.loop-n.invariant.2
