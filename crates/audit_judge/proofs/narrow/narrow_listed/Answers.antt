use Rattle.std.proofs.Common.{ap}
use Rattle.audit_judge.proofs.Loops.{least_more, narrowed_more}
use Rattle.audit_judge.specs.inner.Narrowed.{paths_of_all, paths_of_task}
use Rattle.audit_judge.specs.inner.Scene.{meets}
use Rattle.audit_judge.proofs.narrow.narrow_listed.Goals as goal

pub loop-attempts-preserved : goal.loop-attempts-preserved
loop-attempts-preserved c =
    let suits = meets c.args.demand c.args.known.now in
    let listed = c.args.known.now.claimed.listed in
    let ps = paths_of_task c.in-Some.attempts.now in
    let qs = paths_of_all c.next.new.self in
    let left = paths_of_all c.loop-attempts.attempts-iterator in
    let parts = ap paths_of_all c.in-Some.ensures.steps in
    let rows = c.loop-attempts.rows.items in
    let next = c.narrow_attempts-least.new.rows.items in
    record {
      after = narrowed_more suits listed ps qs left rows next _ parts c.narrow_attempts-least.ensures.after c.loop-attempts.invariant.after;
      least = least_more suits listed ps qs left rows next c.loop-attempts.least c.narrow_attempts-least.result _ parts
          c.narrow_attempts-least.ensures.after
          c.narrow_attempts-least.ensures.least c.loop-attempts.invariant.least;
      places = c.narrow_attempts-least.ensures.places;
    }
