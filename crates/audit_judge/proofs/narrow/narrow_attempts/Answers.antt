use Rattle.std.proofs.Common.{ap}
use Rattle.audit_judge.proofs.Loops.{least_more, narrowed_more}
use Rattle.audit_judge.specs.inner.Narrowed.{keys_of, paths_of_task}
use Rattle.audit_judge.specs.inner.Scene.{meets}
use Rattle.audit_judge.proofs.narrow.narrow_attempts.Goals as goal

pub loop-files-preserved : goal.loop-files-preserved
loop-files-preserved c =
    let suits = meets c.args.demand c.args.known.now in
    let listed = c.args.known.now.claimed.listed in
    let ps = keys_of c.in-Some.files.now in
    let qs = paths_of_task c.next.new.self in
    let left = paths_of_task c.loop-files.files-iterator in
    let parts = ap paths_of_task c.in-Some.ensures.steps in
    let rows = c.loop-files.rows.items in
    let next = c.narrow_files-least.new.rows.items in
    record {
      after = narrowed_more suits listed ps qs left rows next _ parts c.narrow_files-least.ensures.after c.loop-files.invariant.after;
      least = least_more suits listed ps qs left rows next c.loop-files.least c.narrow_files-least.result _ parts
          c.narrow_files-least.ensures.after
          c.narrow_files-least.ensures.least c.loop-files.invariant.least;
      places = c.narrow_files-least.ensures.places;
    }
