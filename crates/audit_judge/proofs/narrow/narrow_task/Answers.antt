use Rattle.std.proofs.Common.{ℕ, length, ◌∙◌, ap, arith}
use Rattle.audit_judge.proofs.Loops.{count_more, places_more, rest_more}
use Rattle.soundness.specs.Claims.{Files}
use Rattle.audit_claims.specs.Claims.{Tags}
use Rattle.audit_judge.specs.inner.Scene.{meets}
use Rattle.audit_judge.proofs.narrow.narrow_task.Goals as goal

pub overflow_add-k : goal.overflow_add-k
overflow_add-k c =
    let e = ap length c.in-Some.ensures.steps in
    let n = ap length c.held.ensures.entries in
    omega (arith, e, n, c.len-count.ensures.small, c.len-count.ensures.len, c.loop-files.invariant.all)

pub loop-files-preserved : goal.loop-files-preserved
loop-files-preserved c =
    let a : ℕ × Files Tags = (c.in-Some.field-0-0.now, c.in-Some.files.now) in
    let left = c.loop-files.files-iterator in
    let rest = c.next.new.self in
    let k = c.loop-files.k in
    let flags = c.loop-files.flags in
    let next = c.lower_unless.new.self in
    let steps = c.in-Some.ensures.steps in
    let low = c.lower_unless.ensures.lowered in
    record {
      all = count_more k (length c.args.attempts.now) left rest a c.loop-files.invariant.all steps;
      places = places_more k left rest a c.meets-met.result flags next c.loop-files.invariant.places steps low;
      rest = rest_more (meets c.args.demand c.args.known.now c.args.path.now) c.args.path.now flags next _ k left rest a c.meets-met.result
          c.loop-files.invariant.places c.loop-files.invariant.rest steps
          (c.meets-met.ensures.meets ∙ ap (meets c.args.demand c.args.known.now c.args.path.now) c.get.ensures.found) low;
    }
