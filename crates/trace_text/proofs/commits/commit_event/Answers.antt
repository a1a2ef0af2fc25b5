use Rattle.std.proofs.Common.{◌+◌}
use Rattle.job_model.specs.declared.events.Event.TheVariants.{Restart}
use Rattle.job_spec.specs.States.{begins_commit}
use Rattle.trace_text.proofs.Firsts.{found, other, refused}
use Rattle.trace_text.proofs.commits.commit_event.Goals as goal
use Rattle.trace_text.proofs.commits.commit_event.Goals.{else-begins_commit-via-then-begins_commit+else-not-is_refused_at}
use Rattle.trace_text.proofs.commits.commit_event.Goals.{else-begins_commit-via-else-begins_commit}

pub returns-then-not-is_refused_at : goal.returns-then-not-is_refused_at
returns-then-not-is_refused_at c =
    let i = c.loop-place.place in
    found begins_commit (i + 1) i c.args.events.now c.args.ends.now _ _ _ _ c.loop-place-test.true c.begins_commit.ensures
    c.is_refused_at.ensures c.if-begins_commit.true c.if-not-is_refused_at.true c.loop-place.invariant

pub loop-place-preserved : goal.loop-place-preserved
loop-place-preserved c =
    let i = c.loop-place.place in
    let events = c.args.events.now in
    let ends = c.args.ends.now in
    elim c.else-begins_commit.branch [
      | else-begins_commit-via-then-begins_commit+else-not-is_refused_at w ↦
          refused begins_commit (i + 1) i events ends Restart _ _ c.loop-place-test.true w.is_refused_at.ensures
          w.if-not-is_refused_at.false c.loop-place.invariant
      | else-begins_commit-via-else-begins_commit w ↦
          other begins_commit (i + 1) i events ends _ _ _ c.loop-place-test.true c.begins_commit.ensures w.if-begins_commit.false
          c.loop-place.invariant
    ]
