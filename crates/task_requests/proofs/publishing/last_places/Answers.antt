use Rattle.task_requests.proofs.LastDrawn.{last_step}
use Rattle.task_requests.proofs.publishing.last_places.Goals as goal

pub loop-place-preserved : goal.loop-place-preserved
loop-place-preserved c = λ key. last_step c.args.made.now c.loop-place.place c.index-made-place.result _ _ key c.loop-place-test.true
    c.index-made-place.is (c.loop-place.invariant key) (c.in-Ok.ensures key)
