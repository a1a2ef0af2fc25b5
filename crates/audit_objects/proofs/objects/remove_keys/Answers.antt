use Rattle.audit_objects.proofs.Places.{next_removed}
use Rattle.audit_objects.proofs.objects.remove_keys.Goals as goal

pub loop-key-preserved : goal.loop-key-preserved
loop-key-preserved c =
    next_removed c.args.held.now c.loop-key.held c.remove.new.self c.args.keys.now c.loop-key.key-index c.key-item.result
    c.loop-key-test.true c.key-item.is c.loop-key.invariant c.remove.ensures.gone
