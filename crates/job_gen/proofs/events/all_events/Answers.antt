use Rattle.std.proofs.Common.{◌%◌, refl}
use Rattle.job_gen.proofs.Happening.{events_are}
use Rattle.job_gen.proofs.events.all_events.Goals as goal

pub returns : goal.returns
returns c =
    events_are c.args.seed c.args.tasks (c.args.seed % 2147483648) c.new-events.result c.push_driver.new.events c.push_writes.new.events
    c.push.new.self c.push_seconds.new.events c.push_commits.new.events c.push-2.new.self c.push_driver-2.new.events
    c.push_driver-3.new.events
    refl c.new-events.ensures c.in_ok-push_driver.ensures c.in_ok-push_writes.ensures c.in_ok-push.ensures.ok c.in_ok-push_seconds.ensures
    c.in_ok-push_commits.ensures c.in_ok-push-2.ensures.ok c.in_ok-push_driver-2.ensures c.in_ok-push_driver-3.ensures
