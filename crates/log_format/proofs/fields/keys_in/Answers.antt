use Rattle.log_format.proofs.Loop.{ends, in_front, one_more}
use Rattle.log_format.specs.Reading.{list_at, text_at}
use Rattle.s3_types.specs.Names.{is_key}
use Rattle.std.proofs.Common.{ap, ◌+◌, ◌-◌, ◌∙◌}
use Rattle.log_format.proofs.fields.keys_in.Goals as goal

pub returns-in-Err : goal.returns-in-Err
returns-in-Err c = ends (text_at is_key c.args.at) c.args.count c.loop.counter _ _ _ _ c.loop-test.true c.in-Err.ensures c.loop.invariant

pub loop-preserved : goal.loop-preserved
loop-preserved c =
    ap (λ l. in_front l (list_at (text_at is_key c.args.at) (c.args.count - (c.loop.counter + 1)) c.in-Ok.after.now))
    c.in_ok-push-in-Ok.ensures.items
    ∙ one_more (text_at is_key c.args.at) c.args.count c.loop.counter _ _ _ _ _ c.loop-test.true c.in-Ok.ensures c.loop.invariant
