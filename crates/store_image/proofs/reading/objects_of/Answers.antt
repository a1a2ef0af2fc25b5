use Rattle.text_and_lists.proofs.Reading.{gives_fault}
use Rattle.s3_types.specs.Names.{is_key}
use Rattle.std.proofs.Common.{Err, Some, rules, ◌≡◌}
use Rattle.store_image.proofs.Loop.{first_step, last_step, one_more, value_fails}
use Rattle.store_image.specs.Fault.{wanting}
use Rattle.store_image.specs.Reading.{name_at, object_at}
use Rattle.store_image.proofs.reading.objects_of.Goals as goal

pub loop-init : goal.loop-init
loop-init c = first_step (name_at is_key c.args.whole) (object_at c.args.whole) c.args.count c.args.bytes.now c.new-objects.result
    c.new-objects.ensures

pub loop-preserved : goal.loop-preserved
loop-preserved c =
    let same : Some c.in_ok-copy.copy ≡ Some c.in_ok-key.key = search rules in
    one_more (name_at is_key c.args.whole) (object_at c.args.whole) c.args.count c.loop.counter c.loop.last c.loop.rest.now _ _ _ _ _ _ _ _
    c.loop-test.true c.in_ok-key.ensures.exact c.in_ok-object.ensures c.in_ok-put.ensures.ok same c.loop.invariant

pub returns : goal.returns
returns c = last_step (name_at is_key c.args.whole) (object_at c.args.whole) c.args.count c.loop.counter _ _ _ _ c.loop-test.false
    c.loop.invariant

pub returns-in_err-object : goal.returns-in_err-object
returns-in_err-object c =
    let is : c.from_residual-in_err-object.result ≡ Err c.in_err-object.field-0.0 = search rules in
    gives_fault wanting _ _ _ _ is (value_fails (name_at is_key c.args.whole) (object_at c.args.whole) c.args.count c.loop.counter _ _ _ _ _
    _ _ c.loop-test.true c.in_ok-key.ensures.exact c.in_err-object.ensures c.loop.invariant)
