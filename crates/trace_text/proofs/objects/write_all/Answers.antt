use Rattle.trace_text.proofs.Written.{bucket_written}
use Rattle.trace_text.proofs.objects.write_all.Goals as goal

pub loop-bucket-preserved-in-Continue-1 : goal.loop-bucket-preserved-in-Continue-1
loop-bucket-preserved-in-Continue-1 c =
    let next = c.in-Some.ensures.steps in
    bucket_written c.args.dest.now _ c.args.prefix.now _ _ _ _ _ _ c.bucket-name.ensures c.requires next c.if-eq.ensures
    c.in_ok-write_below.ensures c.loop-bucket.invariant
