use Rattle.log_format.proofs.Behind.{fault, row}
use Rattle.log_format.specs.Reading.{counted_at, delete_objects_in, text_at}
use Rattle.s3_types.specs.Names.{is_bucket, is_key}
use Rattle.s3_types.specs.declared.request.Request.TheVariants.{DeleteObjects}
use Rattle.log_format.proofs.rows.delete_objects_of.Goals as goal

pub returns-in-Ok : goal.returns-in-Ok
unfolding delete_objects_in
returns-in-Ok c = row (λ x. DeleteObjects x.0 x.1) c.args.at (text_at is_bucket c.args.at) (counted_at (text_at is_key c.args.at) c.args.at)
    _ _ _ _ c.in_ok-bucket.ensures (c.in-Ok.ensures (λ x. DeleteObjects x.0 x.1) _ (c.pair_of.ensures _ c.keys_of.ensures))

pub returns-in-Err : goal.returns-in-Err
unfolding delete_objects_in
returns-in-Err c = fault (λ x. DeleteObjects x.0 x.1) c.args.at (text_at is_bucket c.args.at)
    (counted_at (text_at is_key c.args.at) c.args.at) _ _ _ _ c.in_ok-bucket.ensures
    (c.in-Err.ensures (λ x. DeleteObjects x.0 x.1) _ (c.pair_of.ensures _ c.keys_of.ensures))
