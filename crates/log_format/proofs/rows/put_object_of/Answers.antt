use Rattle.log_format.proofs.Behind.{fault, row}
use Rattle.log_format.specs.Reading.{block_at, header_in, number_at, pair_at, put_object_in, target_at, upload_at}
use Rattle.s3_types.specs.declared.request.Request.TheVariants.{PutObject}
use Rattle.std.specs.Int.{w64}
use Rattle.log_format.proofs.rows.put_object_of.Goals as goal

pub returns-in-Ok : goal.returns-in-Ok
unfolding put_object_in upload_at
returns-in-Ok c = rw c.header_of.ensures (row (λ x. PutObject x.0.0.0 x.0.0.1 x.1 (header_in x.0.1)) c.args.at
    (pair_at (target_at c.args.at) (number_at w64 c.args.at)) (block_at c.args.at) _ _ _ _ c.in_ok-target.ensures
    (c.in-Ok.ensures (λ x. PutObject x.0.0.0 x.0.0.1 x.1 (header_in x.0.1)) _ (c.pair_of.ensures _ c.bytes_of.ensures)))

pub returns-in-Err : goal.returns-in-Err
unfolding put_object_in upload_at
returns-in-Err c = fault (λ x. PutObject x.0.0.0 x.0.0.1 x.1 (header_in x.0.1)) c.args.at
    (pair_at (target_at c.args.at) (number_at w64 c.args.at)) (block_at c.args.at) _ _ _ _ c.in_ok-target.ensures
    (c.in-Err.ensures (λ x. PutObject x.0.0.0 x.0.0.1 x.1 (header_in x.0.1)) _ (c.pair_of.ensures _ c.bytes_of.ensures))
