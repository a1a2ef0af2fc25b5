use Rattle.log_format.proofs.Behind.{fault, row}
use Rattle.log_format.specs.Reading.{block_at, number_at, pair_at, upload_at, upload_part_in}
use Rattle.s3_types.specs.declared.request.Request.TheVariants.{UploadPart}
use Rattle.std.specs.Int.{w32}
use Rattle.log_format.proofs.rows.upload_part_of.Goals as goal

pub returns-in-Ok : goal.returns-in-Ok
unfolding upload_part_in
returns-in-Ok c = row (λ x. UploadPart x.0.0.0.0 x.0.0.0.1 x.0.0.1 x.0.1 x.1) c.args.at
    (pair_at (upload_at c.args.at) (number_at w32 c.args.at)) (block_at c.args.at) _ _ _ _ c.in_ok-part.ensures
    (c.in-Ok.ensures (λ x. UploadPart x.0.0.0.0 x.0.0.0.1 x.0.0.1 x.0.1 x.1) _ (c.pair_of.ensures _ c.bytes_of.ensures))

pub returns-in-Err : goal.returns-in-Err
unfolding upload_part_in
returns-in-Err c = fault (λ x. UploadPart x.0.0.0.0 x.0.0.0.1 x.0.0.1 x.0.1 x.1) c.args.at
    (pair_at (upload_at c.args.at) (number_at w32 c.args.at)) (block_at c.args.at) _ _ _ _ c.in_ok-part.ensures
    (c.in-Err.ensures (λ x. UploadPart x.0.0.0.0 x.0.0.0.1 x.0.0.1 x.0.1 x.1) _ (c.pair_of.ensures _ c.bytes_of.ensures))
