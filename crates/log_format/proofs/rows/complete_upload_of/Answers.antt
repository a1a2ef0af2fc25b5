use Rattle.s3_types.specs.declared.request.Request.TheVariants.{CompleteUpload}
use Rattle.log_format.specs.Reading.{complete_upload_in, upload_at, counted_at, named_at}
use Rattle.log_format.proofs.Behind.{row, fault}
use Rattle.log_format.proofs.rows.complete_upload_of.Goals as goal

pub returns-in-Ok : goal.returns-in-Ok
unfolding complete_upload_in
returns-in-Ok c = row (λ x. CompleteUpload x.0.0.0 x.0.0.1 x.0.1 x.1) c.args.at (upload_at c.args.at)
    (counted_at (named_at c.args.at) c.args.at) _ _ _ _ c.in_ok-upload.ensures
    (c.in-Ok.ensures (λ x. CompleteUpload x.0.0.0 x.0.0.1 x.0.1 x.1) _ (c.pair_of.ensures _ c.parts_of.ensures))

pub returns-in-Err : goal.returns-in-Err
unfolding complete_upload_in
returns-in-Err c = fault (λ x. CompleteUpload x.0.0.0 x.0.0.1 x.0.1 x.1) c.args.at (upload_at c.args.at)
    (counted_at (named_at c.args.at) c.args.at) _ _ _ _ c.in_ok-upload.ensures
    (c.in-Err.ensures (λ x. CompleteUpload x.0.0.0 x.0.0.1 x.0.1 x.1) _ (c.pair_of.ensures _ c.parts_of.ensures))
