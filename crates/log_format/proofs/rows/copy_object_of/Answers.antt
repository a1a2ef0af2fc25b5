use Rattle.log_format.proofs.Behind.{fault, row}
use Rattle.log_format.specs.Reading.{copy_object_in, target_at, text_at}
use Rattle.s3_types.specs.Names.{is_key}
use Rattle.s3_types.specs.declared.request.Request.TheVariants.{CopyObject}
use Rattle.log_format.proofs.rows.copy_object_of.Goals as goal

pub returns-in-Ok : goal.returns-in-Ok
unfolding copy_object_in
returns-in-Ok c = row (λ x. CopyObject x.0.0 x.0.1 x.1) c.args.at (target_at c.args.at) (text_at is_key c.args.at) _ _ _ _
    c.in_ok-place.ensures (c.in-Ok.ensures (λ x. CopyObject x.0.0 x.0.1 x.1) _ (c.pair_of.ensures _ c.key_of.ensures))

pub returns-in-Err : goal.returns-in-Err
unfolding copy_object_in
returns-in-Err c = fault (λ x. CopyObject x.0.0 x.0.1 x.1) c.args.at (target_at c.args.at) (text_at is_key c.args.at) _ _ _ _
    c.in_ok-place.ensures (c.in-Err.ensures (λ x. CopyObject x.0.0 x.0.1 x.1) _ (c.pair_of.ensures _ c.key_of.ensures))
