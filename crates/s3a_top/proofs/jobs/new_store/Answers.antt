use Rattle.durable_job.specs.Jobs.{dest_of}
use Rattle.s3_types.specs.Answer.{apply_store}
use Rattle.s3_types.specs.Store.{Content}
use Rattle.s3_types.specs.declared.request.Request.TheVariants.{MakeBucket}
use Rattle.s3a_top.proofs.Beginning.{new_image}
use Rattle.std.proofs.Common.{ap, ◌∙◌}
use Rattle.s3a_top.proofs.jobs.new_store.Goals as goal

pub returns-in-Ok-clause-image : goal.returns-in-Ok-clause-image
returns-in-Ok-clause-image c =
    let name = (dest_of c.args.jobs.now).bucket in
    new_image name c.make_bucket.new.service (c.in-Ok.ensures ∙ ap (λ (d : Content). apply_store d (MakeBucket name)) c.new-service.ensures)
