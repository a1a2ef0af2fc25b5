use Rattle.job_model.specs.Files.{File}
use Rattle.job_model.specs.Jobs.{Task}
use Rattle.job_model.specs.Known.{Known}
use Rattle.job_model.specs.contracts.plan.TaskPlan.{the_view}
use Rattle.s3_types.proofs.Blocks.{some_parts}
use Rattle.s3_types.specs.declared.request.Request.TheVariants.{UploadPart}
use Rattle.std.proofs.Common.{List, ap, ℕ, ◌∙◌}
use Rattle.task_requests.proofs.Steps.{begun_asked, begun_drawn, known_of}
use Rattle.task_requests.proofs.uploads.begin_upload.Goals.{in-Err, in-Ok-draw}
use Rattle.task_requests.specs.Writing.{part_behind, size_of, with_drawn}
use Rattle.task_requests.proofs.uploads.begin_upload.Goals as goal

pub ask_part-requires-clause-within : goal.ask_part-requires-clause-within
ask_part-requires-clause-within c = some_parts (size_of c.args.plan.now c.in-Some.bytes.now) c.in-Some.bytes.now

pub returns-clause-asked : goal.returns-clause-asked
returns-clause-asked c =
    let t : Task = c.args.plan.now in
    let f : File = (c.in-Some.path.now, c.in-Some.bytes.now) in
    elim c.match-draw.branch [
      | in-Ok-draw w ↦ rw w.result-is (begun_asked t c.args.place f c.args.upload c.in-Ok.asked c.in-Some.ensures.file
          (c.in-Ok.ensures ∙ ap (λ (k : List ℕ). UploadPart t.job.dest.bucket k c.args.upload 1 (part_behind t f.1 0)) c.in_ok-key.ensures))
      | in-Err w ↦ rw w.result-is tt
    ]

pub returns-clause-drawn : goal.returns-clause-drawn
returns-clause-drawn c =
    let t : Task = c.args.plan.now in
    let f : File = (c.in-Some.path.now, c.in-Some.bytes.now) in
    elim c.match-draw.branch [
      | in-Ok-draw w ↦ rw w.result-is (begun_drawn t _ c.args.place f c.in_ok-key.key c.args.upload c.in-Some.ensures.file
          (known_of (the_view c.plan.inside) t (λ (k : Known). with_drawn k c.in_ok-key.key c.args.upload) c.draw.new.self c.plan.view_is
          w.in-Ok-draw.ensures.ok)
          c.in_ok-key.ensures)
      | in-Err w ↦ rw w.result-is tt
    ]
