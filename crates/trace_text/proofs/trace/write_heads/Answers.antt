use Rattle.job_model.specs.JobScript.{Script}
use Rattle.std.proofs.Common.{ap, string_bytes, ℕ, ◌++◌, ◌∙◌}
use Rattle.std.proofs.lemmas.Result.{on_ok_weaker}
use Rattle.std.specs.List.{flat_map}
use Rattle.trace_text.proofs.Written.{three_written}
use Rattle.trace_text.specs.Heads.{attempt_lines, object_lines}
use Rattle.trace_text.proofs.trace.write_heads.Goals as goal

pub returns : goal.returns
returns c =
    let attempts =
    c.in_ok-write_attempts.ensures
    ∙ ap (λ (m : ℕ). string_bytes c.write_job.new.text ++ flat_map (attempt_lines c.args.script.now m) c.args.script.now.attempts)
    c.minimum.ensures.minimum in
    let objects = ap (λ (s : Script). string_bytes c.write_attempts.new.text ++ object_lines s.dest c.args.service.now) c.script.view_is in
    on_ok_weaker c.write_objects.result (λ e. three_written _ _ _ _ _ _ _ c.in_ok-write_job.ensures attempts (e ∙ objects))
    c.write_objects.ensures
