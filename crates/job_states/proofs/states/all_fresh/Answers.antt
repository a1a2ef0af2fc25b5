use Rattle.job_model.specs.JobScript.{Script}
use Rattle.job_spec.specs.States.{actors}
use Rattle.job_states.proofs.PlaceLemmas.{length_actors}
use Rattle.job_states.proofs.ReportLemmas.{all_same}
use Rattle.job_states.specs.inner.Standing.{fresh}
use Rattle.std.proofs.Common.{ap, length, ◌+◌, ◌∙◌}
use Rattle.job_states.proofs.states.all_fresh.Goals as goal

pub returns : goal.returns
returns c =
    let w = c.args.script.now in
    c.in_ok-standings.ensures ∙ all_same fresh (c.len.result + 1) (actors w) (length_actors w c.len.result
    (c.len.ensures ∙ ap (λ (s : Script). length s.attempts) c.script.view_is))
