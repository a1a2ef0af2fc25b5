use Rattle.job_model.specs.JobScript.{Script}
use Rattle.job_states.proofs.ToldLemmas.{none_reported}
use Rattle.job_states.specs.Stands.{tested}
use Rattle.std.proofs.Common.{ap, false, refl, sym, ◌∙◌}
use Rattle.job_states.proofs.states.States.new.Goals as goal

pub returns : goal.returns
returns c = record {
  events = refl;
  actors = c.in_ok-actors.ensures;
  attempt = refl;
  reported = c.in_ok-reports.ensures ∙ ap (λ (s : Script). tested s.tasks (λ t. false)) c.script.view_is ∙ sym
      (none_reported c.args.script.now);
  setup = refl;
  commit = refl;
  others = λ a u. refl;
}
