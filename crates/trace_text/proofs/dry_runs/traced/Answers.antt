use Rattle.std.proofs.Common.{ap, refl, subst, sym, ◌∙◌}
use Rattle.s3_types.specs.Moment.{IsHonest}
use Rattle.s3_types.specs.Store.{Content}
use Rattle.job_model.specs.JobScript.{Script}
use Rattle.job_spec.specs.States.{verdict}
use Rattle.trace_text.specs.DryRuns.{IsDryRun}
use Rattle.trace_text.specs.Trace.{trace_text}
use Rattle.trace_text.proofs.dry_runs.traced.Goals as goal

pub trace_text-requires-clause-honest : goal.trace_text-requires-clause-honest
trace_text-requires-clause-honest g c =
    let run = c.args.world in
    let played = c.finish-played.result in
    let left = c.finish-played.ensures in
    subst (λ (o : Content). IsHonest o played.journal.entries) c.requires.opening
    (subst (IsHonest run.opening) (sym left.journal) left.keeps.sent.honest)

pub returns-in-Ok : goal.returns-in-Ok
returns-in-Ok g c =
    let w = c.args.world.script in
    let left = c.finish-played.ensures in
    let played = c.finish-played.result in
    subst (IsDryRun w c.args.opening) (sym c.shown.ensures)
    (record {
      run = c.args.world;
      keeps = left.keeps;
      finished = left.finished c.requires.over;
      script = refl;
      opening = c.requires.opening;
      script_told = left.script;
      journal = left.journal;
      picks = left.picks;
      ends = left.ends;
      status = c.verdict-status.ensures ∙ ap (verdict w) (sym left.ends);
      text = c.in-Ok.ensures ∙ ap (λ (s : Script). trace_text s c.args.opening played.journal.entries played.ends) left.script;
    })
