use Rattle.job_model.specs.Attempts.{is_known}
use Rattle.job_model.specs.declared.ends.ActorEnd.{ActorEnd}
use Rattle.job_model.specs.declared.events.Op.TheVariants.{Commit, Setup}
use Rattle.job_spec.specs.States.{end_op, is_commit, is_reported, is_setup}
use Rattle.job_states.proofs.StandsLemmas.{changes_end, commit_was, decides, never, others_put, same_report, same_stage, setup_was}
use Rattle.job_states.specs.Standing.{standing}
use Rattle.job_states.specs.Stands.{Kept, Stands}
use Rattle.job_states.specs.inner.Stands.{ChangesAt}
use Rattle.job_states.specs.declared.standing.Standing.{Standing}
use Rattle.std.proofs.Common.{subst, sym, true, ◌∙◌, ◌≡◌}
use Rattle.job_states.proofs.states.States.end_of.Goals as goal

pub returns-clause-stands : goal.returns-clause-stands
returns-clause-stands c = λ p h.
    let w = c.args.script.now in
    let a = c.args.actor in
    let e = c.args.end.now in
    let x : ActorEnd = record { actor = a; end = e } in
    let k = subst (λ (v : Kept). Stands w v p) (sym c.self.view_is) h in
    let s = c.standing_of-standing.result in
    let known : is_known w.attempts a ≡ true → s ≡ standing p a = c.standing_of-standing.ensures.known (standing p)
    (c.deref.ensures.value ∙ k.actors) in record {
      events = k.events;
      actors =
          c.put_standing.ensures (standing p) (standing (end_op p x)) k.actors
          (subst (λ (y : Standing). ChangesAt w a y (standing p) (standing (end_op p x))) (sym c.after_end.ensures)
          (changes_end w p x s known));
      attempt = k.attempt;
      reported = c.report.ensures w.tasks (is_reported w p.reported) k.reported ∙ same_report w a s.state.stage (p.state a).stage e
          p.reported (same_stage w p a s k.others known c.standing_of-standing.ensures.unknown) (k.others a);
      setup = c.decided-self-inside.ensures p.setup k.setup ∙ decides w p a e s Setup is_setup p.setup c.began.result setup_was
          c.began.ensures known;
      commit = c.decided-self-inside-2.ensures p.commit k.commit ∙ decides w p a e s Commit is_commit p.commit c.began-2.result commit_was
          c.began-2.ensures known;
      others = others_put w p a _ k.others (λ u. never e (p.state a).stage (k.others a u));
    }
