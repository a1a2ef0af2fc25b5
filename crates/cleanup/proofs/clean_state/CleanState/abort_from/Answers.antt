use Rattle.cleanup.proofs.Places.{aborts_from}
use Rattle.cleanup.specs.Held.{clean_at}
use Rattle.cleanup.specs.inner.Held.{abort_stage}
use Rattle.std.proofs.Common.{ap, length, ◌∙◌}
use Rattle.cleanup.proofs.clean_state.CleanState.abort_from.Goals as goal

pub returns-clause-goes : goal.returns-clause-goes
returns-clause-goes c =
    ap (λ s. clean_at s c.args.self.now.uploads c.put.new.place c.args.self.now.paths c.args.at)
    (c.stage_of_uploads-self.ensures ∙ ap (abort_stage c.args.committer c.args.at) (c.len.ensures ∙ ap length c.found.ensures))
    ∙ ap (λ w. clean_at (abort_stage c.args.committer c.args.at (length c.args.self.now.uploads)) c.args.self.now.uploads w
    c.args.self.now.paths c.args.at)
    (c.put.ensures ∙ c.new.ensures) ∙ aborts_from c.args.committer c.args.self.now.uploads c.args.self.now.paths c.args.at
