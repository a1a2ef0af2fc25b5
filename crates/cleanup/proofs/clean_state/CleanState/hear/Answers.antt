use Rattle.cleanup.proofs.Places.{hears_aborting, remove_goes}
use Rattle.cleanup.specs.Held.{clean_at, clean_of}
use Rattle.cleanup.specs.inner.Held.{within}
use Rattle.cleanup.specs.inner.Places.{behind}
use Rattle.job_model.specs.Jobs.{Job}
use Rattle.job_protocol.specs.AtWork.{job_script}
use Rattle.job_protocol.specs.Cleanups.{clean_hears, removing}
use Rattle.std.proofs.Common.{ap, drop, length, sym, ◌∙◌}
use Rattle.cleanup.proofs.clean_state.CleanState.hear.Goals as goal

pub returns-in-Aborting-clause-goes : goal.returns-in-Aborting-clause-goes
returns-in-Aborting-clause-goes c =
    let h = c.args.self.now in
    hears_aborting (job_script c.args.plan.now) c.args.reply.now h.stage h.uploads h.sweep h.paths h.at c.next_place-at.result
    c.plan.inside.committer (clean_of c.abort_from.new.self)
    c.in-Aborting.is c.requires.there
    (c.next_place-at.ensures ∙ ap (behind c.args.self.now.at 1) (c.len.ensures ∙ ap length c.found.ensures))
    (let committer = λ (j : Job). j.committer in ap committer c.plan.view_is) c.abort_from.ensures.goes

pub returns-in-Removing-clause-goes : goal.returns-in-Removing-clause-goes
returns-in-Removing-clause-goes c =
    let h = c.args.self.now in
    c.remove_from.ensures.goes ∙ ap (λ m. removing (drop m h.paths)) (c.next_place-at-in-Removing.ensures ∙ ap (behind c.args.self.now.at 1)
    c.len-in-Removing.ensures)
    ∙ remove_goes (job_script c.args.plan.now) c.args.reply.now h.paths h.at
    (ap (λ s. within s h.at (length h.uploads) (length h.paths)) (sym c.in-Removing.is) ∙ c.requires.there)
    ∙ ap (λ s. clean_hears (job_script c.args.plan.now) (clean_at s h.uploads h.sweep h.paths h.at) c.args.reply.now) (sym c.in-Removing.is)
