use Rattle.cleanup.proofs.SparingPlaces.{hears_at_aborting, hears_at_reading}
use Rattle.cleanup.specs.SparingHeld.{all_of, places_of, sparing_of}
use Rattle.job_model.specs.Jobs.{Job}
use Rattle.job_protocol.specs.AtWork.{job_script}
use Rattle.job_protocol.specs.Sparing.{Sparing, aborting, names, reading_on}
use Rattle.s3_types.specs.declared.request.Committer.{Committer}
use Rattle.std.proofs.Common.{OnOk, ap, drop, subst, ◌++◌, ◌∙◌, ◌≡◌}
use Rattle.cleanup.proofs.sparing_state.SparingState.hear.Goals as goal

pub returns-in-Reading-clause-goes : goal.returns-in-Reading-clause-goes
returns-in-Reading-clause-goes c =
    let h = c.args.self.now in
    let r = c.args.reply.now in
    let new = c.hear_read.new.self in
    let committer = λ (j : Job). j.committer in
    let P : Committer → Type 0 = λ k. OnOk c.hear_read.result (sparing_of k new ≡ reading_on k (h.named ++ names r)
    (drop 1 (drop h.at (places_of k h))) (all_of k h)) in
    let Q : Sparing → Type 0 = λ v. OnOk c.hear_read.result (sparing_of c.args.plan.now.committer new ≡ v) in
    subst Q (hears_at_reading c.args.plan.now.committer h (job_script c.args.plan.now) r c.in-Reading.is c.requires.there)
    (subst P (ap committer c.plan.view_is) c.hear_read.ensures.goes)

pub returns-in-Aborting-clause-goes : goal.returns-in-Aborting-clause-goes
returns-in-Aborting-clause-goes c =
    let h = c.args.self.now in
    let new = c.abort_next.new.self in
    let committer = λ (j : Job). j.committer in
    let P : Committer → Type 0 = λ k. sparing_of k new ≡ aborting k (drop 1 (drop h.at h.named)) (all_of k h) in
    subst P (ap committer c.plan.view_is) c.abort_next.ensures.goes
    ∙ hears_at_aborting c.args.plan.now.committer h (job_script c.args.plan.now) c.args.reply.now c.in-Aborting.is c.requires.there
