use Rattle.job_model.specs.declared.ends.OpEnd.TheVariants.{NoMemory}
use Rattle.job_run.proofs.Turns.{goes_on, has_died, has_ended}
use Rattle.std.proofs.Common.{refl, sym, ◌∙◌}
use Rattle.job_run.proofs.turning.BodyActors.turn.Goals as goal

pub returns-in-Unsent : goal.returns-in-Unsent
returns-in-Unsent g c =
    has_died _ _ _ _ _ _ _ g.W.Works.rise _ _ g.met.W.Acts.laws _ _ c.args.place c.actor_at-actor.result c.actor_at-actor.ensures
    c.requires.going c.requires.holds
    c.in-Unsent.ensures.around _ NoMemory c.die.ensures.holds c.die.ensures.over refl c.in-Unsent.ensures.posted.1
    c.in-Unsent.ensures.posted.2

pub returns-in-Broken : goal.returns-in-Broken
returns-in-Broken g c =
    has_ended _ _ _ _ _ _ _ g.W.Works.rise _ _ g.met.W.Acts.laws _ _ c.args.place c.actor_at-actor.result c.actor_at-actor.ensures
    c.requires.going c.requires.holds
    c.in-Broken.ensures.around _ NoMemory c.die-in-Broken.ensures.holds c.die-in-Broken.ensures.over c.in-Broken.ensures.posted.1
    c.in-Broken.ensures.posted.2

pub returns-in-Err : goal.returns-in-Err
returns-in-Err g c =
    has_ended _ _ _ _ _ _ _ g.W.Works.rise _ _ g.met.W.Acts.laws _ _ c.args.place c.actor_at-actor.result c.actor_at-actor.ensures
    c.requires.going c.requires.holds
    c.in-Heard.ensures.around _ NoMemory c.die-in-Err.ensures.holds c.die-in-Err.ensures.over c.in-Heard.ensures.posted.1
    c.in-Heard.ensures.posted.2

pub returns-in-Ok-None : goal.returns-in-Ok-None
returns-in-Ok-None g c =
    let posted = c.in-Heard.ensures.posted in
    goes_on _ _ _ _ _ _ _ g.W.Works.rise _ _ g.met.W.Acts.laws _ _ c.args.place c.actor_at-actor.result c.actor_at-actor.ensures
    c.requires.going c.requires.holds
    c.in-Heard.ensures.around posted.0 posted.1 posted.2 posted.3 posted.4 (sym c.in-Ok-None.ensures.ok ∙ c.in-Ok-None.field-0-is)

pub returns-in-Ok-Some : goal.returns-in-Ok-Some
returns-in-Ok-Some g c =
    has_ended _ _ _ _ _ _ _ g.W.Works.rise _ _ g.met.W.Acts.laws _ _ c.args.place c.actor_at-actor.result c.actor_at-actor.ensures
    c.requires.going c.requires.holds
    c.in-Heard.ensures.around _ c.in-Ok-Some.end c.over.ensures.holds c.over.ensures.over c.in-Heard.ensures.posted.1
    c.in-Heard.ensures.posted.2
