use Rattle.job_spec.specs.States.{Past}
use Rattle.job_states.specs.Stands.{Stands}
use Rattle.std.proofs.Common.{subst, sym}
use Rattle.job_states.proofs.states.States.pass.Goals as goal

pub returns-clause-stands : goal.returns-clause-stands
returns-clause-stands c = λ p h.
    let w = c.args.script.now in
    let played = c.play.ensures.stands p h in
    subst (λ (q : Past). Stands w c.count.new.self q) (sym played.2) (c.count.ensures.stands w played.0 played.1)
