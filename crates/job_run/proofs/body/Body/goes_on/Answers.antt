use Rattle.std.proofs.Common.{List, ap, inl, inr, refl, sym, ◌++◌, ◌∙◌, ◌∷◌, []}
use Rattle.job_model.specs.declared.ends.ActorEnd.{ActorEnd}
use Rattle.job_model.specs.declared.ends.OpEnd.TheVariants.{NoMemory}
use Rattle.job_run.proofs.Standings.{placed}
use Rattle.job_run.proofs.Turns.{goes, goes_over}
use Rattle.job_run.proofs.body.Body.goes_on.Goals as goal

pub over-requires-clause-actor : goal.over-requires-clause-actor
over-requires-clause-actor g c = placed _ _ _ c.requires.actor

pub die-requires-clause-actor : goal.die-requires-clause-actor
die-requires-clause-actor g c = placed _ _ _ c.requires.actor

pub returns-in-Ok-None-clause-going : goal.returns-in-Ok-None-clause-going
returns-in-Ok-None-clause-going g c =
    goes _ _ _ _ _ _ c.requires.others c.requires.during g.W.Acts.end_of g.met.W.Acts.laws.goes_on c.requires.holds
    (c.requires.work, c.requires.hand)
    (sym c.in-Ok-None.ensures.ok ∙ c.in-Ok-None.field-0-is)

pub returns-in-Ok-Some-clause-going : goal.returns-in-Ok-Some-clause-going
returns-in-Ok-Some-clause-going g c = goes_over _ _ _ _ _ _ c.requires.others c.requires.during _ _ _ c.over.ensures.holds
    c.over.ensures.over

pub returns-in-Ok-None-clause-ended : goal.returns-in-Ok-None-clause-ended
returns-in-Ok-None-clause-ended g c = sym c.in-Ok-None.ensures.ok ∙ c.in-Ok-None.field-0-is

pub returns-in-Ok-Some-clause-ended : goal.returns-in-Ok-Some-clause-ended
returns-in-Ok-Some-clause-ended g c =
    let end = c.in-Ok-Some.end in
    let only : ActorEnd = record { actor = c.args.actor; end = end } in (
      end,
      c.over.ensures.over.finished ∙ ap (λ (xs : List ActorEnd). xs ++ only ∷ []) c.requires.none,
      inl (sym c.in-Ok-Some.ensures.ok ∙ c.in-Ok-Some.field-0-is),
    )

pub returns-in-Err-clause-ended : goal.returns-in-Err-clause-ended
returns-in-Err-clause-ended g c =
    let only : ActorEnd = record { actor = c.args.actor; end = NoMemory } in (
      NoMemory,
      c.die.ensures.over.finished ∙ ap (λ (xs : List ActorEnd). xs ++ only ∷ []) c.requires.none,
      inr (c.in-Err.ensures.err, refl),
    )
