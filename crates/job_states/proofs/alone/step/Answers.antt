use Rattle.std.proofs.Common.{◌≡◌, ◌≤◌, ◌<◌, ◌+◌, length, refl, ap, ◌∙◌, arith}
use Rattle.job_states.proofs.AloneTurns.{going_begins, goes_on, has_ended, has_died, one_more, ends_sending, ends_unsent}
use Rattle.job_states.proofs.alone.step.Goals as goal

pub turns-init : goal.turns-init
turns-init g c = (c.requires.holds, g.met.A.Actors.laws.self _, (going_begins _ _ c.requires.going, refl), omega arith)

pub turns-preserved : goal.turns-preserved
turns-preserved g c =
    let i = c.turns.invariant in
    let t = c.in-GoesOn.ensures in (
      t.holds,
      g.met.A.Actors.laws.chain _ _ _ i.1 t.keeps,
      (goes_on i.2.0 t.turned, one_more i.2.0.part _ ∙ ap (λ n. n + 1) i.2.1),
      omega
          arith,
    )

pub returns-in-Ended-clause-stepped : goal.returns-in-Ended-clause-stepped
returns-in-Ended-clause-stepped g c =
    let i = c.turns.invariant in
    let e = i.2.1 in
    let few : length i.2.0.part < c.args.count = omega (arith, e) in
    (has_ended i.2.0 c.in-Ended.ensures.turned, ends_sending _ _ _ _ few)

pub returns-in-Died-clause-stepped : goal.returns-in-Died-clause-stepped
returns-in-Died-clause-stepped g c =
    let i = c.turns.invariant in
    let e = i.2.1 in
    let few : length i.2.0.part ≤ c.args.count = omega (arith, e) in
    (has_died i.2.0 c.in-Died.ensures.turned, ends_unsent _ _ _ c.in-Died.ensures.turned.2.1 few)

pub returns-clause-stepped : goal.returns-clause-stepped
returns-clause-stepped g c =
    let i = c.turns.invariant in
    let e = i.2.1 in
    let over : length i.2.0.part ≡ c.args.count = omega (arith, e) in
    (i.2.0, over)
