use Rattle.job_states.proofs.ToldLemmas.{mapped_more}
use Rattle.job_states.specs.inner.Standing.{unreported_in}
use Rattle.job_states.specs.declared.standing.Standing.{Standing}
use Rattle.std.proofs.Common.{List, ap, arith, drop, get_or, map, set, suc, take, ℕ, ◌++◌, ◌+◌, ◌∙◌, ◌≡◌}
use Rattle.job_states.proofs.states.unreport.Goals as goal

pub loop-standing-preserved : goal.loop-standing-preserved
loop-standing-preserved c =
    let old = c.args.standings.now in
    let i = c.loop-standing.standing-index in
    let next : suc i ≡ i + 1 = omega arith in
    ap (set c.loop-standing.standings i) c.unreported.ensures
    ∙ ap (λ (l : List Standing). set l i (unreported_in (get_or l i _))) c.loop-standing.invariant
    ∙ mapped_more unreported_in old i _ c.loop-standing-test.true ∙ ap (λ (n : ℕ). map unreported_in (take n old) ++ drop n old) next
