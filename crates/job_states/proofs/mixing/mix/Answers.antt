use Rattle.job_states.proofs.Choices.{is_zero, next_small, picked}
use Rattle.job_states.proofs.MixTurns.{mixes_begin, mixes_die, mixes_end, mixes_on, mixes_over}
use Rattle.std.proofs.Common.{ap, arith, length, refl, rules, sym, vec_len, ◌%◌, ◌∙◌, ◌≡◌}
use Rattle.std.proofs.lemmas.Nat.{mod_below}
use Rattle.job_states.proofs.mixing.mix.Goals as goal

pub mixing-init : goal.mixing-init
mixing-init g c = (
  c.requires.holds,
  g.met.A.Actors.laws.self _,
  mixes_begin c.args.seed c.args.busy.items _ _ c.requires.apart c.requires.going c.requires.room
      (ap (λ v. v % 2147483648) c.from-drawn.ensures) (mod_below c.from-drawn.result 2147483648 (omega arith)),
)

pub mixing-preserved-in-GoesOn : goal.mixing-preserved-in-GoesOn
mixing-preserved-in-GoesOn g c =
    let i = c.mixing.invariant in
    let t = c.in-GoesOn.ensures in
    let len : vec_len c.mixing.busy ≡ length c.mixing.busy.items = search rules in
    let at = picked c.mixing.busy.items _ c.len.result _ _ len c.mixing-test.ensures c.len.ensures c.index.ensures in (
      t.holds,
      g.met.A.Actors.laws.chain _ _ _ i.1 t.keeps,
      mixes_on _ i.2 _ _ at _ _ refl (next_small _) refl (c.len.ensures ∙ len)
          t.turned,
    )

pub mixing-preserved-in-Ended : goal.mixing-preserved-in-Ended
mixing-preserved-in-Ended g c =
    let i = c.mixing.invariant in
    let t = c.in-Ended.ensures in
    let len : vec_len c.mixing.busy ≡ length c.mixing.busy.items = search rules in
    let at = picked c.mixing.busy.items _ c.len.result _ _ len c.mixing-test.ensures c.len.ensures c.index.ensures in (
      t.holds,
      g.met.A.Actors.laws.chain _ _ _ i.1 t.keeps,
      mixes_end _ i.2 _ _ at _ _ _ c.remove.ensures.items refl (next_small _) refl
          (c.len.ensures ∙ len) t.turned,
    )

pub mixing-preserved : goal.mixing-preserved
mixing-preserved g c =
    let i = c.mixing.invariant in
    let t = c.in-Died.ensures in
    let len : vec_len c.mixing.busy ≡ length c.mixing.busy.items = search rules in
    let at = picked c.mixing.busy.items _ c.len.result _ _ len c.mixing-test.ensures c.len.ensures c.index.ensures in
    (t.holds, g.met.A.Actors.laws.chain _ _ _ i.1 t.keeps, mixes_die _ i.2 _ _ at _ c.remove-in-Died.ensures.items t.turned)

pub returns-clause-mixed : goal.returns-clause-mixed
returns-clause-mixed g c =
    let len : vec_len c.mixing.busy ≡ length c.mixing.busy.items = search rules in
    let none : vec_len c.mixing.busy ≡ 0 = is_zero (vec_len c.mixing.busy) c.mixing-test.ensures in
    mixes_over c.mixing.invariant.2 (sym len ∙ none)
