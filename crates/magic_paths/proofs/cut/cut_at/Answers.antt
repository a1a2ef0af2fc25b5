use Rattle.magic_paths.proofs.Walked.{begun, behind_at, front_at, has_word, stepped}
use Rattle.magic_paths.specs.Finals.{is_word}
use Rattle.std.proofs.Common.{false, rules, sym, true, ◌∙◌, ◌≡◌}
use Rattle.magic_paths.proofs.cut.cut_at.Goals as goal

pub loop-word-init : goal.loop-word-init
loop-word-init c = (search rules, begun c.args.word.now c.args.text.now)

pub before_end-requires : goal.before_end-requires
before_end-requires c = (c.loop-word.invariant.1.front, c.loop-word.invariant.1.whole)

pub returns-then-eq-clause-found : goal.returns-then-eq-clause-found
returns-then-eq-clause-found c =
    let hit : is_word c.args.word.now c.first_element.result.0.now ≡ true = sym c.eq.ensures ∙ c.if-eq.true in
    sym (has_word c.args.word.now c.args.text.now c.loop-word.rest.now c.first_element.result.0.now _ c.loop-word.invariant.1
    c.first_element.ensures.parts hit)

pub returns-then-eq-clause-front : goal.returns-then-eq-clause-front
returns-then-eq-clause-front c =
    let hit : is_word c.args.word.now c.first_element.result.0.now ≡ true = sym c.eq.ensures ∙ c.if-eq.true in
    front_at c.args.word.now c.args.text.now c.loop-word.rest.now c.first_element.result.0.now c.before_end.result.now _
    c.loop-word.invariant.1 c.first_element.ensures.parts hit c.before_end.ensures

pub returns-then-eq-clause-behind : goal.returns-then-eq-clause-behind
returns-then-eq-clause-behind c =
    let hit : is_word c.args.word.now c.first_element.result.0.now ≡ true = sym c.eq.ensures ∙ c.if-eq.true in
    behind_at c.args.word.now c.args.text.now c.loop-word.rest.now c.first_element.result.0.now _ c.loop-word.invariant.1
    c.first_element.ensures.parts hit

pub loop-word-preserved : goal.loop-word-preserved
loop-word-preserved c =
    let other : is_word c.args.word.now c.first_element.result.0.now ≡ false = sym c.eq.ensures ∙ c.if-eq.false in
    let parts = rw c.in-Some.is at c.first_element.ensures.parts in
    let whole = rw c.in-Some.is at c.first_element.ensures.whole in (
      search rules,
      stepped c.args.word.now c.args.text.now c.loop-word.rest.now c.first_element.result.0.now c.in-Some.after.now
          c.loop-word.invariant.1 parts whole other,
    )
