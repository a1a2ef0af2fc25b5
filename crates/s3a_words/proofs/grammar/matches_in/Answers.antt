use Rattle.clap.specs.Walk.{texts}
use Rattle.clap.specs.Words.{fault_of, found_of, is_simple, is_simple_and_free, matches_of, rows_of, takes}
use Rattle.s3a_words.proofs.Parse.{given_in, given_of, is_free, is_simply_built, read, without}
use Rattle.s3a_words.specs.inner.Grammar.{grammar}
use Rattle.std.proofs.Common.{ap, sym, [], ◌∙◌, ◌≡◌}
use Rattle.s3a_words.proofs.grammar.matches_in.Goals as goal

pub returns-in-Ok : goal.returns-in-Ok
returns-in-Ok c plain =
    let words = texts c.args.words.now in
    let is = c.in_ok-grammar.ensures in
    let none : fault_of grammar words ≡ [] = ap (λ a. fault_of a words) (sym is) ∙ c.in-Ok.ensures.kinds
    (ap is_simple_and_free is ∙ is_free) in
    let rows : rows_of (found_of c.in-Ok.matches) ≡ matches_of grammar words =
    (c.in-Ok.ensures.matches (ap is_simple is ∙ is_simply_built)).0 ∙ ap (λ a. matches_of a words) is in
    given_of c.in-Ok.matches ∙ ap given_in rows ∙ read words plain none

pub returns-in-Err : goal.returns-in-Err
returns-in-Err c =
    let words = texts c.args.words.now in
    without words c.without_matches-none.result c.without_matches-none.ensures.none
    (λ taken. c.without_matches-none.ensures.memory.1 (c.in-Err.ensures.passes (ap (λ a. takes a words) c.in_ok-grammar.ensures ∙ taken)))
