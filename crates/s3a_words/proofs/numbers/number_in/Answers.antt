use Rattle.s3a_words.proofs.Decimals.{decimal_written, none_written, writes_decimals}
use Rattle.std.proofs.Common.{ap, arith, rules, string_bytes, sym, ◌∙◌, ◌≡◌}
use Rattle.std.proofs.lemmas.Fmt.{parse-decimal}
use Rattle.std.specs.Fmt.{decimal}
use Rattle.s3a_words.proofs.numbers.number_in.Goals as goal

pub returns-in_default-clause-exact : goal.returns-in_default-clause-exact
returns-in_default-clause-exact c =
    sym (none_written c.args.word.now (λ n small e. c.in_default.not-Ok n (parse-decimal 64 n c.args.word.now c.parse.result (omega arith)
    (omega arith) (sym e) c.parse.ensures.value.0)))

pub returns-then-ne-clause-exact : goal.returns-then-ne-clause-exact
returns-then-ne-clause-exact c =
    let text : string_bytes c.in_ok-written.written ≡ decimal c.in-Ok.number = search rules in
    sym (none_written c.args.word.now (λ n small e.
    let read = parse-decimal 64 n c.args.word.now c.parse.result (omega arith) (omega arith) (sym e) c.parse.ensures.value.0 in
    let number : n ≡ c.in-Ok.number = cc in
    let same : c.as_str.result.now ≡ c.args.word.now = c.as_str.ensures.value ∙ text ∙ ap decimal (sym number) ∙ e in
    absurd (search (rules, same))))

pub returns-clause-exact : goal.returns-clause-exact
returns-clause-exact c =
    let same : c.as_str.result.now ≡ c.args.word.now = search rules in
    let text : string_bytes c.in_ok-written.written ≡ decimal c.in-Ok.number = search rules in
    sym (decimal_written c.in-Ok.number c.args.word.now (omega arith) (sym text ∙ sym c.as_str.ensures.value ∙ same) (omega arith))

pub returns-in_default-clause-decimal : goal.returns-in_default-clause-decimal
returns-in_default-clause-decimal c = writes_decimals c.args.word.now

pub returns-then-ne-clause-decimal : goal.returns-then-ne-clause-decimal
returns-then-ne-clause-decimal c = writes_decimals c.args.word.now

pub returns-clause-decimal : goal.returns-clause-decimal
returns-clause-decimal c = writes_decimals c.args.word.now

pub returns-then-word-gt-MOST_DIGITS-clause-decimal : goal.returns-then-word-gt-MOST_DIGITS-clause-decimal
returns-then-word-gt-MOST_DIGITS-clause-decimal c = writes_decimals c.args.word.now

pub returns-in_err-written-clause-decimal : goal.returns-in_err-written-clause-decimal
returns-in_err-written-clause-decimal c = writes_decimals c.args.word.now
