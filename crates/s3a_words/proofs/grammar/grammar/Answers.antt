use Rattle.clap.specs.Simple.{app_of_fields, on_top}
use Rattle.clap.specs.Words.{app_of, new_rule, rule_of, with_rule}
use Rattle.s3a_words.specs.inner.Grammar.{bare, command_rule, grammar}
use Rattle.std.proofs.Common.{ap, ap₂, codes, rules, true, ◌∙◌, ◌≡◌}
use Rattle.std.proofs.lemmas.Result.{IfOk-weaker}
use Rattle.s3a_words.proofs.grammar.grammar.Goals as goal

pub returns : goal.returns
returns c =
    let name_is : rule_of c.required-name.result ≡ command_rule = search rules in
    let first_is : rule_of c.new-3.result ≡ new_rule (codes "first") = search rules in
    let second_is : rule_of c.new-4.result ≡ new_rule (codes "second") = search rules in
    let third_is : rule_of c.new-5.result ≡ new_rule (codes "third") = search rules in
    let without_name : app_of c.no_binary_name.result ≡ on_top (λ s. record s { no_binary_name = true }) (app_of c.new-2.result) = ap
    app_of_fields c.no_binary_name.ensures in
    let without_help : app_of c.disable_help_flag.result ≡ on_top (λ s. record s { disable_help_flag = true })
    (app_of c.no_binary_name.result) = ap app_of_fields c.disable_help_flag.ensures in
    let bare_is : app_of c.disable_help_flag.result ≡ bare =
    without_help ∙ ap (on_top (λ s. record s { disable_help_flag = true })) (without_name ∙ ap
    (on_top (λ s. record s { no_binary_name = true })) c.new-2.ensures.app) in
    let named = c.in_ok-arg.ensures.shape (search rules) ∙ ap₂ with_rule bare_is name_is in
    let with_first = c.in_ok-arg-2.ensures.shape (search rules) ∙ ap₂ with_rule named first_is in
    let with_second = c.in_ok-arg-3.ensures.shape (search rules) ∙ ap₂ with_rule with_first second_is in
    IfOk-weaker c.arg-4.result _ (λ command. app_of command ≡ grammar) (λ command added. added.shape (search rules) ∙ ap₂ with_rule
    with_second third_is) c.arg-4.ensures
