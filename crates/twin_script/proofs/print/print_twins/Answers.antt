use Rattle.job_model.specs.Legal.{IsLegal}
use Rattle.std.proofs.Common.{List, ap, length, string_bytes, subst, ℕ, ◌∙◌, ◌≡◌, ◌≤◌}
use Rattle.twin_script.proofs.Again.{twins_again, twins_is}
use Rattle.twin_script.specs.Print.{twins_text}
use Rattle.twin_script.specs.TwinScripts.{AreTwins, Twins}
use Rattle.twin_script.specs.Twins.{twins_of}
use Rattle.twin_script.proofs.print.print_twins.Goals as goal

text_is : (c : goal.In_ok-put_order) → string_bytes c.put_order.new.out ≡ twins_text c.args.twins.now
text_is c =
    twins_is c.args.twins.now _ _ _ _ _ _ _ c.twins.view_is c.as_slice.ensures c.new-out.ensures.bytes c.in_ok-put_script.ensures.text
    c.in_ok-put_parting.ensures c.in_ok-put_script-2.ensures.text c.in_ok-put_order.ensures

pub returns-clause-text : goal.returns-clause-text
returns-clause-text c = text_is c

pub returns-clause-again : goal.returns-clause-again
returns-clause-again c =
    let t = c.args.twins.now in
    let text = text_is c in
    let twins : AreTwins t = subst AreTwins c.twins.view_is c.twins.invariant in
    let first : IsLegal t.first = subst (λ (x : Twins). IsLegal x.first) c.twins.view_is c.in_ok-put_script.ensures.legal in
    let second : IsLegal t.second = subst (λ (x : Twins). IsLegal x.second) c.twins.view_is c.in_ok-put_script-2.ensures.legal in
    λ few short. ap twins_of text ∙ twins_again t twins first second few (subst (λ (l : List ℕ). length l ≤ 67108864) text short)
