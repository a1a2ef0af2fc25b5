use Rattle.job_model.specs.Legal.{IsLegal}
use Rattle.job_script.proofs.PrintLines.{script_is}
use Rattle.job_script.proofs.Whole.{read_again, read_within}
use Rattle.job_script.specs.Print.{script_text}
use Rattle.job_script.specs.Script.{script_of, script_within}
use Rattle.std.proofs.Common.{IfOk, List, Ok, ap, length, subst, ℕ, ◌∙◌, ◌≡◌, ◌≤◌}
use Rattle.std.proofs.lemmas.Result.{IfOk-weaker}
use Rattle.std.specs.FinMap as map
use Rattle.job_script.proofs.print.print_script.Goals as goal

legal : (c : goal.After-new) → IsLegal c.args.script.now
legal c = subst IsLegal c.script.view_is c.script.invariant

pub returns-clause-text : goal.returns-clause-text
returns-clause-text c =
    subst (λ t. IfOk c.new.result (λ bytes. bytes ≡ t))
    (ap (λ v. v.items) c.into_bytes.ensures.value
    ∙ script_is c.args.script.now _ _ _ _ _ _ c.script.view_is c.as_slice.ensures c.new-out.ensures.bytes c.in_ok-put_head.ensures
    c.in_ok-put_attempts.ensures c.in_ok-put_events.ensures)
    c.new.ensures

pub returns-clause-again : goal.returns-clause-again
returns-clause-again c =
    let s = c.args.script.now in
    IfOk-weaker c.new.result (λ (bytes : List ℕ). bytes ≡ script_text s)
    (λ (bytes : List ℕ). map.len s.fates ≤ 10000 → length bytes ≤ 67108864 → script_of bytes ≡ Ok s)
    (λ (bytes : List ℕ) e few short. ap script_of e ∙ read_again s (legal c) few (subst (λ (l : List ℕ). length l ≤ 67108864) e short))
    (returns-clause-text c)

pub returns-clause-any_size : goal.returns-clause-any_size
returns-clause-any_size c =
    let s = c.args.script.now in
    IfOk-weaker c.new.result (λ (bytes : List ℕ). bytes ≡ script_text s)
    (λ (bytes : List ℕ). (losses size : ℕ) → map.len s.fates ≤ losses → length bytes ≤ size → script_within losses size bytes ≡ Ok s)
    (λ (bytes : List ℕ) e losses size few short. ap (script_within losses size) e
    ∙ read_within losses size s (legal c) few (subst (λ (l : List ℕ). length l ≤ size) e short))
    (returns-clause-text c)
