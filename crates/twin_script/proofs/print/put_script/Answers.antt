use Rattle.job_model.specs.Legal.{IsLegal}
use Rattle.job_script.specs.Print.{script_text}
use Rattle.std.proofs.Common.{subst, sym, ◌∙◌, ◌≡◌}
use Rattle.std.specs.Str.{IsUtf8}
use Rattle.twin_script.proofs.Printed.{script_utf8}
use Rattle.twin_script.proofs.print.put_script.Goals as goal

pub returns-in_err-bytes-clause-legal : goal.returns-in_err-bytes-clause-legal
returns-in_err-bytes-clause-legal c = subst IsLegal c.script.view_is c.script.invariant

pub returns-clause-legal : goal.returns-clause-legal
returns-clause-legal c = subst IsLegal c.script.view_is c.script.invariant

pub unreachable-requires : goal.unreachable-requires
unreachable-requires c =
    let s = c.args.script.now in
    let text : c.as_slice.result.now ≡ script_text s = c.as_slice.ensures ∙ c.in_ok-bytes.ensures.text in
    c.in-Err.ensures.cases.0 (subst IsUtf8 (sym text) (script_utf8 s (subst IsLegal c.script.view_is c.script.invariant)))
