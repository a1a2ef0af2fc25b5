use Rattle.s3_types.specs.declared.request.Request.{Request}
use Rattle.std.proofs.Common.{Some, ap, sym, true, ◌∙◌, ◌≡◌}
use Rattle.task_requests.proofs.Steps.{ok_as}
use Rattle.task_staging.proofs.Staged.{asks_check, asks_next, holds_open}
use Rattle.task_staging.proofs.staging.Staging.open_request.Goals as goal

pub returns-then-not-is_over : goal.returns-then-not-is_over
returns-then-not-is_over c =
    let t = c.args.plan.now in
    let h = c.args.self.now in
    ok_as c.check_request.result _ _ c.check_request.ensures (asks_check t h.stage h.checks h.place h.end c.requires.end c.requires.stage
    (sym c.is_over.ensures ∙ c.if-not-is_over.true))

pub returns-in-Ok : goal.returns-in-Ok
returns-in-Ok c =
    let t = c.args.plan.now in
    let h = c.args.self.now in
    let over : c.is_over.result ≡ true = let n = c.if-not-is_over.false in cc in
    ap (λ (r : Request). Some r) c.in-Ok.ensures ∙ asks_next t h.stage h.checks h.place h.end h.set c.requires.end c.requires.stage
    (sym c.is_over.ensures ∙ over) (holds_open t h c.requires.end c.requires.keeps).set
