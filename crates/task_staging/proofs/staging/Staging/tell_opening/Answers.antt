use Rattle.job_protocol.specs.AtWork.{with_known}
use Rattle.std.proofs.Common.{ap, sym, true, ◌∙◌, ◌≡◌}
use Rattle.task_staging.proofs.Staged.{worn_other, worn_stored}
use Rattle.task_staging.proofs.staging.Staging.tell_opening.Goals as goal

pub returns-then-not-stores : goal.returns-then-not-stores
returns-then-not-stores c =
    let t = c.args.plan.now in
    let h = c.args.self.now in
    ap (with_known t) (worn_other t h.stage h.checks h.place h.end c.requires.end c.requires.stage
    (sym c.stores.ensures ∙ c.if-not-stores.true))

pub returns : goal.returns
returns c =
    let t = c.args.plan.now in
    let h = c.args.self.now in
    let all : c.stores.result ≡ true = let n = c.if-not-stores.false in cc in
    c.tell_put.ensures ∙ ap (with_known t) (worn_stored t h.stage h.checks h.place h.end c.requires.end c.requires.stage
    (sym c.stores.ensures ∙ all))
