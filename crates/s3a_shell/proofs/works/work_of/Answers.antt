use Rattle.durable_store.specs.Doing.{work_in}
use Rattle.durable_store.specs.Works.{IsPlain}
use Rattle.s3a_shell.proofs.Plain.{init_plain, not_init, work_plain}
use Rattle.s3a_shell.specs.Commanded.{DoneOn, IsWork, init_work}
use Rattle.std.proofs.Common.{subst, sym, ◌≡◌}
use Rattle.std.proofs.lemmas.Result.{IfOk-weaker}
use Rattle.s3a_shell.proofs.works.work_of.Goals as goal

pub returns-in-Init-clause-plain : goal.returns-in-Init-clause-plain
returns-in-Init-clause-plain c =
    IfOk-weaker c.init_work.result (λ w. work_in w ≡ init_work c.in-Init.minimum c.args.held) (λ w. IsPlain (work_in w))
    (λ w h. subst IsPlain (sym h) (init_plain c.in-Init.minimum c.args.held)) c.init_work.ensures

pub returns-in_default : goal.returns-in_default
returns-in_default c =
    let command = c.args.command.now in
    let does = IfOk-weaker c.done_on.result (λ w. DoneOn command c.args.bytes c.args.held (work_in w))
    (λ w. IsWork command c.args.bytes c.args.held (work_in w)) (λ w h. not_init command c.args.bytes c.args.held (work_in w)
    c.in_default.not-Init h) c.done_on.ensures in
    record {
      work = does;
      plain = IfOk-weaker c.done_on.result (λ w. IsWork command c.args.bytes c.args.held (work_in w))
          (λ w. IsPlain (work_in w)) (λ w h. work_plain command c.args.bytes c.args.held (work_in w) h) does;
    }
