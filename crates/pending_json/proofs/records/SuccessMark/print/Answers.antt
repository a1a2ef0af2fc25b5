use Rattle.pending_json.proofs.Sent.{mark_written}
use Rattle.std.proofs.lemmas.Result.{IfOk-weaker}
use Rattle.pending_json.proofs.records.SuccessMark.print.Goals as goal

pub returns : goal.returns
returns c = IfOk-weaker c.written.result _ _ (λ b sent. mark_written c.args.self.now sent.0 b sent.1 sent.2) c.written.ensures
