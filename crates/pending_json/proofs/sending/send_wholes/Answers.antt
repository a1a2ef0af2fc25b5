use Rattle.pending_json.proofs.Sent.{wholes_sent}
use Rattle.std.proofs.lemmas.Result.{on_ok_weaker}
use Rattle.pending_json.proofs.sending.send_wholes.Goals as goal

pub returns : goal.returns
returns g c = on_ok_weaker c.serialize.result (λ sent. (_, c.in_ok-key.ensures, wholes_sent c.args.all.now _ _ sent)) c.serialize.ensures
