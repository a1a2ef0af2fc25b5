use Rattle.pending_json.proofs.Sent.{seq_sent}
use Rattle.pending_json.specs.Trees.{pending_tree}
use Rattle.serde_json.specs.Events.{SendsValue}
use Rattle.std.proofs.lemmas.Result.{on_ok_weaker}
use Rattle.pending_json.proofs.sending.send_uploads.Goals as goal

pub returns : goal.returns
returns g c = on_ok_weaker c.serialize.result (λ sent. (
  _,
  c.in_ok-key.ensures,
  seq_sent (λ p. SendsValue (pending_tree p)) pending_tree
      (λ p old new s. s) c.args.all.now _ _ sent,
)) c.serialize.ensures
