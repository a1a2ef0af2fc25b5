use Rattle.pending_json.proofs.RoundTrip.{pending_text}
use Rattle.pending_json.proofs.Sent.{pending_written}
use Rattle.pending_json.specs.Reading.{pending_of}
use Rattle.std.proofs.Common.{List, Ok, subst, sym, ℕ, ◌≡◌}
use Rattle.pending_json.proofs.quick.printed_upload.Goals as goal

pub returns-then-prints : goal.returns-then-prints
returns-then-prints c =
    let p = c.in_ok-upload.upload in
    let sent = c.prints.ensures c.if-prints.true in
    subst (λ (b : List ℕ). pending_of b ≡ Ok p) (sym (pending_written p sent.0 c.args.bytes.now sent.1 sent.2))
    (pending_text p c.in_ok-upload.ensures)
