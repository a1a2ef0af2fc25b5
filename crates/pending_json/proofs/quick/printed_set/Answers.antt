use Rattle.pending_json.proofs.RoundTrip.{set_text}
use Rattle.pending_json.proofs.Sent.{set_written}
use Rattle.pending_json.specs.Reading.{set_of}
use Rattle.std.proofs.Common.{List, Ok, subst, sym, ℕ, ◌≡◌}
use Rattle.pending_json.proofs.quick.printed_set.Goals as goal

pub returns-then-prints : goal.returns-then-prints
returns-then-prints c =
    let s = c.in_ok-set.set in
    let sent = c.prints.ensures c.if-prints.true in
    subst (λ (b : List ℕ). set_of b ≡ Ok s) (sym (set_written s sent.0 c.args.bytes.now sent.1 sent.2)) (set_text s c.in_ok-set.ensures)
