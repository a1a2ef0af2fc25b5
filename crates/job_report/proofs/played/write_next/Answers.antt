use Rattle.std.proofs.Common.{◌≡◌, ◌∙◌, ◌+◌, ◌-◌, ◌++◌, min, length, ℕ, List, ap, string_bytes, arith}
use Rattle.job_report.proofs.Turns.{next_is}
use Rattle.job_report.proofs.played.write_next.Goals as goal

pub returns-clause-lines : goal.returns-clause-lines
returns-clause-lines c =
    let events = c.args.ended.events.now in
    let ends = c.args.ended.ends.now in
    let next = c.args.told + c.min.result in
    let goes : c.args.told + c.min.result ≡ c.args.told + min c.args.count (min (length c.args.ended.events.now)
    (length c.args.ended.ends.now) - c.args.told) = omega (arith, c.min.ensures, c.min-most.ensures) in
    c.in_ok-write_events.ensures ∙ ap (λ (l : List ℕ). string_bytes c.args.text.now ++ l)
    (next_is events ends c.letter.result.now c.args.side c.args.number c.args.told c.args.count next c.letter.ensures goes)
