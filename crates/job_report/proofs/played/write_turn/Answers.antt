use Rattle.job_report.proofs.Turns.{first_turn, second_turn}
use Rattle.job_report.proofs.played.write_turn.Goals as goal

pub returns-in_ok-next-in-First-clause-lines : goal.returns-in_ok-next-in-First-clause-lines
returns-in_ok-next-in-First-clause-lines c =
    let told = c.requires.first in
    let wrote = c.in_ok-next-in-First.ensures in λ rest.
    first_turn c.args.first.events.now c.args.second.events.now c.args.first.ends.now c.args.second.ends.now c.args.turn rest
    c.args.told.first c.args.told.second c.in_ok-next-in-First.next _ _ c.in-First.is told.of_events told.of_ends wrote.next wrote.lines

pub returns-in_ok-next-in-Second-clause-lines : goal.returns-in_ok-next-in-Second-clause-lines
returns-in_ok-next-in-Second-clause-lines c =
    let told = c.requires.second in
    let wrote = c.in_ok-next-in-Second.ensures in λ rest.
    second_turn c.args.first.events.now c.args.second.events.now c.args.first.ends.now c.args.second.ends.now c.args.turn rest
    c.args.told.first c.args.told.second c.in_ok-next-in-Second.next _ _ c.in-Second.is told.of_events told.of_ends wrote.next
    wrote.lines
