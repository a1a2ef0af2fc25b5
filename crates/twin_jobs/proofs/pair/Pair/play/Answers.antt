use Rattle.twin_jobs.proofs.Playing.{pair_event, pair_turn, pair_quiet, pair_plays}
use Rattle.twin_jobs.proofs.pair.Pair.play.Goals as goal

pub next_event-event-requires : goal.next_event-event-requires
next_event-event-requires g c = pair_event g.W.Acts.wants g.W.Works.is_of g.W.Works.running g.W.Works.picks_of c.args.side c.args.self.now
    c.turn_to.new.self c.turn_to.ensures c.requires.rests c.requires.turn

pub event-requires-clause-turn : goal.event-requires-clause-turn
event-requires-clause-turn g c = pair_turn g.W.Acts.wants g.W.Works.is_of g.W.Works.running g.W.Works.picks_of c.args.side c.args.self.now
    c.turn_to.new.self c.turn_to.ensures c.requires.rests c.requires.turn

pub event-requires-clause-quiet : goal.event-requires-clause-quiet
event-requires-clause-quiet g c = pair_quiet g.W.Acts.wants g.W.Works.is_of g.W.Works.running g.W.Works.picks_of c.args.side c.args.self.now
    c.turn_to.new.self c.turn_to.ensures c.requires.rests c.requires.turn

pub returns : goal.returns
returns g c =
    pair_plays g.W.Acts.wants g.W.Works.is_of g.W.Works.running g.W.Works.picks_of c.args.side c.args.self.now c.turn_to.new.self
    c.turn_to.ensures c.requires.rests c.requires.turn
    c.event.result c.event.new.self c.event.ensures.quiet c.event.ensures.grown c.event.ensures.err
