use Rattle.job_run.proofs.Frames.{closing, grown_after}
use Rattle.job_run.proofs.Moving.{mix_stays, mix_none, mix_busy, mix_apart, mix_going, mix_room}
use Rattle.job_run.proofs.EventTurns.{mix_turns}
use Rattle.job_run.proofs.body.Body.mix_event.Goals as goal

pub enter-requires-clause-none : goal.enter-requires-clause-none
enter-requires-clause-none g c = mix_none c.args.event c.args.seed c.requires.is

pub mix-requires-clause-apart : goal.mix-requires-clause-apart
mix-requires-clause-apart g c = mix_apart _ _ _ _ _ _ _ c.enter.ensures (mix_stays c.args.event c.args.seed c.requires.is) c.args.busy.items
    c.requires.busy

pub mix-requires-clause-going : goal.mix-requires-clause-going
mix-requires-clause-going g c = mix_going _ _ _ _ _ _ _ c.enter.ensures (mix_stays c.args.event c.args.seed c.requires.is) c.args.busy.items
    c.requires.busy

pub mix-requires-clause-room : goal.mix-requires-clause-room
mix-requires-clause-room g c = mix_room _ _ _ _ _ _ _ c.enter.ensures (mix_stays c.args.event c.args.seed c.requires.is) c.args.busy.items
    c.requires.busy

pub close-requires : goal.close-requires
close-requires g c =
    let e = c.enter.ensures in
    closing c.args.event _ _ _ e.entered c.mix.ensures.keeps _ c.requires.is c.requires.ready.room
    (mix_turns g.W.Acts.left g.W.Works.rise c.args.seed c.args.busy.items _ _ c.mix.ensures.keeps e.entered.fresh e.none
    (mix_busy _ _ _ _ _ _ _ e (mix_stays c.args.event c.args.seed c.requires.is) c.args.busy.items c.requires.busy) c.mix.ensures.mixed)
    c.mix.ensures.holds

pub returns : goal.returns
returns g c = record {
  quiet = c.close.ensures.quiet;
  grown = grown_after c.args.event _ _ _ c.enter.ensures.entered c.mix.ensures.keeps _
      c.close.ensures.grown;
}
