use Rattle.durable_job.proofs.Ends.{one_played}
use Rattle.durable_job.proofs.Held.{not_replaced_as}
use Rattle.durable_job.specs.inner.Moves.{Stays, left_of}
use Rattle.durable_job.specs.Pace.{LacksSince}
use Rattle.durable_job.specs.Played.{IsHeld, Survives}
use Rattle.job_world.specs.Worlds.{Run}
use Rattle.journal_log.proofs.Replaces.{not_called}
use Rattle.s3_types.specs.Store.{Content}
use Rattle.std.proofs.Common.{ap, subst, ◌<◌, ◌∙◌, ◌≡◌, ◌⊎◌}
use Rattle.durable_job.proofs.playing.play_one.Goals as goal

pub returns-in_default-clause-err : goal.returns-in_default-clause-err
returns-in_default-clause-err g c = not_called g.F.Shelf.sight c.args.shelf.now c.args.service g.met.F.Shelf.timed

pub returns-in-Err-clause-err : goal.returns-in-Err-clause-err
returns-in-Err-clause-err g c =
    let opening : c.in-Ok.world.opening ≡ c.args.service = ap (λ (r : Run). r.opening) c.in-Ok.ensures in
    not_replaced_as g.F.Shelf.sight c.args.service c.in-Ok.world.opening c.args.shelf.now c.keep.new.shelf opening c.in-Err.ensures.err

pub returns-clause-played : goal.returns-clause-played
returns-clause-played g c =
    let s = g.F.Shelf.sight in
    let w = c.args.script in
    let d = c.args.service in
    let r = c.in-Ok.world in
    let t = c.keep.new.moved in
    let e = c.in-Ok-keep.ensures in
    let left = c.finish-left.result in
    let f = c.finish-left.ensures in
    let opening : r.opening ≡ d = ap (λ (x : Run). x.opening) c.in-Ok.ensures in
    one_played s w d t c.in-Ok-keep.stop c.verdict-verdict.result left.script left.service left.journal _ c.args.shelf.now c.keep.new.shelf
    (record {
      stays = subst (λ (x : Run). Stays x t) c.in-Ok.ensures e.keeps;
      origin = e.origin ∙ opening;
      keeps = f.keeps;
      finished = f.finished;
      over = e.over;
      due_is = c.verdict-verdict.ensures;
    })
    (record {
      script_is = f.script;
      service_is = f.service;
      journal_is = f.journal;
      picks_is = f.picks;
      ends_is = f.ends;
      alone = record { picks = c.new-second_picks.ensures; ends = c.new-second_ends.ensures };
    })
    (λ none. subst (λ (x : Content). (0 < left_of t) ⊎ LacksSince s x t.journal c.args.shelf.now c.keep.new.shelf) opening (e.short none))
    (subst (λ (x : Content). IsHeld s x t.journal c.in-Ok-keep.stop c.args.shelf.now c.keep.new.shelf) opening e.held)
    (subst (λ (x : Content). Survives s x t.journal c.args.shelf.now c.keep.new.shelf) opening e.survives)
    (c.keeps_images.ensures d)
