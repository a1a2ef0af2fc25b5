use Rattle.durable_job.proofs.Ends.{twins_are, two_played}
use Rattle.durable_job.proofs.Held.{not_replaced_as}
use Rattle.durable_job.specs.inner.Moves.{TwinsStay, turns_left}
use Rattle.durable_job.specs.Pace.{LacksSince}
use Rattle.durable_job.specs.Played.{IsHeld, IsPlayed, Survives}
use Rattle.durable_job.specs.declared.jobs.Jobs.TheVariants.{Two}
use Rattle.durable_job.specs.declared.playing.Kept.{Kept}
use Rattle.journal_log.proofs.Replaces.{not_called}
use Rattle.s3_types.specs.Store.{Content}
use Rattle.std.proofs.Common.{ap, subst, sym, ◌<◌, ◌∙◌, ◌≡◌, ◌⊎◌}
use Rattle.twin_jobs.specs.Worlds.{Run}
use Rattle.twin_script.specs.TwinScripts.{AreTwins, Twins}
use Rattle.durable_job.proofs.playing.play_two.Goals as goal

pub returns-in_default-clause-err : goal.returns-in_default-clause-err
returns-in_default-clause-err g c = not_called g.F.Shelf.sight c.args.shelf.now c.args.service g.met.F.Shelf.timed

pub returns-in_default-new-clause-err : goal.returns-in_default-new-clause-err
returns-in_default-new-clause-err g c = not_called g.F.Shelf.sight c.args.shelf.now c.args.service g.met.F.Shelf.timed

pub returns-in-Err-clause-err : goal.returns-in-Err-clause-err
returns-in-Err-clause-err g c =
    let opening : c.in-Ok-new.world.opening ≡ c.args.service = ap (λ (r : Run). r.opening) c.in-Ok-new.ensures in
    not_replaced_as g.F.Shelf.sight c.args.service c.in-Ok-new.world.opening c.args.shelf.now c.keep.new.shelf opening c.in-Err.ensures.err

pub kept_of-requires : goal.kept_of-requires
kept_of-requires g c =
    let t = c.args.twins in
    let left = c.finish-left.result in
    let e = c.in-Ok-keep.ensures in
    let f = c.finish-left.ensures in
    subst (λ (u : Twins). AreTwins u) (sym (twins_are t c.args.service left.first left.second c.in-Ok.order c.keep.new.moved f.first
    f.second (subst (λ (x : Run). TwinsStay x c.keep.new.moved) c.in-Ok-new.ensures e.keeps) c.in-Ok.ensures)) c.keeps.ensures.twins

pub returns-clause-played : goal.returns-clause-played
returns-clause-played g c =
    let s = g.F.Shelf.sight in
    let t = c.args.twins in
    let d = c.args.service in
    let r = c.in-Ok-new.world in
    let n = c.keep.new.moved in
    let e = c.in-Ok-keep.ensures in
    let left = c.finish-left.result in
    let f = c.finish-left.ensures in
    let opening : r.opening ≡ d = ap (λ (x : Run). x.opening) c.in-Ok-new.ensures in
    subst (λ (k : Kept). IsPlayed s (Two t) d k c.args.shelf.now c.keep.new.shelf) (sym c.kept_of.ensures)
    (two_played s t d n c.in-Ok-keep.stop c.verdict_of-verdict.result left.first left.second c.in-Ok.order left.service left.journal
    c.args.shelf.now c.keep.new.shelf c.in-Ok.ensures
    (record {
      stays = subst (λ (x : Run). TwinsStay x n) c.in-Ok-new.ensures e.keeps;
      origin = e.origin ∙ opening;
      keeps = f.keeps;
      over = e.over;
      due_is = c.verdict_of-verdict.ensures;
    })
    (record { first_is = f.first; second_is = f.second; service_is = f.service; journal_is = f.journal })
    (λ none. subst (λ (x : Content). (0 < turns_left n) ⊎ LacksSince s x n.journal c.args.shelf.now c.keep.new.shelf) opening
    (e.short none))
    (subst (λ (x : Content). IsHeld s x n.journal c.in-Ok-keep.stop c.args.shelf.now c.keep.new.shelf) opening e.held)
    (subst (λ (x : Content). Survives s x n.journal c.args.shelf.now c.keep.new.shelf) opening e.survives)
    (c.keeps_images.ensures d))
