use Rattle.durable_job.proofs.Held.{held_partly, held_whole, lacks_since, not_replaced_as, opening_is, replaced_as, survives_since}
use Rattle.durable_job.proofs.Paces.{counts_none, counts_some}
use Rattle.devices.specs.declared.kept.ShelfStop.{ShelfStop}
use Rattle.devices.specs.declared.kept.ShelfStop.TheVariants.{NoMemory}
use Rattle.std.proofs.Common.{Err, Option, Some, ap, ◌≡◌}
use Rattle.durable_job.proofs.keeping.keep.Goals as goal

pub play_over-requires-clause-holds : goal.play_over-requires-clause-holds
play_over-requires-clause-holds g c =
    let m = g.M.Moves in
    let is = opening_is c.service.result.now (m.origin c.args.moved.now) (m.sent c.args.moved.now) c.service.ensures c.requires.sent in
    (replaced_as g.F.Shelf.sight (m.origin c.args.moved.now) c.service.result.now c.args.shelf.now c.put_image.new.shelf is
    c.in-Ok.ensures.ok).holds

pub returns-in-Err-clause-err : goal.returns-in-Err-clause-err
returns-in-Err-clause-err g c =
    let m = g.M.Moves in
    let is = opening_is c.service.result.now (m.origin c.args.moved.now) (m.sent c.args.moved.now) c.service.ensures c.requires.sent in
    not_replaced_as g.F.Shelf.sight (m.origin c.args.moved.now) c.service.result.now c.args.shelf.now c.put_image.new.shelf is
    c.in-Err.ensures.err

pub returns-in-Ok-play_over-clause-held : goal.returns-in-Ok-play_over-clause-held
returns-in-Ok-play_over-clause-held g c =
    let m = g.M.Moves in
    let s = g.F.Shelf.sight in
    let is = opening_is c.service.result.now (m.origin c.args.moved.now) (m.sent c.args.moved.now) c.service.ensures c.requires.sent in
    held_whole s (m.origin c.args.moved.now) (m.sent c.play_over.new.world) c.args.shelf.now c.put_image.new.shelf c.play_over.new.shelf
    (replaced_as s (m.origin c.args.moved.now) c.service.result.now c.args.shelf.now c.put_image.new.shelf is c.in-Ok.ensures.ok)
    c.in-Ok-play_over.ensures.ok

pub returns-in-Ok-play_over-clause-survives : goal.returns-in-Ok-play_over-clause-survives
returns-in-Ok-play_over-clause-survives g c =
    let m = g.M.Moves in
    let s = g.F.Shelf.sight in
    let is = opening_is c.service.result.now (m.origin c.args.moved.now) (m.sent c.args.moved.now) c.service.ensures c.requires.sent in
    survives_since s (m.origin c.args.moved.now) (m.sent c.play_over.new.world) c.args.shelf.now c.put_image.new.shelf c.play_over.new.shelf
    (replaced_as s (m.origin c.args.moved.now) c.service.result.now c.args.shelf.now c.put_image.new.shelf is c.in-Ok.ensures.ok)
    c.in-Ok-play_over.ensures.ok.leaves

pub returns-in-Ok-play_over-clause-counted : goal.returns-in-Ok-play_over-clause-counted
returns-in-Ok-play_over-clause-counted g c =
    let n = g.F.Shelf.faults in
    counts_none (n c.args.shelf.now) (n c.put_image.new.shelf) (n c.play_over.new.shelf) c.in-Ok.ensures.counted
    (c.in-Ok-play_over.ensures.calm (λ e. cc))

pub returns-in-Err-play_over-clause-held : goal.returns-in-Err-play_over-clause-held
returns-in-Err-play_over-clause-held g c =
    let m = g.M.Moves in
    let s = g.F.Shelf.sight in
    let is = opening_is c.service.result.now (m.origin c.args.moved.now) (m.sent c.args.moved.now) c.service.ensures c.requires.sent in
    held_partly s (m.origin c.args.moved.now) (m.sent c.play_over.new.world) c.args.shelf.now c.put_image.new.shelf c.play_over.new.shelf
    (replaced_as s (m.origin c.args.moved.now) c.service.result.now c.args.shelf.now c.put_image.new.shelf is c.in-Ok.ensures.ok)
    c.in-Err-play_over.fault c.in-Err-play_over.ensures.err

pub returns-in-Err-play_over-clause-survives : goal.returns-in-Err-play_over-clause-survives
returns-in-Err-play_over-clause-survives g c =
    let m = g.M.Moves in
    let s = g.F.Shelf.sight in
    let is = opening_is c.service.result.now (m.origin c.args.moved.now) (m.sent c.args.moved.now) c.service.ensures c.requires.sent in
    survives_since s (m.origin c.args.moved.now) (m.sent c.play_over.new.world) c.args.shelf.now c.put_image.new.shelf c.play_over.new.shelf
    (replaced_as s (m.origin c.args.moved.now) c.service.result.now c.args.shelf.now c.put_image.new.shelf is c.in-Ok.ensures.ok)
    c.in-Err-play_over.ensures.err.leaves

pub returns-in-Err-play_over-clause-counted : goal.returns-in-Err-play_over-clause-counted
returns-in-Err-play_over-clause-counted g c =
    let n = g.F.Shelf.faults in
    counts_some c.in-Err-play_over.fault (n c.args.shelf.now) (n c.put_image.new.shelf) (n c.play_over.new.shelf) c.in-Ok.ensures.counted
    c.requires.count c.in-Err-play_over.ensures.failed c.in-Err-play_over.ensures.calm

pub returns-in-Ok-play_over-clause-over : goal.returns-in-Ok-play_over-clause-over
returns-in-Ok-play_over-clause-over g c = λ e. c.in-Ok-play_over.ensures.over

pub returns-in-Err-play_over-clause-over : goal.returns-in-Err-play_over-clause-over
returns-in-Err-play_over-clause-over g c = λ e. absurd (cc)

pub returns-in-Ok-play_over-clause-short : goal.returns-in-Ok-play_over-clause-short
returns-in-Ok-play_over-clause-short g c = λ e. absurd (cc)

fault_is : (fault : ShelfStop) → Some fault ≡ Some NoMemory → fault ≡ NoMemory
fault_is fault e = cc

pub returns-in-Err-play_over-clause-short : goal.returns-in-Err-play_over-clause-short
returns-in-Err-play_over-clause-short g c = λ e.
    let m = g.M.Moves in
    let s = g.F.Shelf.sight in
    let is = opening_is c.service.result.now (m.origin c.args.moved.now) (m.sent c.args.moved.now) c.service.ensures c.requires.sent in
    lacks_since s (m.origin c.args.moved.now) (m.sent c.play_over.new.world) c.args.shelf.now c.put_image.new.shelf c.play_over.new.shelf
    (replaced_as s (m.origin c.args.moved.now) c.service.result.now c.args.shelf.now c.put_image.new.shelf is c.in-Ok.ensures.ok)
    (c.in-Err-play_over.ensures.short (ap Err (fault_is c.in-Err-play_over.fault e)))
