use Rattle.durable_store.proofs.Replacing.{cut, if_error, partly, refused, some_grown, survived, whole}
use Rattle.journal_log.proofs.Replaces.{counts}
use Rattle.journal_log.specs.Appends.{Stopped}
use Rattle.journal_log.specs.Changes.{changes}
use Rattle.std.proofs.lemmas.Result.{on_err_weaker, on_ok_weaker}
use Rattle.durable_store.proofs.saving.save.Goals as goal

pub returns-in_err-put_image-clause-any_moment : goal.returns-in_err-put_image-clause-any_moment
returns-in_err-put_image-clause-any_moment g c =
    refused g.F.Shelf.sight c.args.opening.now c.args.journal.now.entries c.args.shelf.now c.put_image.new.shelf
    c.in_err-put_image.ensures.err.leaves

pub returns-clause-ok : goal.returns-clause-ok
returns-clause-ok g c =
    on_ok_weaker c.append_all.result (whole g.F.Shelf.sight c.args.opening.now c.args.journal.now.entries c.args.shelf.now
    c.put_image.new.shelf c.append_all.new.shelf c.in_ok-put_image.ensures.ok) c.append_all.ensures.grown

pub returns-clause-called : goal.returns-clause-called
returns-clause-called g c = on_ok_weaker c.append_all.result (λ h. (c.put_image.new.shelf, c.in_ok-put_image.ensures.ok.answered, h))
    c.append_all.ensures.answered

pub returns-clause-err : goal.returns-clause-err
returns-clause-err g c =
    on_err_weaker c.append_all.result (partly g.F.Shelf.sight c.args.opening.now c.args.journal.now.entries c.args.shelf.now
    c.put_image.new.shelf c.append_all.new.shelf c.in_ok-put_image.ensures.ok c.requires.one_event) c.append_all.ensures.partly

pub returns-clause-cut : goal.returns-clause-cut
returns-clause-cut g c =
    let s = g.F.Shelf in
    let es = c.args.journal.now.entries in
    if_error c.append_all.result (λ e. Stopped s.sight e (changes es) c.put_image.new.shelf c.append_all.new.shelf)
    (cut s.sight c.args.opening.now es c.args.shelf.now c.put_image.new.shelf c.append_all.new.shelf c.in_ok-put_image.ensures.ok)
    c.append_all.ensures.stopped

pub returns-clause-any_moment : goal.returns-clause-any_moment
returns-clause-any_moment g c =
    let s = g.F.Shelf in
    let es = c.args.journal.now.entries in
    let grown = some_grown c.append_all.result (s.sight.held c.put_image.new.shelf) (s.sight.held c.append_all.new.shelf) (changes es)
    c.append_all.ensures.grown c.append_all.ensures.partly in
    survived s.sight c.args.opening.now es c.args.shelf.now c.put_image.new.shelf c.append_all.new.shelf c.in_ok-put_image.ensures.ok
    g.met.F.Shelf.timed grown c.append_all.ensures.any_moment

pub returns-clause-counted : goal.returns-clause-counted
returns-clause-counted g c =
    let faults = g.F.Shelf.faults in
    counts c.append_all.result (faults c.args.shelf.now) (faults c.put_image.new.shelf) (faults c.append_all.new.shelf)
    c.in_ok-put_image.ensures.counted c.requires.count c.append_all.ensures.failed c.append_all.ensures.calm
