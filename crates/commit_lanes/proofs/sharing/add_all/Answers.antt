use Rattle.text_and_lists.specs.Order.{text_eq}
use Rattle.commit_lanes.proofs.Searching.{adds_one}
use Rattle.std.proofs.Common.{arith, ◌+◌}
use Rattle.std.specs.HashMap.{get}
use Rattle.commit_lanes.proofs.sharing.add_all.Goals as goal

pub loop-upload-preserved : goal.loop-upload-preserved
loop-upload-preserved c = λ items most f. adds_one items c.args.uploads.now c.loop-upload.upload-index (c.loop-upload.upload-index + 1)
    c.args.task c.upload-item.result c.destination.result.now (get text_eq c.loop-upload.search.owners)
    (get text_eq c.add.new.search.owners) c.loop-upload.search.best c.add.new.search.best (omega arith) (omega arith) c.upload-item.is
    c.destination.ensures c.in_ok-add.ensures most (c.loop-upload.invariant items most f)
