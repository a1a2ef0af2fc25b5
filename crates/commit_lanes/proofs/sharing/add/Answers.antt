use Rattle.commit_lanes.proofs.Searching.{finds_one}
use Rattle.std.proofs.lemmas.Result.{on_ok_weaker}
use Rattle.commit_lanes.proofs.sharing.add.Goals as goal

pub returns : goal.returns
returns c = on_ok_weaker c.add_clash.result (λ e items most f. finds_one items c.args.key.now c.args.task c.in_ok-first.first
    c.args.search.now.owners c.owner_of.new.owners c.args.search.now.best c.add_clash.new.best c.in_ok-first.ensures.first
    c.in_ok-first.ensures.owners e most f) c.add_clash.ensures
