use Rattle.commit_lanes.proofs.Undoing.{all_reverted, all_within, in_back}
use Rattle.job_protocol.specs.LaneTable.{In}
use Rattle.job_protocol.specs.Lanes.{is_in}
use Rattle.std.proofs.Common.{List, ap, subst, ℕ, ◌∙◌}
use Rattle.commit_lanes.proofs.reverting.revert.Goals as goal

pub add_unsent-requires : goal.add_unsent-requires
add_unsent-requires c = λ n. c.in_ok-done.ensures n ∙ ap (λ v. is_in v n) c.finished-finished.ensures

pub add_completed-requires : goal.add_completed-requires
add_completed-requires c = λ n h. let P : List ℕ → Type 0 = λ v. In n v in c.requires.finished n
    (subst P c.finished-finished.ensures (in_back n c.finished-finished.result.now h))

pub returns-clause-within : goal.returns-clause-within
returns-clause-within c = all_within c.args.total c.args.worn c.new-list.result c.add_unsent.new.list c.add_completed.new.list
    c.add_tried.new.list c.add.new.self c.add-2.new.self c.requires.worn c.new-list.ensures c.in_ok-add_unsent.ensures.within
    c.in_ok-add_completed.ensures.within c.in_ok-add_tried.ensures.within c.in_ok-add.ensures c.in_ok-add-2.ensures

pub returns-clause-is : goal.returns-clause-is
returns-clause-is c = all_reverted c.args.total c.args.worn c.args.lanes.now.turns c.args.lanes.now.finished c.finished-finished.result.now
    c.new-list.result c.add_unsent.new.list c.add_completed.new.list c.add_tried.new.list c.add.new.self c.add-2.new.self
    c.finished-finished.ensures c.new-list.ensures c.in_ok-add_unsent.ensures.adds c.in_ok-add_completed.ensures.adds
    c.in_ok-add_tried.ensures.adds c.in_ok-add.ensures c.in_ok-add-2.ensures
