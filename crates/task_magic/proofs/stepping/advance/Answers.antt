use Rattle.std.proofs.Common.{None, ap, false, sym}
use Rattle.task_requests.proofs.Steps.{marked_as, part_none, part_plain, recorded_as, told_as, upload_new, upload_some}
use Rattle.task_requests.specs.Writing.{seen_write}
use Rattle.task_magic.proofs.stepping.advance.Goals as goal

pub begin-requires-clause-new : goal.begin-requires-clause-new
begin-requires-clause-new c = upload_new c.args.plan.now c.args.place c.args.stage c.args.reply.now false c.in-Some.upload c.in-Creating.is
    c.requires.within c.requires.fits c.in-Some.ensures

pub unreachable-requires : goal.unreachable-requires
unreachable-requires c = upload_some c.args.plan.now c.args.place c.args.stage c.args.reply.now false c.in-Creating.is c.requires.within
    c.requires.fits c.in-None.ensures

pub add_part-requires-clause-plain : goal.add_part-requires-clause-plain
add_part-requires-clause-plain c = part_plain c.args.plan.now c.args.place c.in-Sending.sent c.args.stage c.args.reply.now false
    c.in-Some-tag_in.tag c.in-Sending.is c.requires.within c.requires.holds c.requires.fits c.in-Some-tag_in.ensures

pub returns-in-None-tag_in-clause-told : goal.returns-in-None-tag_in-clause-told
returns-in-None-tag_in-clause-told c = told_as c.stop_gone.result (λ x. seen_write c.args.plan.now x.place x.stage x.end) _ _ _ _
    c.stop_gone.ensures.told (ap (λ s. seen_write c.args.plan.now c.args.place s None) (sym c.in-Sending.is))
    (sym (part_none c.args.plan.now c.args.place c.in-Sending.sent c.args.stage c.args.reply.now false c.in-Sending.is c.requires.within
    c.requires.holds c.requires.fits c.in-None-tag_in.ensures))

pub returns-in-Marking-clause-told : goal.returns-in-Marking-clause-told
returns-in-Marking-clause-told c = marked_as c.turn.result (λ x. seen_write c.args.plan.now x.place x.stage x.end) c.args.plan.now
    c.args.place c.args.stage c.args.reply.now c.in-Marking.is c.requires.within c.turn.ensures.at

pub returns-in-Recording-clause-told : goal.returns-in-Recording-clause-told
returns-in-Recording-clause-told c = recorded_as c.turn-in-Recording.result (λ x. seen_write c.args.plan.now x.place x.stage x.end)
    c.args.plan.now c.args.place c.next_place-next.result c.args.stage c.args.reply.now c.in-Recording.is c.requires.within
    c.next_place-next.ensures c.turn-in-Recording.ensures.at
