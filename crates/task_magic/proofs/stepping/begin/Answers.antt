use Rattle.job_protocol.specs.AtWork.{task_script}
use Rattle.job_protocol.specs.Records.{file_key}
use Rattle.std.proofs.Common.{get_or, refl, []}
use Rattle.task_requests.proofs.Steps.{at_place, begun_kept_by, begun_told_by}
use Rattle.task_magic.proofs.stepping.begin.Goals as goal

pub returns-in-Ok-clause-told : goal.returns-in-Ok-clause-told
returns-in-Ok-clause-told c =
    let t = c.args.plan.now in
    let f = get_or t.files c.args.place ([], []) in
    λ b. begun_told_by t _ c.args.place f (file_key (task_script t) f) c.args.upload b c.in-Ok.ensures.drawn refl
    (at_place t.files c.args.place c.requires.within)

pub returns-in-Ok-clause-kept : goal.returns-in-Ok-clause-kept
returns-in-Ok-clause-kept c =
    let t = c.args.plan.now in
    let f = get_or t.files c.args.place ([], []) in
    begun_kept_by t _ c.args.dir.now c.args.place f (file_key (task_script t) f) c.args.upload c.in-Ok.asked c.in-Ok.ensures.drawn refl
    (at_place t.files c.args.place c.requires.within) c.requires.dir c.requires.new c.in-Ok.ensures.asked
