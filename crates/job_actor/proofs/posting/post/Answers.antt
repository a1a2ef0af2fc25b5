use Rattle.machine.proofs.Counts.{counted_one}
use Rattle.job_actor.proofs.Appended.{put_on}
use Rattle.job_actor.proofs.posting.post.Goals as goal

pub returns-in-Ok-told-clause-posted : goal.returns-in-Ok-told-clause-posted
returns-in-Ok-told-clause-posted g c =
    let k = c.in-Ok-request.ensures in
    record {
      grew = record {
        request = c.in-Some.request;
        outcome = c.in-Ok-request.outcome;
        wanted = c.in-Some.ensures;
        honest = k.answered;
        foretold = k.fate;
        appended = put_on _ _ _ _ c.write_down.ensures c.reserve.ensures.entries;
        scene = k.scene;
        count = k.count;
      };
      told = c.in-Ok-told.ensures.ok;
    }

pub returns-in-Ok-told-clause-counts : goal.returns-in-Ok-told-clause-counts
returns-in-Ok-told-clause-counts g c =
    let k = c.in-Ok-request.ensures in
    counted_one _ _ _ _ _ _ _ _ _ _ c.write_down.ensures c.reserve.ensures.entries k.count k.losses k.kept k.foretold

pub returns-in-Err-told-clause-counts : goal.returns-in-Err-told-clause-counts
returns-in-Err-told-clause-counts g c =
    let k = c.in-Ok-request.ensures in
    counted_one _ _ _ _ _ _ _ _ _ _ c.write_down.ensures c.reserve.ensures.entries k.count k.losses k.kept k.foretold
