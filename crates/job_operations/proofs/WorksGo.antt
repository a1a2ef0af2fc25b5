-- The operations of a job's actors send and go on as the script's do.
use Rattle.job_operations.proofs.ActorsGo.{actors_go}
use Rattle.job_operations.proofs.WorksStand.{CommitNow, commit_now, driver_is, scene_is, stand}
use Rattle.job_operations.specs.Acts.{end_of, tells_of, wants_of}
use Rattle.job_operations.specs.Plans.{AsksSo, CheckedAsksSo, CheckedGoesSo, CommitAsksSo, CommitGoesSo, GoesSo, IsOf, running_of}
use Rattle.job_operations.specs.declared.act.Act.{Act}
use Rattle.job_operations.specs.declared.act.Act.TheVariants.{Checked, Commit}
use Rattle.conflict.specs.Rechecks.{PlannedCheck}
use Rattle.job_actor.specs.Works.{IsAt}
use Rattle.job_model.specs.Known.{Known}
use Rattle.job_protocol.specs.AtWork.{Committing}
use Rattle.job_protocol.specs.JobCommits.{commit_asks}
use Rattle.job_protocol.specs.Operations.{Setting, advance, over}
use Rattle.job_refinement.proofs.Telling.{asks_same, tells_same}
use Rattle.script_steps.specs.Transitions.{MaySend, Play, knows_now, scene_of}
use Rattle.machine.specs.declared.retrying.Retrying.{Retrying}
use Rattle.s3_types.specs.Answer.{answer}
use Rattle.s3_types.specs.Moment.{IsHonestOutcome}
use Rattle.s3_types.specs.Store.{Content, Scene}
use Rattle.s3_types.specs.declared.journal.Entry.{Entry}
use Rattle.s3_types.specs.declared.journal.Outcome.{Outcome}
use Rattle.s3_types.specs.declared.request.Actor.{Actor}
use Rattle.s3_types.specs.declared.request.Request.{Request}
use Rattle.std.proofs.Common.{None, Option, Some, arith, subst, sym, ◌^◌, ◌∙◌, ◌≡◌, ◌≤◌}
use Rattle.job_protocol.specs.Operations as operations

-- The store has given out fewer upload ids than there are.
pub few_now : (g : Setting) (opening : Content) (x : Play) (a : Actor) (work : Act) → (at : IsAt IsOf running_of g opening x a work)
    → (stand g opening x at.legal at.opens at.happened).seen.scene.content.next ≤ 2 ^ 64
few_now g opening x a work at = subst (λ (s : Scene). s.content.next ≤ 2 ^ 64) (sym (scene_is g opening x at.legal at.opens at.happened))
    at.few

-- The job's commit, with all the facts that it requires.
pub commit_at : (g : Setting) (opening : Content) (x : Play) (a : Actor) (c : Committing)
    → (at : IsAt IsOf running_of g opening x a (Commit c))
    → let s = stand g opening x at.legal at.opens at.happened in CommitNow g s.seen s.told c.operation
commit_at g opening x a c at = commit_now g opening x at.legal at.opens at.happened c.operation
    (driver_is g opening x at.legal at.opens at.happened a (running_of (knows_now g x a) (Commit c)) at.goes_by.0 at.at)

-- After its check, the commit is in the same state as without one.
pub behind : (g : Setting) (opening : Content) (x : Play) (a : Actor) (c : Committing)
    → IsAt IsOf running_of g opening x a (Checked (record { check = None; commit = c })) → IsAt IsOf running_of g opening x a (Commit c)
behind g opening x a c at = record {
  legal = at.legal;
  opens = at.opens;
  happened = at.happened;
  few = at.few;
  goes_by = at.goes_by;
  at =
      at.at;
}

commit_asks_so : (g : Setting) (opening : Content) (x : Play) (a : Actor) (c : Committing) → IsAt IsOf running_of g opening x a (Commit c)
    → CommitAsksSo g.script c
commit_asks_so g opening x a c at = let s = stand g opening x at.legal at.opens at.happened in asks_same g.script g.minimum s.told at.legal
    c.operation (commit_at g opening x a c at).commits.fits

checked_asks_so : (g : Setting) (opening : Content) (x : Play) (a : Actor) (o : Option (Retrying PlannedCheck)) (c : Committing)
    → IsAt IsOf running_of g opening x a (Checked (record { check = o; commit = c })) → CheckedAsksSo g.script o c
checked_asks_so g opening x a (Some t) c at = tt
checked_asks_so g opening x a None c at = commit_asks_so g opening x a c (behind g opening x a c at)

asks_so : (g : Setting) (opening : Content) (x : Play) (a : Actor) (work : Act) → IsAt IsOf running_of g opening x a work
    → AsksSo g.script work
asks_so g opening x a work h = grind (arith, commit_asks_so, checked_asks_so)

pub asks : (g : Setting) (opening : Content) (x : Play) (a : Actor) (work : Act) → IsAt IsOf running_of g opening x a work
    → wants_of work ≡ operations.wants g a (running_of (knows_now g x a) work)
asks g opening x a work at = actors_go.wants g a (knows_now g x a) work at.goes_by (asks_so g opening x a work at)

-- A request that an actor may send is the one that its operation sends.
pub asked_of : (g : Setting) (opening : Content) (x : Play) (a : Actor) (work : Act) → IsAt IsOf running_of g opening x a work → (e : Entry)
    → e.actor ≡ a → MaySend g opening x e → wants_of work ≡ Some e.request
asked_of g opening x a work h e f p = grind (arith, asks)

commit_goes_so : (g : Setting) (opening : Content) (x : Play) (a : Actor) (c : Committing) → IsAt IsOf running_of g opening x a (Commit c)
    → (r : Request) → wants_of (Commit c) ≡ Some r → (o : Outcome) → IsHonestOutcome o (answer (scene_of opening x) r)
    → CommitGoesSo g.script c o
commit_goes_so g opening x a c at r e o honest =
    let s = stand g opening x at.legal at.opens at.happened in
    let v = (commit_at g opening x a c at).commits in
    let asked : commit_asks g.script c.operation ≡ Some r = sym (asks g opening x a (Commit c) at) ∙ e in
    let due : IsHonestOutcome o (answer s.seen.scene r) = subst (λ z. IsHonestOutcome o (answer z r))
    (sym (scene_is g opening x at.legal at.opens at.happened)) honest in
    tells_same g.script g.minimum s.seen.scene s.seen.last s.told at.legal v.hold (few_now g opening x a (Commit c) at) c.operation v.fits r
    asked o due

checked_goes_so : (g : Setting) (opening : Content) (x : Play) (a : Actor) (q : Option (Retrying PlannedCheck)) (c : Committing)
    → IsAt IsOf running_of g opening x a (Checked (record { check = q; commit = c })) → (r : Request)
    → wants_of (Checked (record { check = q; commit = c })) ≡ Some r → (o : Outcome) → IsHonestOutcome o (answer (scene_of opening x) r)
    → CheckedGoesSo g.script q c o
checked_goes_so g opening x a (Some t) c at r e o honest = tt
checked_goes_so g opening x a None c at r e o honest = commit_goes_so g opening x a c (behind g opening x a c at) r e o honest

goes_so : (g : Setting) (opening : Content) (x : Play) (a : Actor) (work : Act) → IsAt IsOf running_of g opening x a work → (r : Request)
    → wants_of work ≡ Some r → (o : Outcome) → IsHonestOutcome o (answer (scene_of opening x) r) → GoesSo g.script work o
goes_so g opening x a work h r e o f = grind (arith, commit_goes_so, checked_goes_so)

pub goes : (g : Setting) (opening : Content) (x : Play) (a : Actor) (work : Act) → IsAt IsOf running_of g opening x a work → (r : Request)
    → wants_of work ≡ Some r → (o : Outcome) → IsHonestOutcome o (answer (scene_of opening x) r)
    → IsOf g a (tells_of work o) × (running_of (advance g a (running_of (knows_now g x a) work) o).known (tells_of work o) ≡ advance g a
    (running_of (knows_now g x a) work) o)
goes g opening x a work at r e o honest = (
  actors_go.stays g a work o at.goes_by,
  actors_go.goes g a (knows_now g x a) work o at.goes_by (asks_so g opening x a work at) (goes_so g opening x a work at r e o honest),
)

pub ends : (k : Known) (work : Act) → end_of work ≡ over (running_of k work).operation
ends k work = actors_go.ends k work
