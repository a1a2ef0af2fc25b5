-- What the operations of a job's actors owe to a run.
use Rattle.job_actor.specs.Picks.{HasPicked, LeavesPicks, is_job_commit}
use Rattle.job_actor.specs.Posting.{DueFits}
use Rattle.job_model.specs.JobScript.{Script}
use Rattle.job_model.specs.Known.{Known}
use Rattle.job_model.specs.Legal.{IsLegal}
use Rattle.job_model.specs.declared.ends.OpEnd.{OpEnd}
use Rattle.job_model.specs.declared.ends.Pick.{Pick}
use Rattle.job_model.specs.declared.events.Op.{Op}
use Rattle.job_protocol.specs.Operations.{Reports, Running, Setting, advance, over, start_of}
use Rattle.protocol_runs.specs.Runs.{IsOpening}
use Rattle.s3_types.specs.Answer.{answer, apply}
use Rattle.s3_types.specs.Moment.{IsHonestOutcome}
use Rattle.s3_types.specs.Store.{Content, Scene}
use Rattle.s3_types.specs.declared.journal.Entry.{Entry}
use Rattle.s3_types.specs.declared.journal.Outcome.{Outcome}
use Rattle.s3_types.specs.declared.request.Actor.{Actor}
use Rattle.s3_types.specs.declared.request.Actor.TheVariants.{Driver}
use Rattle.s3_types.specs.declared.request.Request.{Request}
use Rattle.script_steps.specs.Transitions.{MaySend, Play, Reachable, Sends, happen, knows_now, scene_of}
use Rattle.std.specs.Prelude.{List, None, Option, Some, is_some, ℕ, [], ◌+◌, ◌^◌, ◌≡◌, ◌≤◌}
use Rattle.job_protocol.specs.Operations as operations

-- The operation is the one that the script begins for this actor, which knows k, and with these reports for the driver.
pub record Starts {W : Type 0} (is_of : Setting → Actor → W → Type 0) (running : Known → W → Running) (picks_of : W → Option (List Pick))
    (g : Setting) (a : Actor) (op : Op) (reports : Reports) (k : Known) (work : W) : Type 0 where
  pub goes_by : is_of g a work
  pub starts : start_of g a op reports k ≡ Some (running k work).operation
  pub known : (running k work).known ≡ k
  -- It has picked nothing.
  pub picks : (ps : List Pick) → picks_of work ≡ Some ps → ps ≡ []

-- A run of a legal script has come to this state, and the actor is running this operation in it.
pub record IsAt {W : Type 0} (is_of : Setting → Actor → W → Type 0) (running : Known → W → Running) (g : Setting) (opening : Content)
    (x : Play) (a : Actor) (work : W) : Type 0 where
  pub legal : IsLegal g.script
  pub opens : IsOpening g opening
  pub happened : Reachable g opening x
  -- The store has drawn fewer ids than there are.
  pub few : (scene_of opening x).content.next ≤ 2 ^ 64
  pub goes_by : is_of g a work
  pub at : x.running a ≡ Some (running (knows_now g x a) work)

-- By how much a request of another actor may raise what this actor has left: by `most` for the driver, never for an attempt.
abbrev pub rise_for : ℕ → Actor → ℕ
rise_for most Driver = most
rise_for most _ = 0

-- What holds of the operations in every run of a legal script.
pub record WorkLaws {W : Type 0} (wants : W → Option Request) (tells : W → Outcome → W) (fits : W → Outcome → Type 0)
    (end_of : W → Option OpEnd) (left : W → Scene → ℕ) (is_of : Setting → Actor → W → Type 0) (running : Known → W → Running)
    (rise : Script → ℕ) (picks_of : W → Option (List Pick)) : Type 0 where
  -- It asks what the script's operation asks, and accepts each outcome that is due.
  pub asks : (g : Setting) (opening : Content) (x : Play) (a : Actor) (work : W) → IsAt is_of running g opening x a work
      → wants work ≡ operations.wants g a (running (knows_now g x a) work)
  pub due : (g : Setting) (opening : Content) (x : Play) (a : Actor) (work : W) → IsAt is_of running g opening x a work
      → DueFits wants fits work (scene_of opening x)
  -- It goes on as the script's operation does.
  pub goes : (g : Setting) (opening : Content) (x : Play) (a : Actor) (work : W) → IsAt is_of running g opening x a work → (r : Request)
      → wants work ≡ Some r → (o : Outcome) → IsHonestOutcome o (answer (scene_of opening x) r)
      → is_of g a (tells work o) × (running (advance g a (running (knows_now g x a) work) o).known (tells work o) ≡ advance g a
      (running (knows_now g x a) work) o)
  -- It ends as the script's operation does.
  pub ends : (k : Known) (work : W) → end_of work ≡ over (running k work).operation
  -- Another actor's request raises what it has left by at most `rise_for`.
  pub beside : (g : Setting) (opening : Content) (x : Play) (a b : Actor) (work other : W) → IsAt is_of running g opening x a work
      → IsAt is_of running g opening x b other → (a ≡ b → ⊥) → (r : Request) → wants other ≡ Some r
      → left work (apply (scene_of opening x) r) ≤ left work (scene_of opening x) + rise_for (rise g.script) a
  -- The job's commit alone has picks, and these are what the journal shows from its beginning on. Entries of any other operation change no
  -- pick.
  pub has_picks : (k : Known) (work : W) → is_some (picks_of work) ≡ is_job_commit (running k work).operation
  pub picks : (g : Setting) (opening : Content) (x : Play) (a : Actor) (work : W) → IsAt is_of running g opening x a work
      → HasPicked g opening x (picks_of work)
      → (e : Entry) → e.actor ≡ a → MaySend g opening x e → HasPicked g opening (happen g x (Sends e)) (picks_of (tells work e.outcome))
  pub leaves : (g : Setting) (opening : Content) (x : Play) (a : Actor) (work : W) → IsAt is_of running g opening x a work
      → picks_of work ≡ None → (e : Entry) → e.actor ≡ a → MaySend g opening x e → LeavesPicks g opening x e
