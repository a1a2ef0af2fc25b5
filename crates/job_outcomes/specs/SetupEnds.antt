-- How the driver's set-up ends, by its entries alone: by what its pages listed, and, if nobody else sends between them, by what the store
-- held when it began.
use Rattle.job_model.specs.JobScript.{Script}
use Rattle.job_model.specs.Known.{Known}
use Rattle.job_model.specs.Legal.{IsLegal}
use Rattle.job_model.specs.declared.ends.SetupEnd.{SetupEnd}
use Rattle.job_protocol.specs.Conflicts.{checks_all}
use Rattle.job_protocol.specs.Operations.{Running, Setting, TheSetup, advance, over, wants}
use Rattle.job_protocol.specs.Setup.{first_shown, setup_after, setup_asks, setup_over, setup_start}
use Rattle.job_spec.specs.OperationEnds.{SetupIs}
use Rattle.list_walk.specs.Walks.{keys_on}
use Rattle.retries.specs.Operation.{Follows, run}
use Rattle.retries.specs.Retries.{fresh, step, wants_of}
use Rattle.retries.specs.Worn.{WornFirst}
use Rattle.s3_types.specs.Moment.{AreHonest}
use Rattle.s3_types.specs.Store.{Scene}
use Rattle.s3_types.specs.declared.journal.Entry.{Entry}
use Rattle.s3_types.specs.declared.journal.Outcome.{Outcome}
use Rattle.s3_types.specs.declared.journal.Outcome.TheVariants.{Answered}
use Rattle.s3_types.specs.declared.reply.Reply.{Reply}
use Rattle.s3_types.specs.declared.reply.Reply.TheVariants.{Page}
use Rattle.s3_types.specs.declared.request.Actor.{Actor}
use Rattle.s3_types.specs.declared.request.Request.{Request}
use Rattle.s3_types.specs.declared.request.Request.TheVariants.{ListPage}
use Rattle.std.specs.Prelude.{List, None, Option, Some, true, ℕ, [], ◌++◌, ◌∷◌, ◌≡◌}
use Rattle.job_model.specs.declared.ends.OpEnd.TheVariants as op_ends
use Rattle.job_model.specs.declared.ends.SetupEnd.TheVariants as setups

-- A set-up before its first request.
abbrev pub setting_up : Setting → Known → Running
setting_up g k = record { operation = TheSetup (fresh g.script.retries setup_start); known = k }

-- The keys on a page, if the reply is one and the request asked for one.
abbrev pub keys_answered : Request → Reply → List (List ℕ)
keys_answered (ListPage bucket prefix delimited after limit) (Page entries more) = keys_on entries
keys_answered _ _ = []

-- The keys on the page that this outcome brought, if it brought one.
abbrev pub keys_told : Request → Outcome → List (List ℕ)
keys_told r (Answered x) = keys_answered r x
keys_told r _ = []

-- All keys on the pages that these entries brought, in order.
abbrev pub keys_listed : List Entry → List (List ℕ)
keys_listed [] = []
keys_listed (e ∷ es) = keys_told e.request e.outcome ++ keys_listed es

-- The end of a set-up whose pages listed these keys, by whether a request of it ran out of retries. A conflict names the first visible path
-- among the keys. With DestIsFile no key was listed. With NoSuchBucket or Done none of the keys is visible, if the mode checks for that.
abbrev pub SetupListed : Script → List (List ℕ) → Option Request → SetupEnd → Type 0
SetupListed w keys (Some r) e = e ≡ setups.StoreFault
SetupListed w keys None setups.NoSuchBucket = checks_all w.committer w.mode ≡ true → first_shown w keys ≡ None
SetupListed w keys None setups.DestIsFile = keys ≡ []
SetupListed w keys None (setups.Conflict p) = (checks_all w.committer w.mode ≡ true) × (first_shown w keys ≡ Some p)
SetupListed w keys None setups.Done = checks_all w.committer w.mode ≡ true → first_shown w keys ≡ None
SetupListed w keys None _ = ⊥

-- How a set-up ends, for every committer and mode, over every store, whatever became of its sends.
pub record SetupEnds : Type 0 where
  pub ends : (w : Script) → IsLegal w → (s : Scene) (es : List Entry)
      → Follows (wants_of (setup_asks w)) (step w.retries (setup_after w)) (fresh w.retries setup_start) es → AreHonest s es
      → (e : SetupEnd) → setup_over (run (step w.retries (setup_after w)) (fresh w.retries setup_start) es).operation ≡ Some e
      → (worn : Option Request) × WornFirst w.retries es worn × SetupIs w s.content worn e
  -- The same, said of the operation of an actor.
  pub running : (g : Setting) → IsLegal g.script → (a : Actor) (k : Known) (s : Scene) (es : List Entry)
      → Follows (wants g a) (advance g a) (setting_up g k) es → AreHonest s es → (e : SetupEnd)
      → over (run (advance g a) (setting_up g k) es).operation ≡ Some (op_ends.Setup e)
      → (worn : Option Request) × WornFirst g.script.retries es worn × SetupIs g.script s.content worn e
  -- How it ends by its own entries alone, whatever was answered and whoever sent between them.
  pub listed : (g : Setting) (a : Actor) (k : Known) (es : List Entry) → Follows (wants g a) (advance g a) (setting_up g k) es
      → (e : SetupEnd) → over (run (advance g a) (setting_up g k) es).operation ≡ Some (op_ends.Setup e)
      → (worn : Option Request) × WornFirst g.script.retries es worn × SetupListed g.script (keys_listed es) worn e
