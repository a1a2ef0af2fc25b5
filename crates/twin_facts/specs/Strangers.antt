-- What the requests of a job name, and how the other job reads them.
use Rattle.job_invariant.specs.Facts.{Hold}
use Rattle.job_invariant.specs.Foreign.{IsForeign}
use Rattle.job_invariant.specs.Stores.{IsKnown}
use Rattle.job_invariant.specs.Told.{Told}
use Rattle.job_model.specs.Attempts.{Who}
use Rattle.job_model.specs.JobScript.{Script}
use Rattle.job_model.specs.Known.{Drawn}
use Rattle.job_model.specs.Legal.{IsLegal}
use Rattle.job_protocol.specs.Operations.{Setting}
use Rattle.job_protocol.specs.Seen.{Seen}
use Rattle.s3_types.specs.declared.request.Actor.{Actor}
use Rattle.s3_types.specs.declared.request.Request.{Request}
use Rattle.std.specs.Prelude.{List, false, true, ℕ, ◌≡◌}
use Rattle.twin_facts.specs.Names.{Ids, IsStranger, NamesOwn}
use Rattle.twin_facts.specs.Requests.{IsSentBy, SetsUpBy}

-- Two jobs with one destination and different ids.
pub record AreTwins (w v : Script) : Type 0 where
  pub dest : w.dest ≡ v.dest
  pub jobs : w.job ≡ v.job → ⊥

-- Each request of a job names only what is the job's own or nobody's.
pub record OwnNames : Type 0 where
  pub sends : (g : Setting) → IsLegal g.script → (s : Seen) (m : Told) → Hold g.script g.minimum s m → (a : Actor) (r : Request)
      → IsSentBy g s m a r → NamesOwn g.script m.drawn r
  pub setup : (g : Setting) → IsLegal g.script → (s : Seen) (drawn : Who → List Drawn) (r : Request) → SetsUpBy g s r
      → NamesOwn g.script drawn r

-- Of two jobs at one destination that have drawn no upload in common: a request that names only what is one job's own is a stranger's to
-- the other, and foreign to its facts.
pub record TwinsAreStrangers : Type 0 where
  pub stranger : (w v : Script) → IsLegal w → IsLegal v → AreTwins w v → (drawn : Who → List Drawn) (drew : Ids)
      → ((id : ℕ) → IsKnown drawn id → drew id ≡ false) → (r : Request) → NamesOwn w drawn r → IsStranger v drew r
  pub foreign : (v : Script) (drawn : Who → List Drawn) (drew : Ids) → ((id : ℕ) → IsKnown drawn id → drew id ≡ true) → (r : Request)
      → IsStranger v drew r → IsForeign v drawn r
