-- One send of the request that an operation asks.
use Rattle.job_actor.specs.Acts.{EndsWanting}
use Rattle.job_actor.specs.declared.posting.Posted.{Posted}
use Rattle.job_actor.specs.declared.posting.Posted.TheVariants.{Broken, Heard, Unsent}
use Rattle.job_model.specs.declared.ends.OpEnd.{OpEnd}
use Rattle.s3_types.specs.Answer.{answer}
use Rattle.s3_types.specs.Foretold.{IsForetold}
use Rattle.s3_types.specs.Moment.{IsHonestOutcome, effect}
use Rattle.s3_types.specs.Store.{Scene}
use Rattle.s3_types.specs.declared.fates.Fate.{Fate}
use Rattle.s3_types.specs.declared.journal.Entry.{Entry}
use Rattle.s3_types.specs.declared.journal.Outcome.{Outcome}
use Rattle.s3_types.specs.declared.request.Actor.{Actor}
use Rattle.s3_types.specs.declared.request.Request.{Request}
use Rattle.std.specs.Prelude.{List, Option, Some, ℕ, [], ◌++◌, ◌+◌, ◌∷◌, ◌≡◌}

-- What is visible of a run: the scene, the number of requests so far, the fates of those to come as far as they are known in advance, and
-- the entries.
pub record Sight : Type 0 where
  pub scene : Scene
  pub requests : ℕ
  pub told : ℕ → Option Fate
  pub entries : List Entry

-- What is visible of a run, from its parts.
abbrev pub sight : Scene → ℕ → (ℕ → Option Fate) → List Entry → Sight
sight scene requests told entries = record { scene = scene; requests = requests; told = told; entries = entries }

-- The operation accepts each outcome that a send of its request may have in this scene.
abbrev pub DueFits : {A : Type 0} → (A → Option Request) → (A → Outcome → Type 0) → A → Scene → Type 0
DueFits wants fits a s = (r : Request) (o : Outcome) → wants a ≡ Some r → IsHonestOutcome o (answer s r) → fits a o

-- One entry was appended, by this actor in this event, for the asked request. Its outcome is honest, and is the one that was named in
-- advance, if one was.
pub record Grew (asked : Option Request) (actor : Actor) (event : ℕ) (c d : Sight) : Type 0 where
  pub request : Request
  pub outcome : Outcome
  pub wanted : asked ≡ Some request
  pub honest : IsHonestOutcome outcome (answer c.scene request)
  pub foretold : IsForetold (c.told (c.requests + 1)) outcome
  pub appended : d.entries ≡ c.entries ++ record { event = event; actor = actor; request = request; outcome = outcome } ∷ []
  pub scene : d.scene ≡ effect c.scene request outcome
  pub count : d.requests ≡ c.requests + 1

-- Nothing was sent, and the operation has not changed.
pub record NotSent {A : Type 0} (a b : A) (c d : Sight) : Type 0 where
  pub act : b ≡ a
  pub entries : d.entries ≡ c.entries
  pub scene : d.scene ≡ c.scene
  pub count : d.requests ≡ c.requests

-- The request was sent, and memory ran out when the operation received the outcome.
pub record SentBroken {A : Type 0} (wants : A → Option Request) (end_of : A → Option OpEnd) (actor : Actor) (event : ℕ) (a b : A)
    (c d : Sight) : Type 0 where
  pub grew : Grew (wants a) actor event c d
  pub over : EndsWanting (wants b) (end_of b)

-- The request was sent, and the operation received the outcome of its entry.
pub record SentHeard {A : Type 0} (wants : A → Option Request) (tells : A → Outcome → A) (actor : Actor) (event : ℕ) (a b : A)
    (c d : Sight) : Type 0 where
  pub grew : Grew (wants a) actor event c d
  pub told : b ≡ tells a grew.outcome

-- What one send has done, by what became of it.
abbrev pub PostedBy : {A : Type 0} → (A → Option Request) → (A → Outcome → A) → (A → Option OpEnd) → Actor → ℕ → A → A → Sight → Sight
    → Posted → Type 0
PostedBy wants tells end_of actor event a b c d Unsent = NotSent a b c d
PostedBy wants tells end_of actor event a b c d Broken = SentBroken wants end_of actor event a b c d
PostedBy wants tells end_of actor event a b c d Heard = SentHeard wants tells actor event a b c d
