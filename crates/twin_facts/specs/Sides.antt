-- Runs of two jobs at one destination, request by request, in any order of their actors. An operation may also stop at any time.
use Rattle.job_invariant.specs.Stores.{at_id}
use Rattle.job_invariant.specs.Told.{driver_entry, entry, known, strange_entry}
use Rattle.job_model.specs.Attempts.{Who}
use Rattle.job_protocol.specs.Operations.{Operation, Setting, asks, tells, who}
use Rattle.job_protocol.specs.Seen.{Times, nothing_seen}
use Rattle.protocol_runs.specs.Runs.{Beginning, IsTimely, MayBegin, Stand, begin, commit_with, first_stand, is_set, nothing_learnt, saw}
use Rattle.protocol_runs.specs.Runs.{with_attempt, with_commit, with_driver}
use Rattle.s3_types.specs.Answer.{answer}
use Rattle.s3_types.specs.Moment.{IsHonestOutcome, effect}
use Rattle.s3_types.specs.Store.{Content, Scene, Upload}
use Rattle.s3_types.specs.declared.journal.Entry.{Entry}
use Rattle.s3_types.specs.declared.journal.Outcome.{Outcome}
use Rattle.s3_types.specs.declared.request.Actor.TheVariants.{Driver}
use Rattle.s3_types.specs.declared.request.Request.{Request}
use Rattle.std.specs.Prelude.{Bool, List, Some, cond, false, map, nat_le, nat_lt, true, ℕ, [], ◌&&◌, ◌++◌, ◌<◌, ◌^◌, ◌||◌, ◌∷◌, ◌≡◌, ◌≤◌}
use Rattle.twin_facts.specs.Names.{Ids}

-- One of the two jobs.
pub data Side : Type 0 where
  First : Side
  Second : Side

abbrev pub is_side : Side → Side → Bool
is_side First First = true
is_side Second Second = true
is_side _ _ = false

-- An entry of the joint journal, with the side that sent it. The entry has its event's number as that side counts; `theirs` is the number
-- under which the other side reads it.
pub record TwinEntry : Type 0 where
  pub side : Side
  pub entry : Entry
  pub theirs : ℕ

-- ---- one side

-- A side after an entry of its driver, which was running this operation.
abbrev pub driver_saw : Setting → Times → Stand → Operation → ℕ → Request → Outcome → Stand
driver_saw g k x op n r o = with_commit (with_driver (saw g k x (driver_entry n r o)) (tells g (who Driver) op o))
    (commit_with op x.commit (driver_entry n r o))

-- A side after an entry of one of its attempts, which was running this operation.
abbrev pub attempt_saw : Setting → Times → Stand → Who → Operation → ℕ → Request → Outcome → Stand
attempt_saw g k x a op n r o = with_attempt (saw g k x (entry a n r o)) a (tells g a op o)

-- A side after an entry of the other side, which it reads as a stranger's.
abbrev pub observed : Setting → Times → Stand → ℕ → Entry → Stand
observed g k x n e = saw g k x (strange_entry n e.request e.outcome)

-- An actor of the side sends what its operation asks, and the side goes on by the outcome.
pub data Sends (g : Setting) (k : Times) : Stand → Entry → Stand → Type 0 where
  driver_sends : (x : Stand) (op : Operation) (n : ℕ) (r : Request) (o : Outcome) → x.driver ≡ Some op
      → asks g (who Driver) nothing_learnt op ≡ Some r → IsTimely k n op → x.seen.scene.content.next ≤ 2 ^ 64
      → IsHonestOutcome o (answer x.seen.scene r)
      → Sends g k x (driver_entry n r o) (driver_saw g k x op n r o)
  attempt_sends : (x : Stand) (a : Who) (op : Operation) (n : ℕ) (r : Request) (o : Outcome) → is_set x.driver ≡ true
      → x.attempts a ≡ Some op → asks g a (known x.told a) op ≡ Some r → IsHonestOutcome o (answer x.seen.scene r)
      → Sends g k x (entry a n r o) (attempt_saw g k x a op n r o)

-- ---- two sides

-- An entry as a side reads it: the other side's is a stranger's.
abbrev pub in_eyes : Side → TwinEntry → Entry
in_eyes side t = cond (is_side side t.side) t.entry (strange_entry t.theirs t.entry.request t.entry.outcome)

-- The joint journal as a side reads it.
abbrev pub eyes : Side → List TwinEntry → List Entry
eyes side = map (in_eyes side)

-- The upload ids that a send drew.
abbrev pub drawn_by : Scene → Request → Outcome → Ids
drawn_by s r o id = nat_le s.content.next id && nat_lt id (effect s r o).content.next

-- The upload ids that a side drew with these entries, from this scene on.
abbrev pub drew_from : Side → Scene → List TwinEntry → Ids
drew_from side s [] id = false
drew_from side s (t ∷ ts) id = (is_side side t.side && drawn_by s t.entry.request t.entry.outcome id) || drew_from side
    (effect s t.entry.request t.entry.outcome) ts id

-- The upload ids that a side drew in the whole run.
abbrev pub drew : Side → Content → List TwinEntry → Ids
drew side opening es = drew_from side (nothing_seen opening).scene es

-- A run of two jobs over this content, with the times of each: its entries so far and the state of both sides.
pub data TwinRun (g h : Setting) (k l : Times) (opening : Content) : List TwinEntry → Stand → Stand → Type 0 where
  twins_begin : TwinRun g h k l opening [] (first_stand opening k.clean) (first_stand opening l.clean)
  first_begins : (es : List TwinEntry) (x y : Stand) (b : Beginning) → TwinRun g h k l opening es x y → MayBegin g x b
      → TwinRun g h k l opening es (begin g x b) y
  second_begins : (es : List TwinEntry) (x y : Stand) (b : Beginning) → TwinRun g h k l opening es x y → MayBegin h y b
      → TwinRun g h k l opening es x (begin h y b)
  first_sends : (es : List TwinEntry) (x y z : Stand) (e : Entry) (n : ℕ) → TwinRun g h k l opening es x y → Sends g k x e z
      → TwinRun g h k l opening (es ++ record { side = First; entry = e; theirs = n } ∷ []) z (observed h l y n e)
  second_sends : (es : List TwinEntry) (x y z : Stand) (e : Entry) (n : ℕ) → TwinRun g h k l opening es x y → Sends h l y e z
      → TwinRun g h k l opening (es ++ record { side = Second; entry = e; theirs = n } ∷ []) (observed g k x n e) z

-- Two sides that share their destination may begin with this content.
pub record IsTwinOpening (g h : Setting) (c : Content) : Type 0 where
  pub shared_first : g.shared ≡ true
  pub shared_second : h.shared ≡ true
  pub first : c.minimum ≡ g.minimum
  pub second : c.minimum ≡ h.minimum
  pub fresh : (id : ℕ) (x : Upload) → at_id g.script c id ≡ Some x → id < c.next
