-- Facts of every run, from what each of its steps keeps.
use Rattle.job_invariant.specs.Foreign.{IsForeign}
use Rattle.job_invariant.specs.Told.{Told, driver_entry, entry, known, nothing_told, strange_entry, tell}
use Rattle.job_model.specs.Attempts.{Who}
use Rattle.job_protocol.specs.JobCommits.{Commit}
use Rattle.job_protocol.specs.Operations.{Operation, Setting, TheCommit, asks, tells, who}
use Rattle.job_protocol.specs.Seen.{Seen, Times, nothing_seen, see}
use Rattle.protocol_runs.specs.Runs.{Beginning, IsTimely, MayBegin, Runs, Stand, actor_begins, attempt_sends, begin, commit_with}
use Rattle.protocol_runs.specs.Runs.{driver_sends}
use Rattle.protocol_runs.specs.Runs.{first_stand, is_set, nothing_learnt, run_begins, saw, strays, with_attempt, with_commit, with_driver}
use Rattle.s3_types.specs.Answer.{answer}
use Rattle.s3_types.specs.Moment.{IsHonestOutcome}
use Rattle.s3_types.specs.Store.{Content}
use Rattle.s3_types.specs.declared.journal.Entry.{Entry}
use Rattle.s3_types.specs.declared.journal.Outcome.{Outcome}
use Rattle.s3_types.specs.declared.request.Actor.TheVariants.{Driver}
use Rattle.s3_types.specs.declared.request.Request.{Request}
use Rattle.std.proofs.Common.{List, Some, true, ℕ, [], ◌++◌, ◌^◌, ◌∷◌, ◌≡◌, ◌≤◌}

pub commit_is : {c d : Commit} → Some (TheCommit c) ≡ Some (TheCommit d) → c ≡ d
commit_is e = cc

module _ (g : Setting) (k : Times) (opening : Content) where
  -- The state after an entry of the driver, and after one of an attempt.
  abbrev pub driven : Stand → Operation → ℕ → Request → Outcome → Stand
  driven x op n r o = with_commit (with_driver (saw g k x (driver_entry n r o)) (tells g (who Driver) op o))
      (commit_with op x.commit (driver_entry n r o))

  abbrev pub attempted : Stand → Who → Operation → ℕ → Request → Outcome → Stand
  attempted x a op n r o = with_attempt (saw g k x (entry a n r o)) a (tells g a op o)

  -- P is kept by what begins, and by each entry of the driver, of an attempt, and of a stranger.
  abbrev pub BeginKeeps : (List Entry → Stand → Type 0) → Type 0
  BeginKeeps P = (es : List Entry) (x : Stand) (b : Beginning) → Runs g k opening es x → MayBegin g x b → P es x → P es (begin g x b)

  abbrev pub DriverKeeps : (List Entry → Stand → Type 0) → Type 0
  DriverKeeps P =
      (es : List Entry) (x : Stand) (op : Operation) (n : ℕ) (r : Request) (o : Outcome) → Runs g k opening es x → x.driver ≡ Some op
      → asks g
      (who Driver) nothing_learnt op ≡ Some r → IsTimely k n op
      → x.seen.scene.content.next ≤ 2 ^ 64 → IsHonestOutcome o (answer x.seen.scene r) → P es x
      → P (es ++ driver_entry n r o ∷ []) (driven x op n r o)

  abbrev pub AttemptKeeps : (List Entry → Stand → Type 0) → Type 0
  AttemptKeeps P =
      (es : List Entry) (x : Stand) (a : Who) (op : Operation) (n : ℕ) (r : Request)
      (o : Outcome) → Runs g k opening es x → is_set x.driver ≡ true → x.attempts a ≡ Some op → asks g a (known x.told a) op ≡ Some r
      → IsHonestOutcome o (answer x.seen.scene r) → P es x → P (es ++ entry a n r o ∷ []) (attempted x a op n r o)

  abbrev pub StrangerKeeps : (List Entry → Stand → Type 0) → Type 0
  StrangerKeeps P =
      (es : List Entry) (x : Stand) (n : ℕ) (r : Request) (o : Outcome) → Runs g k opening es x → IsForeign g.script x.told.drawn r → P es x
      → P (es ++ strange_entry n r o ∷ [])
      (saw g k x (strange_entry n r o))

  -- So P holds of every run.
  pub each_run : (P : List Entry → Stand → Type 0) → P [] (first_stand opening k.clean) → BeginKeeps P → DriverKeeps P → AttemptKeeps P
      → StrangerKeeps P
      → (es : List Entry) (x : Stand) → Runs g k opening es x → P es x
  each_run P first b d a s es x run_begins = first
  each_run P first b d a s es x (actor_begins fs y v run may) = b fs y v run may (each_run P first b d a s fs y run)
  each_run P first b d a s es x (driver_sends fs y op n r o run is asked timely few honest) = d fs y op n r o run is asked timely few honest
      (each_run P first b d a s fs y run)
  each_run P first b d a s es x (attempt_sends fs y u op n r o run set is asked honest) = a fs y u op n r o run set is asked honest
      (each_run P first b d a s fs y run)
  each_run P first b d a s es x (strays fs y n r o run f) = s fs y n r o run f (each_run P first b d a s fs y run)

  -- The same for what each entry keeps of what the journal shows and says, whoever sent it.
  pub each_seen : (P : List Entry → Seen → Told → Type 0) → P [] (nothing_seen opening) (nothing_told k.clean)
      → ((es : List Entry) (x : Stand) (e : Entry) → Runs g k opening es x → P es x.seen x.told
      → P (es ++ e ∷ []) (see g.script k x.seen e) (tell g.script x.told e))
      → (es : List Entry) (x : Stand) → Runs g k opening es x → P es x.seen x.told
  each_seen P first more =
      each_run (λ es x. P es x.seen x.told) first (λ es x b run may h. h) (λ es x op n r o run d asked timely few honest h. more es x
      (driver_entry n r o) run h)
      (λ es x a op n r o run set at asked honest h. more es x (entry a n r o) run h)
      (λ es x n r o run f h. more es x (strange_entry n r o) run h)
