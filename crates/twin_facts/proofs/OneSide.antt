-- The entries of a side make its run go on. If its destination is shared, the side runs no abort or clean of a job alone.
use Rattle.job_invariant.specs.Told.{driver_entry, entry}
use Rattle.job_model.specs.Attempts.{Who}
use Rattle.job_model.specs.JobScript.{Script}
use Rattle.job_protocol.proofs.Begun.{commit_of_so}
use Rattle.job_protocol.specs.Cleanups.{Clean, clean_start}
use Rattle.job_protocol.specs.Operations.{Operation, Setting, TheClean, TheSparing, tells, who}
use Rattle.job_protocol.specs.Seen.{Seen, Times, is_marking, is_picking, is_reading, see}
use Rattle.job_protocol.specs.Sparing.{sparing_start}
use Rattle.protocol_runs.specs.Runs.{BeginClean, BeginCommit, BeginSetup, Runs, Stand, actor_begins, attempt_sends, driver_sends}
use Rattle.protocol_runs.specs.Runs.{run_begins}
use Rattle.protocol_runs.specs.Runs.{strays}
use Rattle.retries.specs.Retries.{Retried, fresh}
use Rattle.s3_types.specs.Moment.{effect, is_effective}
use Rattle.s3_types.specs.Store.{Content}
use Rattle.s3_types.specs.declared.journal.Entry.{Entry}
use Rattle.s3_types.specs.declared.journal.Outcome.{Outcome}
use Rattle.s3_types.specs.declared.journal.Outcome.TheVariants.{Answered, Slow}
use Rattle.s3_types.specs.declared.request.Actor.TheVariants.{Driver}
use Rattle.s3_types.specs.declared.request.Request.{Request}
use Rattle.std.proofs.Common.{List, Option, Some, ap, arith, cond, false, refl, subst, sym, true, ℕ, [], ◌&&◌, ◌++◌, ◌∙◌, ◌∷◌, ◌≡◌}
use Rattle.std.proofs.Math.Bool.{and-false}
use Rattle.twin_facts.specs.Sides.{Sends}
use Rattle.twin_facts.specs.Sides as sides

-- ---- the run of a side

pub goes_on : (g : Setting) (k : Times) (opening : Content) (es : List Entry) (x z : Stand) (e : Entry) → Runs g k opening es x
    → Sends g k x e z → Runs g k opening (es ++ e ∷ []) z
goes_on g k opening es x _ _ run (sides.driver_sends _ op n r o d asked timely few honest) = driver_sends es x op n r o run d asked timely
    few honest
goes_on g k opening es x _ _ run (sides.attempt_sends _ a op n r o set at asked honest) = attempt_sends es x a op n r o run set at asked
    honest

-- ---- what one entry leaves

module _ (w : Script) (k : Times) (s : Seen) (n : ℕ) (r : Request) where
  pub driver_scene : (o : Outcome) → (see w k s (driver_entry n r o)).scene ≡ effect s.scene r o
  driver_scene o = grind arith

  pub attempt_scene : (a : Who) (o : Outcome) → (see w k s (entry a n r o)).scene ≡ effect s.scene r o
  attempt_scene a o = grind arith

  -- If the entry reads no set, or comes after the beginning of an abort or clean, it changes no pick.
  pub picks_still : ((t : ℕ) → (is_picking k s.begun n && is_reading w t r) ≡ false) → (o : Outcome)
      → (see w k s (driver_entry n r o)).picks ≡ s.picks
  picks_still none (Answered y) = λ i t. ap (λ b. cond b (s.last t) (s.picks t)) (none t) i
  picks_still none Slow = refl
  picks_still none _ = refl

  pub unread_picks : ((t : ℕ) → is_reading w t r ≡ false) → (o : Outcome) → (see w k s (driver_entry n r o)).picks ≡ s.picks
  unread_picks none = picks_still (λ t. ap (λ b. is_picking k s.begun n && b) (none t) ∙ and-false (is_picking k s.begun n))

  -- If the entry puts no marker, the marker was put exactly if it was put before.
  pub mark_still : is_marking w r ≡ false → (o : Outcome) → (see w k s (driver_entry n r o)).put_mark ≡ s.put_mark
  mark_still h o = grind arith

  -- A marker that was put stays put, and a put that takes effect puts it.
  pub mark_stays : s.put_mark ≡ true → (o : Outcome) → (see w k s (driver_entry n r o)).put_mark ≡ true
  mark_stays h o = grind arith

  pub mark_puts : is_marking w r ≡ true → (o : Outcome) → is_effective o ≡ true → (see w k s (driver_entry n r o)).put_mark ≡ true
  mark_puts h o g = grind arith

-- ---- its driver

-- The operation is no abort or clean of a job alone.
abbrev IsNone : Option Operation → Type 0
IsNone (Some (TheClean t)) = ⊥
IsNone _ = Unit {0}

module _ (g : Setting) (shared : g.shared ≡ true) (k : Times) (opening : Content) where
  goes_none : (op : Operation) (o : Outcome) → IsNone (Some op) → IsNone (Some (tells g (who Driver) op o))
  goes_none op o h = grind arith

  no_clean : (es : List Entry) (x : Stand) → Runs g k opening es x → IsNone x.driver
  no_clean es x run_begins = tt
  no_clean es x (actor_begins fs y BeginSetup run may) = tt
  no_clean es x (actor_begins fs y (BeginCommit reports) run may) = commit_of_so g (λ op. IsNone (Some op)) (λ missing. tt) (λ t. tt)
      reports
  no_clean es x (actor_begins fs y BeginClean run may) = subst (λ b. IsNone
      (Some (cond b (TheSparing (fresh g.script.retries (sparing_start g.script.committer)))
      (TheClean (fresh g.script.retries clean_start))))) (sym shared) tt
  no_clean es x (actor_begins fs y b run may) = no_clean fs y run
  no_clean es x (driver_sends fs y op n r o run d asked timely few honest) = goes_none op o (subst IsNone d (no_clean fs y run))
  no_clean es x (attempt_sends fs y a op n r o run set at asked honest) = no_clean fs y run
  no_clean es x (strays fs y n r o run f) = no_clean fs y run

  pub never_cleans : (es : List Entry) (x : Stand) → Runs g k opening es x → (t : Retried Clean) → x.driver ≡ Some (TheClean t) → ⊥
  never_cleans es x run t e = subst IsNone e (no_clean es x run)
