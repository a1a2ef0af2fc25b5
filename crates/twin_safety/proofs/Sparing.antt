-- How an abort or clean at a shared destination ends, by its own entries.
use Rattle.job_invariant.proofs.Going.{step_so}
use Rattle.job_model.specs.JobScript.{Script}
use Rattle.job_model.specs.Known.{Known}
use Rattle.job_model.specs.declared.ends.CleanEnd.{CleanEnd}
use Rattle.job_protocol.proofs.Faults.{faults}
use Rattle.job_protocol.proofs.Wearing.{first_spent}
use Rattle.job_protocol.specs.OperationLaws.{is_fault, spare_of}
use Rattle.job_protocol.specs.Operations.{Running, Setting, TheSparing, advance, over, wants}
use Rattle.job_protocol.specs.Sparing.{Sparing, SparingOver, aborting, deleting, naming, reading_on, sparing_after, sparing_hears}
use Rattle.job_protocol.specs.Sparing.{sparing_over, sparing_start, walking}
use Rattle.job_spec.specs.OperationEnds.{CleanIs}
use Rattle.list_walk.specs.Walks.{Walked}
use Rattle.retries.specs.Operation.{Follows, run}
use Rattle.retries.specs.Retries.{Retried, fresh, spent_in, step}
use Rattle.retries.specs.Worn.{WornFirst}
use Rattle.s3_types.specs.declared.journal.Entry.{Entry}
use Rattle.s3_types.specs.declared.reply.Reply.{Reply}
use Rattle.s3_types.specs.declared.request.Actor.{Actor}
use Rattle.s3_types.specs.declared.request.Committer.{Committer}
use Rattle.s3_types.specs.declared.request.Request.{Request}
use Rattle.s3_types.specs.declared.request.UploadRef.{UploadRef}
use Rattle.std.proofs.Common.{List, Option, Some, ap, arith, false, inl, refl, sym, true, ℕ, [], ◌∙◌, ◌∷◌, ◌≡◌, ◌⊎◌}
use Rattle.std.specs.Option.{is_some, option_map}
use Rattle.job_model.specs.declared.ends.CleanEnd.TheVariants as cleans
use Rattle.job_model.specs.declared.ends.OpEnd.TheVariants as ends

-- ---- it ends Done, or a request ran out of retries

abbrev Ends : CleanEnd → Type 0
Ends e = (e ≡ cleans.StoreFault) ⊎ (e ≡ cleans.Done)

abbrev Over : Sparing → Type 0
Over (SparingOver end) = Ends end
Over _ = Unit {0}

deleting_so : (ks : List (List ℕ)) → Over (deleting ks)
deleting_so ks = grind arith

aborting_so : (c : Committer) (us : List UploadRef) (all : List (List ℕ)) → Over (aborting c us all)
aborting_so c us all = grind arith

reading_so : (c : Committer) (named : List UploadRef) (ps all : List (List ℕ)) → Over (reading_on c named ps all)
reading_so c named ps all = grind arith

walking_so : (c : Committer) (x : Walked (List ℕ)) → Over (walking c x)
walking_so c x = grind arith

naming_so : (c : Committer) (r : Reply) → Over (naming c r)
naming_so c r = grind arith

start_so : (c : Committer) → Over (sparing_start c)
start_so c = grind arith

heard_so : (w : Script) (c : Sparing) (r : Reply) → Over c → Over (sparing_hears w c r)
heard_so w c r h = grind (arith, walking_so, naming_so, reading_so, aborting_so, deleting_so)

run_over : (w : Script) (t : Retried Sparing) (es : List Entry) → Over t.operation
    → Over (run (step w.retries (sparing_after w)) t es).operation
run_over w t [] h = h
run_over w t (e ∷ es) h =
    run_over w (step w.retries (sparing_after w) t e.outcome) es (step_so w.retries (sparing_after w) t e.outcome Over
    (λ x a. heard_so w t.operation x h) (λ n. h) (λ n. inl refl))

over_so : (c : Sparing) → Over c → (e : CleanEnd) → option_map ends.Clean (sparing_over c) ≡ Some (ends.Clean e) → Ends e
over_so c h e g = grind arith

pub over_done : (c : Sparing) (e : CleanEnd) → option_map ends.Clean (sparing_over c) ≡ Some (ends.Clean e) → c ≡ SparingOver e
over_done c e h = grind arith

fault_is : (e : CleanEnd) → is_fault (Some (ends.Clean e)) ≡ true → e ≡ cleans.StoreFault
fault_is e h = grind arith

-- ---- by its entries

module _ (g : Setting) (a : Actor) where
  sparing_run : (k : Known) (t : Retried Sparing) (es : List Entry)
      → (run (advance g a) (record { operation = TheSparing t; known = k }) es).operation ≡ TheSparing
      (run (step g.script.retries (sparing_after g.script)) t es)
  sparing_run k t [] = refl
  sparing_run k t (e ∷ es) = sparing_run (advance g a (record { operation = TheSparing t; known = k }) e.outcome).known
      (step g.script.retries (sparing_after g.script) t e.outcome) es

  -- Its first state.
  abbrev first : Retried Sparing
  first = fresh g.script.retries (sparing_start g.script.committer)

  abbrev pub sparing : Known → Running
  sparing k = record { operation = TheSparing (fresh g.script.retries (sparing_start g.script.committer)); known = k }

  -- It ends so, whatever was answered and whoever sent between its entries.
  pub sparing_ends : (k : Known) (es : List Entry) → Follows (wants g a) (advance g a) (sparing k) es → (e : CleanEnd)
      → over (run (advance g a) (sparing k) es).operation ≡ Some (ends.Clean e) → (worn : Option Request)
      × WornFirst g.script.retries es worn × CleanIs worn e
  sparing_ends k es f e is =
      let worn = spent_in (advance g a) (λ y. spare_of y.operation) (sparing k) es in (
        worn,
        first_spent g a (sparing k) refl refl es f,
        by worn (sym (ap is_fault is) ∙ faults g a (sparing k) refl
            (fine g.script.committer) es f) ends_so,
      )
    where
      -- No request has run out of retries when it begins.
      fine : (c : Committer) → is_fault (option_map ends.Clean (sparing_over (sparing_start c))) ≡ false
      fine c = grind arith

      ends_so : Ends e
      ends_so = over_so (run (step g.script.retries (sparing_after g.script)) first es).operation
          (run_over g.script first es (start_so g.script.committer)) e (sym (ap over (sparing_run k first es)) ∙ is)

      by : (worn : Option Request) → is_fault (Some (ends.Clean e)) ≡ is_some worn → Ends e → CleanIs worn e
      by worn h g = grind arith
