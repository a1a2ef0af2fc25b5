-- How the commit of a job that shares its destination ends, in every run among strangers.
use Rattle.job_invariant.specs.Told.{driver_entry, entry, strange_entry}
use Rattle.job_model.specs.JobScript.{Script}
use Rattle.job_model.specs.Legal.{IsLegal}
use Rattle.job_model.specs.declared.ends.CheckEnd.{CheckEnd}
use Rattle.job_model.specs.declared.ends.CommitEnd.{CommitEnd}
use Rattle.job_outcomes.proofs.CommitRuns.{commit_runs}
use Rattle.job_protocol.proofs.Begun.{clean_of_so}
use Rattle.job_protocol.specs.JobCommits.{Commit, CommitOver}
use Rattle.job_protocol.specs.Operations.{Operation, Reports, Setting, TheCheck, TheClean, TheCommit, TheSetup, TheSparing, asks, tells}
use Rattle.job_protocol.specs.Operations.{who}
use Rattle.job_protocol.specs.Rechecks.{Check, CheckOver}
use Rattle.job_protocol.specs.Seen.{Times, is_begun}
use Rattle.protocol_runs.specs.Runs.{Beginning, IsOpening, IsTimely, MayBegin, Runs, Stand, actor_begins, attempt_sends, begin, commit_with}
use Rattle.protocol_runs.specs.Runs.{driver_sends, is_just_set, is_set, nothing_learnt, run_begins, strays}
use Rattle.retries.specs.Operation.{run}
use Rattle.retries.specs.Retries.{Retried}
use Rattle.s3_types.specs.Store.{Content}
use Rattle.s3_types.specs.declared.journal.Entry.{Entry}
use Rattle.s3_types.specs.declared.journal.Outcome.{Outcome}
use Rattle.s3_types.specs.declared.request.Actor.TheVariants.{Driver}
use Rattle.s3_types.specs.declared.request.Request.{Request}
use Rattle.std.proofs.Common.{Bool, List, None, Option, Some, ap, arith, cond, false, refl, subst, sym, true, ℕ, [], ◌++◌, ◌∙◌, ◌∷◌, ◌≡◌}
use Rattle.std.proofs.Common.{◌⊎◌}
use Rattle.std.proofs.lemmas.List.{append-nil}
use Rattle.std.proofs.lemmas.List.Elements.{filter-append}
use Rattle.twin_safety.proofs.Behind.{Behind, IsAt, begins, more}
use Rattle.twin_safety.proofs.Checking.{checks_end}
use Rattle.twin_safety.specs.Ends.{BehindCheck, ByCheck, commit_entries, is_commits}

-- ---- its entries

one_more : (k : Times) (es : List Entry) (e : Entry) (b : Bool) → is_commits k e ≡ b
    → commit_entries k (es ++ e ∷ []) ≡ commit_entries k es ++ cond b (e ∷ []) []
one_more k es e b is = filter-append (is_commits k) es (e ∷ []) ∙ ap (λ c. commit_entries k es ++ cond c (e ∷ []) []) is

other_more : (k : Times) (es : List Entry) (e : Entry) → is_commits k e ≡ false → commit_entries k (es ++ e ∷ []) ≡ commit_entries k es
other_more k es e is = one_more k es e false is ∙ append-nil (commit_entries k es)

-- ---- the state of a commit

module _ (g : Setting) (j : IsLegal g.script) (shared : g.shared ≡ true) (k : Times) (opening : Content) (is : IsOpening g opening) where
  abbrev w : Script
  w = g.script

  abbrev Stands : Option Operation → List Entry → List Entry → Type 0
  Stands None both own = both ≡ []
  Stands (Some (TheSetup u)) both own = both ≡ []
  Stands (Some (TheCommit c)) both own = (r : Reports) × Behind w r both own c
  Stands (Some (TheCheck t)) both own = (r : Reports) × IsAt w r both own (TheCheck t)
  Stands (Some (TheClean t)) both own = Unit {0}
  Stands (Some (TheSparing t)) both own = Unit {0}
  Stands (Some _) both own = ⊥

  -- ---- its first state

  -- Nothing was sent for it yet, or it has begun.
  stood : (d : Option Operation) (both own : List Entry) → Stands d both own → (both ≡ []) ⊎ ((is_set d ≡ true) × (is_just_set d ≡ false))
  stood d both own h = grind arith

  stands_at : (op : Operation) (r : Reports) (both own : List Entry) → IsAt w r both own op → Stands (Some op) both own
  stands_at op r both own h = grind arith

  begins_on : (es : List Entry) (x : Stand) (b : Beginning) → MayBegin g x b → Stands x.driver (commit_entries k es) x.commit
      → Stands (begin g x b).driver (commit_entries k es) (begin g x b).commit
  begins_on es x b h g = grind (arith, stood, stands_at, begins, clean_of_so)

  -- ---- its own entries

  commit_on : (op : Operation) (q : Reports) (es own : List Entry) (n : ℕ) (r : Request) (o : Outcome)
      → IsAt w q (commit_entries k es) own op
      → asks g (who Driver) nothing_learnt op ≡ Some r → (is_begun k.commit n ≡ true) × (is_begun k.clean n ≡ false)
      → Stands (Some (tells g (who Driver) op o)) (commit_entries k (es ++ driver_entry n r o ∷ []))
      (commit_with op own (driver_entry n r o))
  commit_on op q es own n r o h asked timely =
      subst (λ m. Stands (Some (tells g (who Driver) op o)) m (commit_with op own (driver_entry n r o)))
      (sym (one_more k es (driver_entry n r o) true (rw (timely.0, timely.1) refl)))
      (stands_at (tells g (who Driver) op o) q _ _ (more g shared q op (commit_entries k es) own nothing_learnt (driver_entry n r o) h
      asked))

  driver_on : (op : Operation) (es own : List Entry) (n : ℕ) (r : Request) (o : Outcome) → asks g (who Driver) nothing_learnt op ≡ Some r
      → IsTimely k n op → Stands (Some op) (commit_entries k es) own
      → Stands (Some (tells g (who Driver) op o)) (commit_entries k (es ++ driver_entry n r o ∷ []))
      (commit_with op own (driver_entry n r o))
  driver_on (TheSetup u) es own n r o asked timely h = other_more k es (driver_entry n r o) (rw timely.0 refl) ∙ h
  driver_on (TheCommit c) es own n r o asked timely h = commit_on (TheCommit c) h.0 es own n r o h.1 asked timely
  driver_on (TheCheck t) es own n r o asked timely h = commit_on (TheCheck t) h.0 es own n r o h.1 asked timely
  driver_on (TheClean t) es own n r o asked timely h = tt
  driver_on (TheSparing t) es own n r o asked timely h = tt
  driver_on _ es own n r o asked timely h = absurd h

  -- ---- every run

  stands_so : (es : List Entry) (x : Stand) → Runs g k opening es x → Stands x.driver (commit_entries k es) x.commit
  stands_so es x run_begins = refl
  stands_so es x (actor_begins fs y b run may) = begins_on fs y b may (stands_so fs y run)
  stands_so es x (driver_sends fs y op n r o run d asked timely few honest) = driver_on op fs y.commit n r o asked timely
      (subst (λ v. Stands v (commit_entries k fs) y.commit) d (stands_so fs y run))
  stands_so es x (attempt_sends fs y a op n r o run set at asked honest) = subst (λ l. Stands y.driver l y.commit)
      (sym (other_more k fs (entry a n r o) refl)) (stands_so fs y run)
  stands_so es x (strays fs y n r o run f) = subst (λ l. Stands y.driver l y.commit) (sym (other_more k fs (strange_entry n r o) refl))
      (stands_so fs y run)

  pub by_check : (es : List Entry) (x : Stand) → Runs g k opening es x → (t : Retried Check) (end : CheckEnd) → x.driver ≡ Some (TheCheck t)
      → t.operation ≡ CheckOver end → ByCheck w k es end
  by_check es x run t end d over =
      let s = subst (λ q. Stands q (commit_entries k es) x.commit) d (stands_so es x run) in
      let o = checks_end w s.0.attempts (commit_entries k es) t s.1.0.checked end over in
      record { fails = s.1.0.fails; worn = o.0; first = o.1; is = o.2 }

  pub behind_so : (es : List Entry) (x : Stand) → Runs g k opening es x → (c : Commit) → x.driver ≡ Some (TheCommit c) → (r : Reports)
      × Behind w r (commit_entries k es) x.commit c
  behind_so es x run c d = subst (λ q. Stands q (commit_entries k es) x.commit) d (stands_so es x run)

  pub behind_check : (es : List Entry) (x : Stand) → Runs g k opening es x → (end : CommitEnd)
      → x.driver ≡ Some (TheCommit (CommitOver end)) → BehindCheck w k es x end
  behind_check es x run end d =
      let s = behind_so es x run (CommitOver end) d in
      record {
        missing = s.0.missing;
        reported = s.0.attempts;
        checks = s.1.checks;
        entries = s.1.entries;
        cleared = s.1.cleared;
        ended =
            commit_runs.ended g j k opening is es x run end d s.0.missing s.1.leads;
      }
