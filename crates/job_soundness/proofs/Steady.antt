-- Once the job's commit has chosen an attempt of each task, and no two of them write one path, its choice does not change.
use Rattle.text_and_lists.proofs.Members.{false_true, none_some}
use Rattle.job_invariant.proofs.Owning.{operation_own}
use Rattle.job_invariant.proofs.Sharing.{check_plain}
use Rattle.job_invariant.specs.Told.{driver_entry, entry, known, strange_entry}
use Rattle.job_model.specs.Attempts.{Who}
use Rattle.job_model.specs.JobScript.{Script}
use Rattle.job_model.specs.Legal.{IsLegal}
use Rattle.job_protocol.specs.JobCommits.{Commit, Fetching, commit_asks}
use Rattle.job_protocol.specs.Operations.{Operation, Setting, TheCheck, TheClean, TheCommit, TheSetup, TheSparing, asks, who}
use Rattle.job_protocol.specs.Outputs.{is_decided}
use Rattle.job_protocol.specs.Seen.{Seen, Times, is_begun, is_picking, is_reading, nothing_seen, see, see_all, seen}
use Rattle.job_protocol.specs.Setup.{Setup}
use Rattle.protocol_runs.proofs.Entries.{late_now, sees, take_all}
use Rattle.protocol_runs.proofs.EveryRun.{good}
use Rattle.protocol_runs.proofs.Folds.{each_run}
use Rattle.protocol_runs.proofs.Keeping.{attempt_quiet}
use Rattle.protocol_runs.proofs.Plain.{clean_plain, commit_unread, setup_plain}
use Rattle.protocol_runs.proofs.Running.{At, Early, Late}
use Rattle.protocol_runs.specs.Runs.{IsOpening, IsTimely, Runs, Stand, attempt_sends, driver_sends, is_set, nothing_learnt, strays}
use Rattle.retries.specs.Retries.{Retried}
use Rattle.s3_types.specs.Store.{Content}
use Rattle.s3_types.specs.declared.journal.Entry.{Entry}
use Rattle.s3_types.specs.declared.journal.Outcome.{Outcome}
use Rattle.s3_types.specs.declared.request.Actor.TheVariants.{Driver}
use Rattle.s3_types.specs.declared.request.Request.{Request}
use Rattle.std.proofs.Common.{List, Some, ap, arith, false, inl, inr, length, length-append, not, refl, subst, sym, take, true, ℕ, [], ◌&&◌}
use Rattle.std.proofs.Common.{◌++◌, ◌+◌, ◌||◌, ◌∙◌, ◌∷◌, ◌≡◌, ◌≤◌, ◌⊎◌}
use Rattle.std.proofs.Math.Bool.{and-false}
use Rattle.std.proofs.lemmas.Bool.{cases_lt}
use Rattle.std.proofs.lemmas.List.{take-append-le}
use Rattle.twin_facts.proofs.OneSide.{picks_still, unread_picks}
use Rattle.twin_facts.proofs.Progress.{Committing, committing, undecided}

-- An entry changes no choice that is complete.
abbrev Steady : Script → Seen → Seen → Type 0
Steady w s u = (u.picks ≡ s.picks) ⊎ (is_decided w s.picks ≡ false)

module _ (g : Setting) (k : Times) (opening : Content) (j : IsLegal g.script) (is : IsOpening g opening) where
  abbrev w : Script
  w = g.script

  commit_steady : (x : Stand) (n : ℕ) (r : Request) (o : Outcome) (c : Commit)
      → Committing g opening x.told x.seen.picks x.seen.put_mark c → commit_asks w c ≡ Some r
      → Steady w x.seen (see w k x.seen (driver_entry n r o))
  commit_steady x n r o (Fetching sets m) i e = inr (undecided w x.seen.picks sets i.alone.decides i.unread)
  commit_steady x n r o c i e = inl (unread_picks w k x.seen n r (commit_unread w g.minimum x.told c refl i.alone.decides r e) o)

  -- The facts hold of the operation that the driver is running, or its set-up is not done yet.
  no_other : (x : Stand) (op : Operation) → Early g opening x ⊎ Late g opening x → x.driver ≡ Some op
      → At g opening (Some op) x.seen x.told ⊎ Early g opening x
  no_other x op (inl e) d = inr e
  no_other x op (inr l) d = inl (subst (λ v. At g opening v x.seen x.told) d l.driver)

  driver_steady : (es : List Entry) (x : Stand) (op : Operation) (n : ℕ) (r : Request) (o : Outcome) → Runs g k opening es x
      → x.driver ≡ Some op → asks g (who Driver) nothing_learnt op ≡ Some r → IsTimely k n op
      → Steady w x.seen (see w k x.seen (driver_entry n r o))
  driver_steady es x (TheSetup t) n r o run d asked timely = inl (unread_picks w k x.seen n r (setup_plain w t.operation r asked).reads o)
  driver_steady es x (TheCommit c) n r o run d asked timely = commit_steady x n r o c (committing g k opening j is es x run c d) asked
  driver_steady es x (TheClean t) n r o run d asked timely = inl (unread_picks w k x.seen n r (clean_plain w t.operation r asked).1 o)
  driver_steady es x (TheCheck t) n r o run d asked timely = inl (unread_picks w k x.seen n r (check_plain w t.operation r asked).reads o)
  driver_steady es x (TheSparing t) n r o run d asked timely =
      let off : is_picking k x.seen.begun n ≡ false = ap (λ b. (x.seen.begun || is_begun k.commit n) && not b) timely
      ∙ and-false (x.seen.begun || is_begun k.commit n) in
      inl (picks_still w k x.seen n r (λ t. ap (λ b. b && is_reading w t r) off) o)
  driver_steady es x op n r o run d asked timely = elim (no_other x op (good g k opening j is es x run) d) [
    | inl at ↦ absurd at
    | inr e ↦ elim e.setup [ inl none ↦ absurd (none_some none d) | inr y ↦ absurd (other (sym y.1 ∙ d)) ]
  ]
    where
      other : {t : Retried Setup} → Some (TheSetup t) ≡ Some op → ⊥
      other e = cc

  attempt_steady : (es : List Entry) (x : Stand) (a : Who) (op : Operation) (n : ℕ) (r : Request) (o : Outcome) → Runs g k opening es x
      → is_set x.driver ≡ true → x.attempts a ≡ Some op
      → asks g a (known x.told a) op ≡ Some r → Steady w x.seen (see w k x.seen (entry a n r o))
  attempt_steady es x a op n r o run set at asked =
      let l = late_now g k opening j is es x run set in
      let f = l.fine a op at in
      let own = operation_own g j x.told a f.0 op f.1 r asked in
      inl (attempt_quiet w k x.seen a n r l.hold.there (λ b q i. own.keys q i) o).picks

  -- ---- at each moment

  abbrev Settled : List Entry → Stand → Type 0
  Settled es x = (m : ℕ) → m ≤ length es → is_decided w (seen w k opening es m).picks ≡ true → x.seen.picks ≡ (seen w k opening es m).picks

  more : (es : List Entry) (x z : Stand) (e : Entry) → Runs g k opening (es ++ e ∷ []) z → Steady w x.seen z.seen → Settled es x
      → Settled (es ++ e ∷ []) z
  more es x z e run steady old m within decided = elim (cases_lt (length es) m) [
    | inl high ↦
        let long : length (es ++ e ∷ []) ≡ length es + 1 = length-append es (e ∷ []) in
        let all : take m (es ++ e ∷ []) ≡ es ++ e ∷ [] = take_all (es ++ e ∷ []) m (omega (arith, long, high)) in
        ap (λ (s : Seen). s.picks) (sees g k opening j is (es ++ e ∷ []) z run)
        ∙ ap (λ l. (see_all w k (nothing_seen opening) l).picks) (sym all)
    | inr low ↦
        let same : (seen w k opening (es ++ e ∷ []) m).picks ≡ (seen w k opening es m).picks =
        ap (λ l. (see_all w k (nothing_seen opening) l).picks) (take-append-le m es (e ∷ []) low) in
        let then = old m low (sym (ap (is_decided w) same) ∙ decided) in
        elim steady [
          | inl still ↦ still ∙ then ∙ sym same
          | inr none ↦ absurd (false_true none (ap (is_decided w) (then ∙ sym same) ∙ decided))
        ]
  ]

  pub settled : (es : List Entry) (x : Stand) → Runs g k opening es x → Settled es x
  settled =
      each_run g k opening Settled (λ m within decided. ap (λ l. (see_all w k (nothing_seen opening) l).picks) (sym (take_all [] m
      (omega arith)))) (λ es x b run may h. h)
      (λ es x op n r o run d asked timely few honest h. more es x _ (driver_entry n r o)
      (driver_sends es x op n r o run d asked timely few honest) (driver_steady es x op n r o run d asked timely) h)
      (λ es x a op n r o run set at asked honest h. more es x _ (entry a n r o) (attempt_sends es x a op n r o run set at asked honest)
      (attempt_steady es x a op n r o run set at asked) h)
      (λ es x n r o run f h. more es x _ (strange_entry n r o) (strays es x n r o run f) (inl refl) h)
