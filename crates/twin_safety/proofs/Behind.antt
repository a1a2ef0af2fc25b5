-- The state of a commit at a shared destination after its entries, by the reports with which it began: it is in its check, or after that.
use Rattle.job_model.specs.JobScript.{Script}
use Rattle.job_model.specs.Known.{Known}
use Rattle.job_model.specs.declared.ends.CheckEnd.{CheckEnd}
use Rattle.job_model.specs.declared.ends.CheckEnd.TheVariants.{Clear}
use Rattle.job_model.specs.declared.ends.CommitEnd.{CommitEnd}
use Rattle.job_protocol.specs.JobCommits.{Commit, CommitOver, commit_asks, commit_start, commit_tells}
use Rattle.job_protocol.specs.Operations.{Operation, Reports, Running, Setting, TheCheck, TheCommit, advance, after_check_by, asks}
use Rattle.job_protocol.specs.Operations.{commit_by, commit_of, over, tells, wants, who}
use Rattle.job_protocol.specs.Rechecks.{Check, CheckOver, check_asks}
use Rattle.protocol_runs.specs.Runs.{commit_with}
use Rattle.retries.proofs.Runs.{follows_more, run_more}
use Rattle.retries.specs.Operation.{Follows, run}
use Rattle.retries.specs.Retries.{Retried, wants_of}
use Rattle.s3_types.specs.declared.journal.Entry.{Entry}
use Rattle.s3_types.specs.declared.request.Actor.TheVariants.{Driver}
use Rattle.s3_types.specs.declared.request.Mode.{Mode}
use Rattle.s3_types.specs.declared.request.Mode.TheVariants.{Fail}
use Rattle.std.proofs.Common.{Bool, List, None, Option, Some, ap, append-nil, append_assoc, arith, refl, subst, sym, true, ℕ, [], ◌++◌, ◌∙◌}
use Rattle.std.proofs.Common.{◌∷◌, ◌≡◌}
use Rattle.twin_safety.proofs.Checking.{checked_clear}
use Rattle.twin_safety.specs.Checks.{Checked, checking, next}
use Rattle.twin_safety.specs.Ends.{IsCleared}
use Rattle.job_model.specs.declared.ends.OpEnd.TheVariants as ends

-- It is in its check, which asked for all of these entries.
pub record Within (w : Script) (r : Reports) (es : List Entry) (t : Retried Check) : Type 0 where
  pub fails : w.mode ≡ Fail
  pub none : r.missing ≡ None
  pub checked : Checked w r.attempts es t

-- It is after its check, with these entries of its own.
pub record Behind (w : Script) (r : Reports) (es own : List Entry) (c : Commit) : Type 0 where
  pub checks : List Entry
  pub entries : es ≡ checks ++ own
  pub cleared : IsCleared w.mode r.missing w r.attempts checks
  pub follows : Follows (commit_asks w) (commit_tells w) (commit_start w r.missing) own
  pub leads : run (commit_tells w) (commit_start w r.missing) own ≡ c

abbrev pub IsAt : Script → Reports → List Entry → List Entry → Operation → Type 0
IsAt w r es own (TheCheck t) = Within w r es t × (own ≡ [])
IsAt w r es own (TheCommit c) = Behind w r es own c
IsAt w r es own _ = ⊥

module _ (g : Setting) (shared : g.shared ≡ true) (r : Reports) where
  abbrev w : Script
  w = g.script

  -- ---- its first state

  -- If the check is clear, the commit begins.
  cleared_now : w.mode ≡ Fail → r.missing ≡ None → (es : List Entry) (t : Retried Check) → Checked w r.attempts es t → (c : Check)
      → t.operation ≡ c → IsAt w r es [] (after_check_by g t c)
  cleared_now fails none es t checked (CheckOver Clear) over = record {
    checks = es;
    entries = sym (append-nil es);
    cleared = subst (λ (m : Mode). IsCleared m r.missing w r.attempts es) (sym fails)
        (subst (λ o. IsCleared Fail o w r.attempts es) (sym none) (t, checked, over, checked_clear w r.attempts es t checked over));
    follows = tt;
    leads = ap (commit_start w) none;
  }
  cleared_now fails none es t checked _ over = (record { fails = fails; none = none; checked = checked }, refl)

  at_once : (m : Mode) → w.mode ≡ m → (o : Option ℕ) → r.missing ≡ o → IsCleared m o w r.attempts [] → Behind w r [] [] (commit_start w o)
  at_once m h o g e = grind arith

  pub begins : (b : Bool) → b ≡ true → (m : Mode) → w.mode ≡ m → (o : Option ℕ) → r.missing ≡ o → IsAt w r [] [] (commit_by g b m r o)
  begins b h m g o e = grind arith

  -- ---- one more entry

  pub more : (op : Operation) (es own : List Entry) (k : Known) (e : Entry) → IsAt w r es own op → asks g (who Driver) k op ≡ Some e.request
      → IsAt w r (es ++ e ∷ []) (commit_with op own e) (tells g (who Driver) op e.outcome)
  more (TheCheck t) es own k e h asked =
      let checked : Checked w r.attempts (es ++ e ∷ []) (next w t e.outcome) = (
        follows_more (wants_of (check_asks w)) (next w) (checking w r.attempts) es e h.0.checked.0
            (ap (λ (u : Retried Check). check_asks w u.operation) h.0.checked.1 ∙ asked),
        run_more (next w) (checking w r.attempts) es e ∙ ap (λ u. next w u e.outcome) h.0.checked.1,
      ) in
      subst (λ l. IsAt w r (es ++ e ∷ []) l (after_check_by g (next w t e.outcome) (next w t e.outcome).operation)) (sym h.1)
      (cleared_now h.0.fails h.0.none (es ++ e ∷ []) (next w t e.outcome) checked (next w t e.outcome).operation refl)
  more (TheCommit c) es own k e h asked = record {
    checks = h.checks;
    entries = ap (λ l. l ++ e ∷ []) h.entries ∙ append_assoc h.checks own (e ∷ []);
    cleared = h.cleared;
    follows = follows_more (commit_asks w) (commit_tells w) (commit_start w r.missing) own e h.follows (ap (commit_asks w) h.leads ∙ asked);
    leads = run_more (commit_tells w) (commit_start w r.missing) own e ∙ ap (λ v. commit_tells w v e.outcome) h.leads;
  }
  more _ es own k e h asked = absurd h

  -- ---- all entries

  goes : (before own es : List Entry) (m : Running) → IsAt w r before own m.operation → Follows (wants g Driver) (advance g Driver) m es
      → (mine : List Entry) × IsAt w r (before ++ es) mine (run (advance g Driver) m es).operation
  goes before own [] m h f = (own, subst (λ l. IsAt w r l own m.operation) (sym (append-nil before)) h)
  goes before own (e ∷ es) m h f =
      let x = goes (before ++ e ∷ []) (commit_with m.operation own e) es (advance g Driver m e.outcome)
      (more m.operation before own m.known e h f.0) f.1 in (
        x.0,
        subst (λ l. IsAt w r l x.0 (run (advance g Driver) (advance g Driver m e.outcome) es).operation)
            (append_assoc before (e ∷ []) es) x.1,
      )

  pub led : (k : Known) (es : List Entry) → Follows (wants g Driver) (advance g Driver) (record { operation = commit_of g r; known = k }) es
      → (own : List Entry) × IsAt w r es own (run (advance g Driver) (record { operation = commit_of g r; known = k }) es).operation
  led k es f = goes [] [] es (record { operation = commit_of g r; known = k }) (begins g.shared shared w.mode refl r.missing refl) f

-- ---- when it is over

module _ (w : Script) (r : Reports) (es own : List Entry) where
  pub commit_ended : (e : CommitEnd) (op : Operation) → IsAt w r es own op → over op ≡ Some (ends.Commit e)
      → Behind w r es own (CommitOver e) × (op ≡ TheCommit (CommitOver e))
  commit_ended e op h g = grind arith

  check_same : {a b : CheckEnd} → ends.Check a ≡ ends.Check b → a ≡ b
  check_same e = cc

  pub check_ended : (e : CheckEnd) (op : Operation) → IsAt w r es own op → over op ≡ Some (ends.Check e) → (t : Retried Check)
      × Within w r es t × (t.operation ≡ CheckOver e)
  check_ended e op h g = grind arith
