-- One entry of the driver's commit, and where it leads with the sets that the commit has read.
use Rattle.text_and_lists.proofs.Members.{none_some, some_is, text_true}
use Rattle.job_invariant.proofs.Shapes.{puts}
use Rattle.job_invariant.proofs.Turning.{uploads_apart}
use Rattle.job_invariant.specs.Driver.{FitsJobCommit}
use Rattle.job_invariant.specs.Facts.{Hold}
use Rattle.job_invariant.specs.Filed.{Decides}
use Rattle.job_invariant.specs.Stores.{at_key}
use Rattle.job_invariant.specs.Told.{Told, driver_entry}
use Rattle.job_model.specs.JobScript.{Script}
use Rattle.job_model.specs.Legal.{IsLegal}
use Rattle.job_model.specs.declared.ends.CommitEnd.{CommitEnd}
use Rattle.job_model.specs.declared.ends.FaultStage.{FaultStage}
use Rattle.job_outcomes.specs.CommitRuns.{IsAt, WhereCommitted}
use Rattle.job_protocol.specs.JobCommits.{Commit, CommitOver, Completing, Fetching, Marking, Sets, all_commits, commit_asks, commit_start}
use Rattle.job_protocol.specs.JobCommits.{commit_tells, fetching, picks_of}
use Rattle.job_protocol.specs.LaneTable.{AllSound, RequestsApart, Sound}
use Rattle.job_protocol.specs.Lanes.{completion, nth}
use Rattle.job_protocol.specs.Outputs.{same_path}
use Rattle.job_protocol.specs.Records.{mark_text}
use Rattle.job_protocol.specs.Seen.{Seen, Times, is_marked, is_marking, see}
use Rattle.job_spec.specs.Ends.{commit_due, end_or, is_driver, is_mark_answered}
use Rattle.protocol_runs.proofs.Leads.{Enters, Leads, enters, fetches, is_marked as marked_now, is_reverted, leads, mark_worn, none_reverts}
use Rattle.protocol_runs.proofs.Leads.{read_worn, reads_none, reverts, stays_over, sweep_worn}
use Rattle.retries.proofs.SameRequest.{same_is}
use Rattle.retries.specs.Operation.{run}
use Rattle.s3_types.specs.Answer.{apply}
use Rattle.s3_types.specs.Moment.{is_unanswered}
use Rattle.s3_types.specs.declared.journal.Entry.{Entry}
use Rattle.s3_types.specs.declared.journal.Outcome.{Outcome}
use Rattle.s3_types.specs.declared.journal.Outcome.TheVariants.{Answered}
use Rattle.s3_types.specs.declared.reply.Reply.{Reply}
use Rattle.s3_types.specs.declared.request.Request.{Request}
use Rattle.s3_types.specs.declared.request.Request.TheVariants.{CompleteUpload}
use Rattle.std.proofs.Common.{Bool, List, None, Option, Some, ap, arith, false, length, not, refl, subst, sym, true, ℕ, [], ◌&&◌, ◌++◌, ◌<◌}
use Rattle.std.proofs.Common.{◌||◌, ◌∙◌, ◌∷◌, ◌≡◌}
use Rattle.std.proofs.Math.Bool.{or-true}
use Rattle.std.specs.List.{list_any}
use Rattle.std.specs.Option.{is_some}
use Rattle.store_frame.specs.Held.{HasBucket}
use Rattle.magic_paths.specs.Layout as layout
use Rattle.job_model.specs.declared.ends.CommitEnd.TheVariants as commits
use Rattle.job_model.specs.declared.ends.FaultStage.TheVariants as stages

-- ---- where outcomes lead with the sets

module _ (w : Script) where
  none_due : (missing : Option ℕ) (sets : Sets) (end : CommitEnd) → missing ≡ None → (o : Option CommitEnd)
      → same_path w (picks_of sets) ≡ o → end ≡ end_or o commits.Committed → end ≡ commit_due w (picks_of sets) missing None
  none_due missing sets end m o e is = is ∙ ap (λ v. end_or v commits.Committed) (sym e) ∙ ap (λ v. commit_due w (picks_of sets) v None)
      (sym m)

  at_enters : (missing : Option ℕ) (sets : Sets) → missing ≡ None → {d : Commit} → Enters w sets d → IsAt w missing sets d
  at_enters missing sets h g = grind arith

  pub at_fetching : (missing : Option ℕ) (sets : Sets) → missing ≡ None → IsAt w missing sets (fetching w sets)
  at_fetching missing sets m = at_enters missing sets m (enters w sets)

  pub at_start : (missing : Option ℕ) → IsAt w missing [] (commit_start w missing)
  at_start missing = grind arith

  -- The outcome is an answer to a read.
  abbrev pub IsRead : Commit → Outcome → Type 0
  IsRead (Fetching sets n) (Answered x) = Unit {0}
  IsRead _ _ = ⊥

  module _ (minimum : ℕ) (m : Told) where
    abbrev D : Commit → Type 0
    D c = Decides w minimum m.publish_sent m.drawn c

    at_leads : (missing : Option ℕ) (sets : Sets) {c d : Commit} {o : Outcome} → Leads w c o d → (IsRead c o → ⊥) → D c
        → IsAt w missing sets c → IsAt w missing sets d
    at_leads missing sets (fetches y e n) unread d h = absurd (unread tt)
    at_leads missing sets (reads_none e) unread d h = absurd (unread tt)
    at_leads missing sets marked_now unread d h = none_due missing sets commits.Committed h.0 None
        (ap (λ v. same_path w (picks_of v)) (sym h.1) ∙ d.apart) refl
    at_leads missing sets read_worn unread d h = (h.0, subst (λ l. length l < w.tasks) h.1 d)
    at_leads missing sets sweep_worn unread d h = h.0
    at_leads missing sets mark_worn unread d h = h.0
    at_leads missing sets reverts unread d h = h.0
    at_leads missing sets none_reverts unread d h = h.0
    at_leads missing sets _ unread d h = h

    pub at_tells : (missing : Option ℕ) (sets : Sets) (c : Commit) (o : Outcome) → (IsRead c o → ⊥) → D c → IsAt w missing sets c
        → IsAt w missing sets (commit_tells w c o)
    at_tells missing sets c o unread d h = at_leads missing sets (leads w c o) unread d h

-- ---- how it may end

-- If the commit is over, P holds of its end.
abbrev pub EndsBy : (CommitEnd → Type 0) → Commit → Type 0
EndsBy P (CommitOver end) = P end
EndsBy P _ = Unit {0}

-- The outcome is an answer to the put of the marker.
abbrev pub IsMarkAnswer : Commit → Outcome → Type 0
IsMarkAnswer (Marking s n) (Answered x) = Unit {0}
IsMarkAnswer _ _ = ⊥

module _ (w : Script) (P : CommitEnd → Type 0) (fault : (t : FaultStage) → P (commits.StoreFault t))
    (shared : (p : List ℕ) (t u : ℕ) → P (commits.SamePath p t u)) where
  by_enters : {sets : Sets} {d : Commit} → Enters w sets d → EndsBy P d
  by_enters h = grind arith

  pub by_fetching : (s : Sets) → EndsBy P (fetching w s)
  by_fetching s = by_enters (enters w s)

  by_leads : {c d : Commit} {o : Outcome} → Leads w c o d → (IsMarkAnswer c o → P commits.Committed) → EndsBy P c → EndsBy P d
  by_leads (fetches y e n) mark h = by_enters n
  by_leads marked_now mark h = mark tt
  by_leads is_reverted mark h = fault stages.Complete
  by_leads none_reverts mark h = fault stages.Complete
  by_leads read_worn mark h = fault stages.Read
  by_leads sweep_worn mark h = fault stages.Delete
  by_leads mark_worn mark h = fault stages.Success
  by_leads stays_over mark h = h
  by_leads _ mark h = tt

  pub by_tells : (c : Commit) (o : Outcome) → (IsMarkAnswer c o → P commits.Committed) → EndsBy P c → EndsBy P (commit_tells w c o)
  by_tells c o mark h = by_leads (leads w c o) mark h

-- ---- the task that was missing

abbrev NotMissing : CommitEnd → Type 0
NotMissing (commits.Missing t) = ⊥
NotMissing _ = Unit {0}

module _ (w : Script) where
  not_run : (c : Commit) (es : List Entry) → EndsBy NotMissing c → EndsBy NotMissing (run (commit_tells w) c es)
  not_run c [] h = h
  not_run c (e ∷ es) h = not_run (commit_tells w c e.outcome) es (by_tells w NotMissing (λ t. tt) (λ p t u. tt) c e.outcome (λ i. tt) h)

  over_run : (end : CommitEnd) (es : List Entry) → run (commit_tells w) (CommitOver end) es ≡ CommitOver end
  over_run end [] = refl
  over_run end (e ∷ es) =
      ap (λ c. run (commit_tells w) c es) (elim e.outcome as (λ o. commit_tells w (CommitOver end) o ≡ CommitOver end)
      [ Answered x ↦ refl | _ ↦ refl ]) ∙ over_run end es

  missing_over : (t : ℕ) (es : List Entry) → run (commit_tells w) (CommitOver (commits.Missing t)) es ≡ run (commit_tells w)
      (commit_start w None) es → ⊥
  missing_over t es e = subst (EndsBy NotMissing) (sym e ∙ over_run (commits.Missing t) es)
      (not_run (commit_start w None) es (by_fetching w NotMissing (λ t. tt) (λ p t u. tt) []))

  pub one_start : (a b : Option ℕ) (es : List Entry)
      → run (commit_tells w) (commit_start w a) es ≡ run (commit_tells w) (commit_start w b) es → a ≡ b
  one_start a b es h = grind (arith, missing_over, over_run)

-- ---- the marker

abbrev NotCommitted : CommitEnd → Type 0
NotCommitted commits.Committed = ⊥
NotCommitted _ = Unit {0}

uncommitted : (P : Type 0) (c : Commit) → EndsBy NotCommitted c → WhereCommitted P c
uncommitted P c h = grind arith

pub where_on : {P Q : Type 0} → (P → Q) → (c : Commit) → WhereCommitted P c → WhereCommitted Q c
where_on h c g = grind arith

pub where_start : (P : Type 0) (w : Script) (missing : Option ℕ) → WhereCommitted P (commit_start w missing)
where_start P w missing = grind arith

any_last : (p : Entry → Bool) (es : List Entry) (e : Entry) → p e ≡ true → list_any p (es ++ e ∷ []) ≡ true
any_last p [] e h = ap (λ b. b || false) h
any_last p (x ∷ es) e h = ap (λ b. p x || b) (any_last p es e h) ∙ or-true (p x)

module _ (w : Script) (k : Times) (s : Seen) (there : HasBucket s.scene.content w.dest.bucket) (n : ℕ) (r : Request) (es : List Entry) where
  marks_request : (sets : Sets) (x : ℕ) → commit_asks w (Marking sets x) ≡ Some r → is_marking w r ≡ true
  marks_request sets x asked = ap (is_marking w) (sym (some_is asked)) ∙ rw (
    text_true w.dest.bucket w.dest.bucket refl,
    text_true
        (layout.success_key w.dest.key) (layout.success_key w.dest.key) refl,
  ) refl

  -- The answer to the put of the marker.
  put_stands : (sets : Sets) (x : ℕ) → commit_asks w (Marking sets x) ≡ Some r → (y : Reply)
      → is_marked w (see w k s (driver_entry n r (Answered y))) ≡ true
  put_stands sets x asked y =
      ap (λ b. (s.put_mark || b) && is_some (at_key w (apply s.scene r).content (layout.success_key w.dest.key)))
      (marks_request sets x asked)
      ∙ ap (λ o. (s.put_mark || true) && is_some o) (ap (λ q. at_key w (apply s.scene q).content (layout.success_key w.dest.key))
      (sym (some_is asked)) ∙ (puts w s.scene there.0 there.1 (layout.success_key w.dest.key) (mark_text w (picks_of sets)) None).here)
      ∙ ap (λ b. b && true) (or-true s.put_mark)

  -- After one more entry of the commit.
  where_next : (P : Outcome → Type 0) → ((sets : Sets) (x : ℕ) → commit_asks w (Marking sets x) ≡ Some r → (y : Reply) → P (Answered y))
      → (c : Commit) → commit_asks w c ≡ Some r → (o : Outcome) → WhereCommitted (P o) (commit_tells w c o)
  where_next P put (Marking sets x) asked (Answered y) = put sets x asked y
  where_next P put (CommitOver end) asked o = absurd (none_some refl asked)
  where_next P put c asked o = uncommitted (P o) (commit_tells w c o) (by_tells w NotCommitted (λ t. tt) (λ p t u. tt) c o (λ i. i) tt)

  pub answered_next : (c : Commit) → commit_asks w c ≡ Some r → (o : Outcome)
      → WhereCommitted (is_mark_answered w (es ++ driver_entry n r o ∷ []) ≡ true) (commit_tells w c o)
  answered_next = where_next (λ o. is_mark_answered w (es ++ driver_entry n r o ∷ []) ≡ true) (λ sets x asked y.
      any_last (λ e. is_driver e.actor && (is_marking w e.request && not (is_unanswered e.outcome))) es (driver_entry n r (Answered y))
      (ap (λ b. b && true) (marks_request sets x asked)))

  pub marked_next : (c : Commit) → commit_asks w c ≡ Some r → (o : Outcome)
      → WhereCommitted (is_marked w (see w k s (driver_entry n r o)) ≡ true) (commit_tells w c o)
  marked_next = where_next (λ o. is_marked w (see w k s (driver_entry n r o)) ≡ true) put_stands

-- ---- its requests

upload_of : Request → ℕ
upload_of (CompleteUpload bucket key id parts) = id
upload_of _ = 0

module _ (w : Script) (minimum : ℕ) (s : Seen) (m : Told) (j : IsLegal w) (f : Hold w minimum s m) where
  -- The completions of two of its uploads are two requests.
  apart_of : (sets : Sets) → FitsJobCommit w minimum m.publish_sent m.drawn (Marking sets 0) → RequestsApart sets
  unfolding upload_of
  apart_of sets reads = λ i n low high e. uploads_apart w minimum s m j f sets reads i n low high
      (ap upload_of (same_is (completion (nth (all_commits sets) i)) (completion (nth (all_commits sets) n)) e))

  pub sound_now : (c : Commit) → FitsJobCommit w minimum m.publish_sent m.drawn c → Sound c
  sound_now (Completing sets x xs finished) fits = apart_of sets fits
  sound_now _ fits = tt

-- One more entry, if the commit was sound before it.
pub sound_more : (w : Script) (c : Commit) (es : List Entry) (e : Entry) → AllSound w c es → Sound (run (commit_tells w) c es)
    → AllSound w c (es ++ e ∷ [])
sound_more w c [] e h s = (s, tt)
sound_more w c (x ∷ es) e h s = (h.0, sound_more w (commit_tells w c x.outcome) es e h.1 s)
