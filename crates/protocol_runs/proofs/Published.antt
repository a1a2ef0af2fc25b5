-- In a run, until the driver cleans up, an attempt's commit that is done has published its own set.
use Rattle.text_and_lists.proofs.Lists.{slice_last}
use Rattle.text_and_lists.proofs.Members.{false_true, none_some, some_is}
use Rattle.job_invariant.proofs.Closing.{attempt_closes, attempt_reverts, clean_begun, clean_closes, commit_closes, driver_closes}
use Rattle.job_invariant.proofs.Closing.{reverts_start}
use Rattle.job_invariant.proofs.Driving.{reads_drive}
use Rattle.job_invariant.proofs.JobCommitting.{commit_drives}
use Rattle.job_invariant.proofs.Remaining.{Stood, commit_kept_by, commit_stands, driver_stood, other_stood, strange_stood, write_kept}
use Rattle.job_invariant.proofs.Remaining.{write_stands}
use Rattle.job_invariant.proofs.Sharing.{check_plain, check_reads}
use Rattle.job_invariant.proofs.Whose.{put_at}
use Rattle.job_invariant.specs.Fits.{Fits}
use Rattle.job_invariant.specs.Standing.{Closed, CommitStandsBy, Reverts, WriteStands}
use Rattle.job_invariant.specs.Told.{driver_entry, entry, known, strange_entry}
use Rattle.job_model.specs.Attempts.{Who}
use Rattle.job_model.specs.JobScript.{Script}
use Rattle.job_model.specs.Legal.{IsLegal}
use Rattle.job_protocol.proofs.Begun.{after_check_so, clean_of_so, commit_of_so}
use Rattle.job_protocol.specs.JobCommits.{Commit}
use Rattle.job_protocol.specs.Operations.{Operation, Setting, TheCheck, TheCommit, TheSetup, TheTaskAbort, TheTaskCommit, TheWrite, asks}
use Rattle.job_protocol.specs.Operations.{tells, who}
use Rattle.job_protocol.specs.Seen.{Seen, Times, is_begun, is_publishing, see}
use Rattle.job_protocol.specs.Setup.{setup_after, setup_asks}
use Rattle.job_protocol.specs.TaskAborts.{task_abort_start}
use Rattle.job_protocol.specs.TaskCommits.{TaskCommitOver, task_commit_start}
use Rattle.job_protocol.specs.Writes.{write_start}
use Rattle.job_spec.specs.OperationEnds.{WasPublished}
use Rattle.protocol_runs.proofs.Changes.{earlier, moment_scene}
use Rattle.protocol_runs.proofs.EveryRun.{cleans_is, good, late, put_each}
use Rattle.protocol_runs.proofs.Folds.{AttemptKeeps, BeginKeeps, DriverKeeps, StrangerKeeps, commit_is, driven, each_run}
use Rattle.protocol_runs.proofs.Lists.{slice_front}
use Rattle.protocol_runs.proofs.Plain.{setup_plain}
use Rattle.protocol_runs.proofs.Running.{At, Late}
use Rattle.protocol_runs.specs.Runs.{BeginAbort, BeginClean, BeginCommit, BeginPublish, BeginSetup, BeginWrite, IsOpening, IsTimely, Runs}
use Rattle.protocol_runs.specs.Runs.{Stand, nothing_learnt, with_attempt}
use Rattle.retries.specs.Retries.{fresh, step}
use Rattle.s3_types.specs.Answer.{answer}
use Rattle.s3_types.specs.Moment.{IsHonestOutcome, is_effective}
use Rattle.s3_types.specs.Store.{Content}
use Rattle.s3_types.specs.declared.journal.Entry.{Entry}
use Rattle.s3_types.specs.declared.journal.Outcome.{Outcome}
use Rattle.s3_types.specs.declared.request.Actor.TheVariants.{Driver}
use Rattle.s3_types.specs.declared.request.Request.{Request}
use Rattle.std.proofs.Common.{Bool, List, None, Some, ap, arith, false, inl, inr, length, refl, subst, sym, true, ℕ, [], ◌++◌, ◌∙◌, ◌∷◌}
use Rattle.std.proofs.Common.{◌≡◌, ◌≤◌}
use Rattle.std.proofs.lemmas.Bool.{false≢true}
use Rattle.std.proofs.lemmas.List.{take-append-le}
use Rattle.std.proofs.lemmas.Option.{slice_get_within}
use Rattle.job_model.specs.declared.ends.TaskEnd.TheVariants as tasks
use Rattle.job_invariant.proofs.Remaining as remaining

-- What is published in a journal is published in a longer one.
pub longer_published : (w : Script) (opening : Content) (es more : List Entry) (t a n i : ℕ) (h : WasPublished w opening es t a n)
    → h.entry.event ≤ i → WasPublished w opening (es ++ more) t a i
longer_published w opening es more t a n i h g = grind (arith, slice_get_within, slice_front, take-append-le)

module _ (g : Setting) (k : Times) (opening : Content) (j : IsLegal g.script) (is_opening : IsOpening g opening) where
  abbrev w : Script
  w = g.script

  -- The attempt's own publishing request is one of these entries, and took effect.
  abbrev pub Own : List Entry → Who → Type 0
  Own es a = (n : ℕ) × WasPublished w opening es a.task a.attempt n

  own_more : (es : List Entry) (e : Entry) (a : Who) → Own es a → Own (es ++ e ∷ []) a
  own_more es e a h = (h.0, longer_published w opening es (e ∷ []) a.task a.attempt h.0 h.0 h.1 h.1.until)

  own_new : (es : List Entry) (x : Stand) → Runs g k opening es x → (a : Who) (n : ℕ) (r : Request) (o : Outcome)
      → is_publishing w x.seen.scene a.task r ≡ true → is_effective o ≡ true → Own (es ++ entry a n r o ∷ []) a
  own_new es x run a n r o publishes took = (
    n,
    record {
      m = length es;
      entry = entry a n r o;
      is_entry = slice_last es (entry a n r o);
      by = refl;
      until = omega arith;
      effective = took;
      publishes = ap (λ s. is_publishing w s a.task r) (earlier g k opening j is_opening es (entry a n r o) (length es) (omega arith) ∙
          moment_scene g k opening j is_opening es x run) ∙ publishes;
    },
  )

  abbrev pub StandsBy : Type 0 → Seen → Who → Operation → Type 0
  StandsBy P s a (TheWrite t) = WriteStands w s a t.operation
  StandsBy P s a (TheTaskCommit t) = CommitStandsBy P w s a t.repeated t.operation
  StandsBy P s a _ = Unit {0}

  stands_on : {P Q : Type 0} {s u : Seen} {a : Who} → Stood w a s u → (P → Q) → (op : Operation) → StandsBy P s a op → StandsBy Q u a op
  stands_on h keeps (TheWrite t) y = write_kept h t.operation y
  stands_on h keeps (TheTaskCommit t) y = commit_kept_by h keeps t.repeated t.operation y
  stands_on h keeps _ y = tt

  pub record Standing (es : List Entry) (x : Stand) : Type 0 where
    pub closed : Closed x.told
    pub reverts : (c : Commit) → x.driver ≡ Some (TheCommit c) → Reverts x.told.publish_sent x.told.drawn c
    pub stands : x.told.cleaned ≡ false → (a : Who) (op : Operation) → x.attempts a ≡ Some op → StandsBy (Own es a) x.seen a op

  -- ---- the driver

  driver_stands : DriverKeeps g k opening Standing
  driver_stands es x op n r o run d asked timely few honest h = elim (good g k opening j is_opening es x run) [
    | inl e ↦ elim e.setup [
      | inl none ↦ absurd (none_some none d)
      | inr y ↦
          let is : TheSetup y.0 ≡ op = some_is (sym y.1 ∙ d) in
          record {
            closed =
                driver_closes x.told n r o h.closed
                (λ id z. absurd (false_true ((setup_plain w y.0.operation r (ap (asks g (who Driver) nothing_learnt) is ∙ asked)).ends_none
                id) z));
            reverts = λ c z. let no : TheSetup (step w.retries (setup_after w) y.0 o) ≡ TheCommit c = ap (λ v. tells g (who Driver) v o) is
                ∙ some_is z in absurd cc;
            stands = λ c a mine z. absurd (none_some (e.none a) z);
          }
    ]
    | inr l ↦ by op l (subst (λ v. At g opening v x.seen x.told) d l.driver) d asked timely
  ]
    where
      at : is_begun k.clean n ≡ true → is_begun x.told.cleans_at n ≡ true
      at e = ap (λ c. is_begun c n) (cleans_is g k opening j is_opening es x run) ∙ e

      by : (op : Operation) → Late g opening x → At g opening (Some op) x.seen x.told → x.driver ≡ Some op
          → asks g (who Driver) nothing_learnt op ≡ Some r → IsTimely k n op
          → Standing (es ++ driver_entry n r o ∷ []) (driven g k opening x op n r o)
      by (TheSetup t) l y d asked timely = absurd (none_some (ap (setup_asks w) y.0) asked)
      by (TheCommit c) l y d asked timely =
          let both = commit_closes g j x.seen x.told l.hold h.closed c y.fits y.tabled (h.reverts c d) r asked n o in
          record {
            closed = both.0;
            reverts = λ v z. subst (Reverts x.told.publish_sent x.told.drawn) (commit_is z) both.1;
            stands = λ v a mine z. stands_on (driver_stood w j k x.seen a n l.hold.there r
                (commit_drives w g.minimum k x.seen x.told n j l.hold c y.fits r asked) o) (own_more es (driver_entry n r o) a) mine
                (h.stands y.uncleaned a mine z);
          }
      by (TheCheck t) l y d asked timely = record {
        closed = driver_closes x.told n r o h.closed (λ id z. absurd (false_true ((check_plain w t.operation r asked).ends_none id) z));
        reverts = after_check_so g (λ op. (c : Commit) → Some op ≡ Some (TheCommit c) → Reverts x.told.publish_sent x.told.drawn c)
            (λ c z. subst (Reverts x.told.publish_sent x.told.drawn) (commit_is z) (reverts_start w x.told.publish_sent x.told.drawn None))
            (λ u c z. absurd cc) _;
        stands = λ v a mine z. stands_on (driver_stood w j k x.seen a n l.hold.there r
            (reads_drive w r (check_reads g j t.operation r asked)) o) (own_more es (driver_entry n r o) a) mine
            (h.stands y.uncleaned a mine z);
      }
      by (TheWrite t) l y d asked timely = absurd y
      by (TheTaskCommit t) l y d asked timely = absurd y
      by (TheTaskAbort t) l y d asked timely = absurd y
      by _ l y d asked timely = record {
        closed = clean_closes x.told n (at timely) r o;
        reverts = λ v z. absurd cc;
        stands = λ v a mine z. absurd (false_true v (clean_begun x.told n (at timely) r o));
      }

  -- ---- an attempt

  own_stands : (es : List Entry) (x : Stand) → Runs g k opening es x → Standing es x → x.told.cleaned ≡ false → Late g opening x
      → (a : Who) (op : Operation) → Fits w g.minimum a x.told op → StandsBy (Own es a) x.seen a op → (n : ℕ) (r : Request)
      → asks g a (known x.told a) op ≡ Some r
      → (o : Outcome) → IsHonestOutcome o (answer x.seen.scene r)
      → StandsBy (Own (es ++ entry a n r o ∷ []) a) (see w k x.seen (entry a n r o)) a (tells g a op o)
  own_stands es x run h before l a (TheSetup t) fits y n r asked o honest = tt
  own_stands es x run h before l a (TheWrite t) fits y n r asked o honest = write_stands w g.minimum k x.seen x.told a n j l.hold h.closed
      before fits.0 w.retries t.spare t.repeated t.operation fits.1 y r asked o honest
  own_stands es x run h before l a (TheTaskCommit t) fits y n r asked o honest =
      commit_stands w g.minimum k x.seen x.told a n j l.hold h.closed before fits.0 w.retries t.spare t.repeated (Own es a)
      (λ q v. Own (es ++ entry a n q v ∷ []) a)
      (λ q v. own_more es (entry a n q v) a) (λ q p v took. own_new es x run a n q v p took) t.operation fits.1 y r asked o honest
  own_stands es x run h before l a (TheTaskAbort t) fits y n r asked o honest = tt
  own_stands es x run h before l a _ fits y n r asked o honest = absurd fits

  begins_stands : (es : List Entry) (x : Stand) → Standing es x → (a : Who) (op : Operation)
      → (x.told.cleaned ≡ false → StandsBy (Own es a) x.seen a op) → Standing es (with_attempt x a op)
  begins_stands es x h a op here = record {
    closed = h.closed;
    reverts = h.reverts;
    stands = λ c. put_at (λ b. StandsBy (Own es b) x.seen b) x.attempts a op (here c) (h.stands c);
  }

  stands_begin : BeginKeeps g k opening Standing
  stands_begin es x BeginSetup run may h = record { closed = h.closed; reverts = λ c e. absurd cc; stands = h.stands }
  stands_begin es x (BeginCommit reports) run may h = record {
    closed = h.closed;
    reverts = commit_of_so g (λ op. (c : Commit) → Some op ≡ Some (TheCommit c) → Reverts x.told.publish_sent x.told.drawn c)
        (λ missing c e. subst (Reverts x.told.publish_sent x.told.drawn) (commit_is e)
        (reverts_start w x.told.publish_sent x.told.drawn missing)) (λ t c e. absurd cc) reports;
    stands = h.stands;
  }
  stands_begin es x BeginClean run may h = record {
    closed = h.closed;
    reverts = clean_of_so g
        (λ op. (c : Commit) → Some op ≡ Some (TheCommit c) → Reverts x.told.publish_sent x.told.drawn c) (λ c e. absurd cc)
        (λ c e. absurd cc);
    stands = h.stands;
  }
  stands_begin es x (BeginWrite a) run may h = begins_stands es x h a (TheWrite (fresh w.retries (write_start w a)))
      (λ c. remaining.write_begins w x.seen a)
  stands_begin es x (BeginPublish a) run may h =
      begins_stands es x h a (TheTaskCommit (fresh w.retries (task_commit_start w a)))
      (λ c. remaining.commit_begins (Own es a) w j x.seen a (h.stands c a _ may.1.2))
  stands_begin es x (BeginAbort a) run may h = begins_stands es x h a (TheTaskAbort (fresh w.retries (task_abort_start w (known x.told a))))
      (λ c. tt)

  -- ---- a stranger

  strays_stand : StrangerKeeps g k opening Standing
  strays_stand es x n r o run f h = record {
    closed = h.closed;
    reverts = h.reverts;
    stands = λ c a op e. elim (good g k opening j is_opening es x run) [
      | inl l ↦ absurd (none_some (l.none a) e)
      | inr l ↦ stands_on (strange_stood w j k x.seen a n l.hold.there r x.told.drawn f o) (own_more es (strange_entry n r o) a) op
          (h.stands c a op e)
    ];
  }

  attempt_stands : AttemptKeeps g k opening Standing
  attempt_stands es x a op n r o run set at asked honest h =
      let l = late g k opening j is_opening x (good g k opening j is_opening es x run) set in
      let f = l.fine a op at in
      record {
        closed = attempt_closes g x.told a op f.1 r asked o h.closed;
        reverts = λ c e. attempt_reverts g x.told a op f.1 r asked o c (h.reverts c e);
        stands = λ c. put_each (λ b. StandsBy (Own (es ++ entry a n r o ∷ []) b) (see w k x.seen (entry a n r o)) b) x.attempts a
            (tells g a op o) (own_stands es x run h c l a op f.1 (h.stands c a op at) n r asked o honest)
            (λ b ne mine old. stands_on (other_stood g j k x.seen x.told b a n l.hold.there (l.fine b mine old).0 f.0 ne op f.1 r asked o)
            (own_more es (entry a n r o) b) mine (h.stands c b mine old));
      }

  pub standing : (es : List Entry) (x : Stand) → Runs g k opening es x → Standing es x
  standing = each_run g k opening Standing (record {
    closed = λ c id e. absurd (false≢true e);
    reverts = λ c e. absurd (none_some refl e);
    stands = λ c a op e. absurd (none_some refl e);
  }) stands_begin driver_stands attempt_stands strays_stand

  -- A commit that is done has published.
  pub has_published : (es : List Entry) (x : Stand) → Runs g k opening es x → x.told.cleaned ≡ false
      → (a : Who) (spare : ℕ) (repeated : Bool) → x.attempts a ≡ Some (TheTaskCommit
      (record { operation = TaskCommitOver tasks.Done; spare = spare; repeated = repeated })) → Own es a
  has_published es x run before a spare repeated at = ((standing es x run).stands before a _ at).1 refl
