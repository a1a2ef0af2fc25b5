-- The driver's commit in every run.
use Rattle.text_and_lists.proofs.Members.{false_true, none_or_some, none_some, same_or_not}
use Rattle.job_invariant.proofs.Legal.{some_dest}
use Rattle.job_invariant.proofs.Owning.{operation_own}
use Rattle.job_invariant.proofs.Sharing.{check_plain}
use Rattle.job_invariant.specs.Stores.{at_key}
use Rattle.job_invariant.specs.Told.{driver_entry, entry}
use Rattle.job_model.specs.Attempts.{Who}
use Rattle.job_model.specs.JobScript.{Script}
use Rattle.job_model.specs.Legal.{IsLegal}
use Rattle.job_model.specs.declared.ends.CommitEnd.{CommitEnd}
use Rattle.job_outcomes.proofs.CommitSteps.{answered_next, at_start, marked_next, one_start, sound_more, sound_now, where_on, where_start}
use Rattle.job_outcomes.proofs.Picks.{after_entry}
use Rattle.job_outcomes.proofs.Shared.{same_shared}
use Rattle.job_outcomes.specs.CommitRuns.{CommitRuns, CommitStands, EndsDue, IsDue, PicksGrow, PicksOneMore, WhereCommitted}
use Rattle.job_protocol.proofs.Begun.{after_check_so, clean_of_so, commit_of_so}
use Rattle.job_protocol.proofs.LaneEnds.{ends_by_worn}
use Rattle.job_protocol.specs.JobCommits.{Commit, CommitOver, commit_asks, commit_over, commit_start, commit_tells, picks_of}
use Rattle.job_protocol.specs.LaneTable.{AllSound, Sound}
use Rattle.job_protocol.specs.OperationLaws.{EndIs}
use Rattle.job_protocol.specs.Operations.{Operation, Setting, TheCheck, TheCommit, tells, who}
use Rattle.job_protocol.specs.Outputs.{Picks}
use Rattle.job_protocol.specs.Rechecks.{check_after}
use Rattle.job_protocol.specs.Seen.{Seen, Times, is_marked, see}
use Rattle.job_spec.specs.Ends.{CommitEnded, commit_due, end_or, is_mark_answered}
use Rattle.job_spec.specs.Entries.{AreOwn}
use Rattle.job_spec.specs.Promise.{picked, picks_below}
use Rattle.protocol_runs.proofs.Entries.{in_commit}
use Rattle.protocol_runs.proofs.EveryRun.{check_unsent, checked_idle, cleans_is, good, just_idle, just_set, late, own_front, own_last}
use Rattle.protocol_runs.proofs.Folds.{BeginKeeps, DriverKeeps, commit_is, each_run}
use Rattle.protocol_runs.proofs.Keeping.{attempt_quiet}
use Rattle.protocol_runs.proofs.Plain.{clean_plain, entry_picks, plain_picks, setup_plain}
use Rattle.protocol_runs.proofs.Running.{At}
use Rattle.protocol_runs.proofs.Steps.{commit_picks}
use Rattle.protocol_runs.specs.Runs.{BeginClean, BeginCommit, BeginSetup, Beginning, IsOpening, IsTimely, Runs, Stand, begin, is_just_set}
use Rattle.protocol_runs.specs.Runs.{is_set, saw, with_commit, with_driver}
use Rattle.magic_paths.proofs.Tails.{key_magic}
use Rattle.magic_paths.specs.Layout.{success_key}
use Rattle.magic_paths.specs.Places.{SuccessPlace}
use Rattle.retries.proofs.First.{none_sent}
use Rattle.retries.proofs.Runs.{follows_more, run_more}
use Rattle.retries.specs.Operation.{Follows, run}
use Rattle.retries.specs.Retries.{step}
use Rattle.retries.specs.Worn.{WornFirst}
use Rattle.s3_types.specs.Answer.{answer}
use Rattle.s3_types.specs.Moment.{IsHonestOutcome}
use Rattle.s3_types.specs.Store.{Content}
use Rattle.s3_types.specs.declared.journal.Entry.{Entry}
use Rattle.s3_types.specs.declared.journal.Outcome.{Outcome}
use Rattle.s3_types.specs.declared.request.Actor.TheVariants.{Driver}
use Rattle.s3_types.specs.declared.request.Request.{Request}
use Rattle.std.proofs.Common.{List, None, Option, Some, ap, append-nil, arith, inl, inr, length, refl, subst, suc, sym, true, zero, ℕ, []}
use Rattle.std.proofs.Common.{◌&&◌, ◌++◌, ◌<◌, ◌^◌, ◌∙◌, ◌∷◌, ◌≡◌, ◌≤◌}
use Rattle.std.specs.Option.{is_some}
use Rattle.job_model.specs.declared.ends.CommitEnd.TheVariants as commits

pub attempts_leave : (w : Script) (k : Times) (s : Seen) (a : Who) (n : ℕ) (r : Request) (o : Outcome)
    → (see w k s (entry a n r o)).picks ≡ s.picks
attempts_leave w k s a n r o = λ i t. entry_picks w k s (entry a n r o) (λ e. absurd cc) t i

module _ (g : Setting) (j : IsLegal g.script) (k : Times) (opening : Content) (is_opening : IsOpening g opening) where
  abbrev w : Script
  w = g.script

  abbrev Stood : Stand → Type 0
  Stood x = (c : Commit) → x.driver ≡ Some (TheCommit c) → CommitStands g x c

  -- ---- its first state

  first_stand : (y : Stand) (missing : Option ℕ) → ((t : ℕ) → y.seen.picks t ≡ None) → y.commit ≡ []
      → CommitStands g y (commit_start w missing)
  first_stand y missing none unsent = record {
    missing = missing;
    follows = subst (Follows (commit_asks w) (commit_tells w) (commit_start w missing)) (sym unsent) tt;
    leads = ap (run (commit_tells w) (commit_start w missing)) unsent;
    sound = subst (AllSound w (commit_start w missing)) (sym unsent) tt;
    sets = [];
    at = at_start w missing;
    picks = λ t l. none t;
    answered = where_start _ w missing;
  }

  unpicked : (es : List Entry) (y : Stand) → Runs g k opening es y → is_just_set y.driver ≡ true → (t : ℕ) → y.seen.picks t ≡ None
  unpicked es y run just =
      let l = late g k opening j is_opening y (good g k opening j is_opening es y run) (just_set y.driver just) in
      (just_idle g k opening j is_opening y.driver y.seen y.told l.driver just).unpicked

  -- ---- one of its entries

  module _ (es : List Entry) (x : Stand) (runs : Runs g k opening es x) (c : Commit) (d : x.driver ≡ Some (TheCommit c))
      (old : CommitStands g x c) (n : ℕ) (r : Request) (o : Outcome) (asked : commit_asks w c ≡ Some r)
      (timely : IsTimely k n (TheCommit c)) (few : x.seen.scene.content.next ≤ 2 ^ 64) (honest : IsHonestOutcome o (answer x.seen.scene r))
    where
      abbrev next : Stand
      next = with_commit (with_driver (saw g k x (driver_entry n r o)) (TheCommit (commit_tells w c o)))
          (x.commit ++ driver_entry n r o ∷ [])

      abbrev first : Commit
      first = commit_start w old.missing

      sends_on : CommitStands g next (commit_tells w c o)
      sends_on =
          let l = in_commit g k opening j is_opening es x runs c d in
          let a = after_entry g j k x.seen x.told l.0 l.2.uncleaned few n (commit_picks k x.seen.begun n timely.0 timely.1) old.missing
          old.sets c l.2.decides old.at old.picks r asked o honest in
          record {
            missing = old.missing;
            follows = follows_more (commit_asks w) (commit_tells w) first x.commit (driver_entry n r o) old.follows
                (ap (commit_asks w) old.leads ∙ asked);
            leads = run_more (commit_tells w) first x.commit (driver_entry n r o) ∙ ap (λ v. commit_tells w v o) old.leads;
            sound = sound_more w first x.commit (driver_entry n r o) old.sound (subst Sound (sym old.leads)
                (sound_now w g.minimum x.seen x.told j l.0 c l.2.fits));
            sets = a.sets;
            at = a.at;
            picks = a.picks;
            answered = answered_next w k x.seen l.0.there n r x.commit c asked o;
          }

      pub picks_on : PicksGrow w x.seen.picks (see w k x.seen (driver_entry n r o)).picks c (commit_tells w c o)
      picks_on = let l = in_commit g k opening j is_opening es x runs c d in (after_entry g j k x.seen x.told l.0 l.2.uncleaned few n
          (commit_picks k x.seen.begun n timely.0 timely.1) old.missing old.sets c l.2.decides old.at old.picks r asked o honest).grows

  driver_on : DriverKeeps g k opening (λ es x. Stood x)
  driver_on es x (TheCommit c) n r o runs d asked timely few honest old v e =
      subst (CommitStands g _) (commit_is e) (sends_on es x runs c d (old c d) n r o asked timely few honest)
  driver_on es x (TheCheck t) n r o runs d asked timely few honest old v e =
      let l = late g k opening j is_opening x (good g k opening j is_opening es x runs) (ap is_set d) in
      let i = subst (λ v. At g opening v x.seen x.told) d l.driver in
      let now = checked_idle g k opening j is_opening x (cleans_is g k opening j is_opening es x runs) n r o
      (check_plain w t.operation r asked) timely.1 i in
      let next = with_commit (with_driver (saw g k x (driver_entry n r o)) (tells g (who Driver) (TheCheck t) o)) x.commit in
      after_check_so g (λ op. Some op ≡ Some (TheCommit v) → CommitStands g next v)
      (λ e. subst (CommitStands g next) (commit_is e) (first_stand next None now.unpicked
      (check_unsent g k opening j is_opening es x runs t d))) (λ u e. absurd cc) (step w.retries (check_after w) t o) e
  driver_on es x _ n r o runs d asked timely few honest old v e = absurd cc

  -- ---- entries of others, and operations that begin beside it

  same_stand : (x y : Stand) → ((t : ℕ) → y.seen.picks t ≡ x.seen.picks t) → y.commit ≡ x.commit → (c : Commit) → CommitStands g x c
      → CommitStands g y c
  same_stand x y h g c e = grind arith

  begins_on : BeginKeeps g k opening (λ es x. Stood x)
  begins_on es x BeginSetup runs may old c e = absurd cc
  begins_on es x (BeginCommit reports) runs may old c e =
      let y = begin g x (BeginCommit reports) in
      commit_of_so g (λ op. Some op ≡ Some (TheCommit c) → CommitStands g y c)
      (λ missing e. subst (CommitStands g y) (commit_is e) (first_stand y missing (unpicked es x runs may) refl)) (λ t e. absurd cc)
      reports e
  begins_on es x BeginClean runs may old c e = absurd (clean_of_so g (λ op. Some op ≡ Some (TheCommit c) → ⊥) (λ e. absurd cc)
      (λ e. absurd cc) e)
  begins_on es x b runs may old c e = same_stand x (begin g x b) (λ t. refl) refl c (old c e)

  -- ---- every run

  pub stood : (es : List Entry) (x : Stand) → Runs g k opening es x → Stood x
  stood = each_run g k opening (λ es x. Stood x) (λ c e. absurd (none_some refl e)) begins_on driver_on
      (λ es x a op n r o run set at asked honest h c e. same_stand x _ (λ t. ap (λ (p : Picks). p t) (attempts_leave w k x.seen a n r o))
      refl c (h c e))
      (λ es x n r o run f h c e. same_stand x _ (λ t. refl) refl c (h c e))

  -- ---- the marker exists, if no stranger sends

  abbrev Marked : Stand → Type 0
  Marked x = (c : Commit) → x.driver ≡ Some (TheCommit c) → WhereCommitted (is_marked w x.seen ≡ true) c

  mark_begins : (x : Stand) → Marked x → (b : Beginning) → Marked (begin g x b)
  mark_begins x old BeginSetup c e = absurd cc
  mark_begins x old (BeginCommit reports) c e = commit_of_so g (λ op. Some op ≡ Some (TheCommit c) → WhereCommitted
      (is_marked w x.seen ≡ true) c) (λ missing e. subst (WhereCommitted (is_marked w x.seen ≡ true)) (commit_is e)
      (where_start _ w missing)) (λ t e. absurd cc) reports e
  mark_begins x old BeginClean c e = absurd (clean_of_so g (λ op. Some op ≡ Some (TheCommit c) → ⊥) (λ e. absurd cc) (λ e. absurd cc) e)
  mark_begins x old _ c e = old c e

  mark_driver : DriverKeeps g k opening (λ es x. AreOwn es → Marked x)
  mark_driver es x (TheCommit v) n r o runs d asked timely few honest old own c e =
      subst (WhereCommitted (is_marked w (see w k x.seen (driver_entry n r o)) ≡ true)) (commit_is e)
      (marked_next w k x.seen (in_commit g k opening j is_opening es x runs v d).0.there n r x.commit v asked o)
  mark_driver es x (TheCheck t) n r o runs d asked timely few honest old own c e =
      let P : Operation → Type 0 = λ op. Some op ≡ Some (TheCommit c)
      → WhereCommitted (is_marked w (see w k x.seen (driver_entry n r o)) ≡ true) c in
      after_check_so g P (λ e. subst (WhereCommitted (is_marked w (see w k x.seen (driver_entry n r o)) ≡ true)) (commit_is e)
      (where_start _ w None)) (λ u e. absurd cc) (step w.retries (check_after w) t o) e
  mark_driver es x _ n r o runs d asked timely few honest old own c e = absurd cc

  pub marks : (es : List Entry) (x : Stand) → Runs g k opening es x → AreOwn es → Marked x
  marks = each_run g k opening (λ es x. AreOwn es → Marked x) (λ own c e. absurd (none_some refl e))
      (λ es x b run may h own. mark_begins x (h own) b)
      mark_driver
      (λ es x a op n r o run set at asked honest h own c e.
      let l = late g k opening j is_opening x (good g k opening j is_opening es x run) set in
      let f = l.fine a op at in
      let mine = operation_own g j x.told a f.0 op f.1 r asked in
      let q = attempt_quiet w k x.seen a n r l.hold.there (λ b v i. mine.keys v i) o in
      where_on (λ h. ap (λ b. b && is_some (at_key w (see w k x.seen (entry a n r o)).scene.content (success_key w.dest.key))) q.mark
      ∙ ap (λ y. x.seen.put_mark && is_some y) (q.keys (success_key w.dest.key) (key_magic w.dest.key w.job SuccessPlace (some_dest j) tt))
      ∙ h) c (h (own_front es _ own) c e))
      (λ es x n r o run f h own. absurd (false_true refl (own_last es _ own)))

-- ---- the end

pub no_entry : (w : Script) (end : CommitEnd) (es : List Entry) → Follows (commit_asks w) (commit_tells w) (CommitOver end) es → es ≡ []
no_entry w end [] f = refl
no_entry w end (e ∷ es) f = absurd (none_some refl f.0)

module _ (g : Setting) (j : IsLegal g.script) (x : Stand) (end : CommitEnd) (h : CommitStands g x (CommitOver end)) where
  abbrev u : Script
  u = g.script

  due_same : (missing : Option ℕ) (worn : Option Request)
      → commit_due u x.seen.picks missing worn ≡ commit_due u (picks_of h.sets) missing worn
  due_same None None = ap (λ o. end_or o commits.Committed) (same_shared u (picks_of h.sets) x.seen.picks h.picks)
  due_same _ _ = refl

  by_worn : h.missing ≡ None → (worn : Option Request) → EndIs worn end → end ≡ commit_due u x.seen.picks h.missing worn
  by_worn e (Some r) is = is ∙ ap (λ v. commit_due u x.seen.picks v (Some r)) (sym e)
  by_worn e None is = by end is h.at ∙ sym (due_same h.missing None)
    where
      by : (v : CommitEnd) → EndIs None v → IsDue u h.missing h.sets v → v ≡ commit_due u (picks_of h.sets) h.missing None
      by (commits.StoreFault t) is d = absurd is
      by (commits.Missing t) is d = ap (λ v. commit_due u (picks_of h.sets) v None) (sym d.0)
      by _ is d = d

  pub ended_so : EndsDue u x.seen.picks h.missing x.commit end
  ended_so = elim (none_or_some h.missing) [
    | inl e ↦
        let o = ends_by_worn u (omega (arith, j.one_lane)) x.commit (subst
        (λ v. Follows (commit_asks u) (commit_tells u) (commit_start u v) x.commit) e h.follows)
        (subst (λ v. AllSound u (commit_start u v) x.commit) e h.sound) end
        (ap (λ v. commit_over (run (commit_tells u) (commit_start u v) x.commit)) (sym e) ∙ ap commit_over h.leads) in
        (o.0, o.1, by_worn e o.0 o.2)
    -- If a task is missing, nothing was sent.
    | inr t ↦
        let none : x.commit ≡ [] = no_entry u (commits.Missing t.0) x.commit (subst
        (λ v. Follows (commit_asks u) (commit_tells u) (commit_start u v) x.commit) t.1 h.follows) in
        let is : CommitOver (commits.Missing t.0) ≡ CommitOver end =
        sym (ap (λ v. run (commit_tells u) (commit_start u v) x.commit) t.1 ∙ ap (run (commit_tells u) (CommitOver (commits.Missing t.0)))
        none) ∙ h.leads in
        let one : commits.Missing t.0 ≡ end = cc in (
          None,
          subst (λ l. WornFirst u.retries l None) (sym none) (none_sent u.retries),
          sym one ∙ ap
              (λ v. commit_due u x.seen.picks v None) (sym t.1),
        )
  ]

has_answered : (g : Setting) (x : Stand) (end : CommitEnd) → CommitStands g x (CommitOver end) → end ≡ commits.Committed
    → is_mark_answered g.script x.commit ≡ true
has_answered g x end h e = subst (λ v. WhereCommitted (is_mark_answered g.script x.commit ≡ true) (CommitOver v)) e h.answered

commit_ended : (g : Setting) → IsLegal g.script → (k : Times) (opening : Content) → IsOpening g opening → (es : List Entry) (x : Stand)
    → Runs g k opening es x → (end : CommitEnd) → x.driver ≡ Some (TheCommit (CommitOver end))
    → (missing : Option ℕ) → run (commit_tells g.script) (commit_start g.script missing) x.commit ≡ CommitOver end
    → CommitEnded g.script x.seen missing x.commit end
commit_ended g j k opening is_opening es x runs end d missing leads =
    let h = stood g j k opening is_opening es x runs (CommitOver end) d in
    let o = ended_so g j x end h in
    let one : h.missing ≡ missing = one_start g.script h.missing missing x.commit (h.leads ∙ sym leads) in
    record {
      worn = o.0;
      first = o.1;
      due = inr (o.2 ∙ ap (λ v. commit_due g.script x.seen.picks v o.0) one);
      answered = has_answered g x
          end h;
    }

-- ---- the list of picks

list_same : (before now : Picks) (n : ℕ) → ((t : ℕ) → t < n → now t ≡ before t) → picks_below now n ≡ picks_below before n
list_same before now zero h = refl
list_same before now (suc n) h = ap (λ l. l ++ picked n (now n)) (list_same before now n (λ t l. h t (omega arith))) ∙ ap
    (λ o. picks_below before n ++ picked n o) (h n (omega arith))

list_more : (w : Script) (before now : Picks) (c d : Commit) → (m : PicksOneMore w before now c d) → (n : ℕ) → length m.sets < n
    → n ≤ w.tasks → picks_below now n ≡ picks_below before n ++ picked (length m.sets) (Some m.set.attempt)
list_more w before now c d m zero l high = absurd (omega arith)
list_more w before now c d m (suc n) l high = elim (same_or_not n (length m.sets)) [
  | inl is ↦ here is
  | inr ne ↦ later ne (list_more w before now c d m n (omega (arith, ne, l)) (omega arith))
]
  where
    here : n ≡ length m.sets → picks_below now (suc n) ≡ picks_below before (suc n) ++ picked (length m.sets) (Some m.set.attempt)
    here is =
        let low : picks_below now n ≡ picks_below before n = list_same before now n
        (λ t k. m.others t (omega arith) (λ e. absurd (omega (arith, e, k, is)))) in
        let none : before n ≡ None = m.behind n (omega arith) (omega (arith, is)) in
        rw (low, none, append-nil (picks_below before n)) (ap (λ l. picks_below before n ++ l)
        (ap (picked n) (ap now is ∙ m.picked) ∙ ap (λ v. picked v (Some m.set.attempt)) is))

    later : (n ≡ length m.sets → ⊥) → picks_below now n ≡ picks_below before n ++ picked (length m.sets) (Some m.set.attempt)
        → picks_below now (suc n) ≡ picks_below before (suc n) ++ picked (length m.sets) (Some m.set.attempt)
    later ne old =
        let none : before n ≡ None = m.behind n (omega arith) (omega arith) in
        let none_now : now n ≡ None = m.others n (omega arith) ne ∙ none in
        rw (none_now, none, append-nil (picks_below now n), append-nil (picks_below before n)) old

pub commit_runs : CommitRuns
commit_runs = record {
  stands = λ g j k opening is_opening es x runs c d. stood g j k opening is_opening es x runs c d;
  one_start = one_start;
  ends = λ g j x end h. ended_so g j x end h;
  answered = has_answered;
  marked = λ g j k opening is_opening es x runs own d. marks g j k opening is_opening es x runs own (CommitOver commits.Committed) d;
  ended = commit_ended;
  grows = λ g j k opening is_opening es x runs c d n r o asked timely few honest. picks_on g j k opening is_opening es x runs c d
      (stood g j k opening is_opening es x runs c d) n r o asked timely few honest;
  list = λ w before now c d m. list_more w before now c d m w.tasks m.next (omega arith);
  same = list_same;
  attempts = attempts_leave;
  setup = λ w k s n c r o e. plain_picks w k s n r (setup_plain w c r e).reads o;
  clean = λ w k s n c r o e. plain_picks w k s n r (clean_plain w c r e).1 o;
}
