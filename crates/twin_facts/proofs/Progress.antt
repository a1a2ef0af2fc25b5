-- The progress of a job's commit that replaces nothing, in every run of the job among strangers.
use Rattle.text_and_lists.proofs.Members.{false_true, none_or_some, none_some, same_or_not, some_is}
use Rattle.job_invariant.proofs.Owning.{operation_own}
use Rattle.job_invariant.proofs.Reading.{reads_other}
use Rattle.job_invariant.proofs.Replies.{bytes_read, set_reply}
use Rattle.job_invariant.proofs.Sharing.{check_plain}
use Rattle.job_invariant.specs.Facts.{Hold, knowing}
use Rattle.job_invariant.specs.Filed.{Decides}
use Rattle.job_invariant.specs.FactsKeep.{IsSetAnswer}
use Rattle.job_invariant.specs.Stores.{sets_at}
use Rattle.job_invariant.specs.Told.{Told, at_event, driver_entry, entry, strange_entry, tell_driver}
use Rattle.job_model.specs.JobScript.{Script}
use Rattle.job_model.specs.Legal.{IsLegal}
use Rattle.job_protocol.proofs.Begun.{after_check_so, clean_of_so, commit_of_so}
use Rattle.job_protocol.specs.JobCommits.{Commit, CommitOver, Completing, Fetching, Marking, Replacing, Reverting, Sets, commit_asks}
use Rattle.job_protocol.specs.JobCommits.{commit_hears, commit_misses, commit_start, commit_tells, fetched, fetching, ok_set, picks_of}
use Rattle.job_protocol.specs.JobCommits.{replaced, set_read, set_request}
use Rattle.job_protocol.specs.Operations.{Operation, Setting, TheCheck, TheCommit, asks, tells, who}
use Rattle.job_protocol.specs.Outputs.{Picks, is_decided}
use Rattle.job_protocol.specs.Rechecks.{check_after}
use Rattle.job_protocol.specs.Records.{files_set}
use Rattle.job_protocol.specs.Seen.{Seen, Times, is_begun, is_marking, is_picking, is_reading, picks_by, see}
use Rattle.protocol_runs.proofs.Entries.{late_now}
use Rattle.protocol_runs.proofs.EveryRun.{checked_idle, cleans_is, just_idle, just_set}
use Rattle.protocol_runs.proofs.Keeping.{attempt_quiet}
use Rattle.protocol_runs.proofs.Running.{At, Idle, InCommit}
use Rattle.protocol_runs.proofs.Steps.{commit_next}
use Rattle.protocol_runs.specs.Runs.{BeginClean, BeginCommit, BeginSetup, IsOpening, IsTimely, Runs, Stand, actor_begins, attempt_sends}
use Rattle.protocol_runs.specs.Runs.{driver_sends, is_set, nothing_learnt, run_begins, strays}
use Rattle.list_walk.specs.Walks.{Sweep, sweep_asks}
use Rattle.retries.specs.Retries.{step}
use Rattle.s3_types.specs.Answer.{answer}
use Rattle.s3_types.specs.Moment.{IsHonestOutcome}
use Rattle.s3_types.specs.Store.{Content}
use Rattle.s3_types.specs.declared.journal.Entry.{Entry}
use Rattle.s3_types.specs.declared.journal.Outcome.{Outcome}
use Rattle.s3_types.specs.declared.journal.Outcome.TheVariants.{Answered, Slow}
use Rattle.s3_types.specs.declared.reply.Reply.{Reply}
use Rattle.s3_types.specs.declared.request.Actor.TheVariants.{Driver}
use Rattle.s3_types.specs.declared.request.Committer.{Committer}
use Rattle.s3_types.specs.declared.request.Mode.{Mode}
use Rattle.s3_types.specs.declared.request.Request.{Request}
use Rattle.std.proofs.Common.{Bool, List, None, Option, Some, ap, arith, cond, false, inl, inr, length, length-append, nat_lt, refl, subst}
use Rattle.std.proofs.Common.{sym, true, ℕ, [], ◌&&◌, ◌++◌, ◌+◌, ◌<◌, ◌^◌, ◌∙◌, ◌∷◌, ◌≡◌, ◌≤◌}
use Rattle.std.proofs.Math.Bool.{and-false}
use Rattle.std.proofs.lemmas.Bool.{cond_both}
use Rattle.twin_facts.proofs.Changes.{Under}
use Rattle.twin_facts.proofs.OneSide.{mark_still, unread_picks}
use Rattle.twin_facts.specs.TwinLaws.{is_replace}
use Rattle.job_model.specs.declared.ends.CommitEnd.TheVariants as ends
use Rattle.job_model.specs.declared.ends.FaultStage.TheVariants as stages

-- ---- what holds of a commit as it goes on, whoever else sends

-- A task whose set was not read yet has no pick.
abbrev pub Unread : Script → Picks → Commit → Type 0
Unread w picks (Fetching sets n) = (t : ℕ) → length sets ≤ t → t < w.tasks → picks t ≡ None
Unread w picks _ = Unit {0}

-- The marker was not put before the commit is at that stage.
abbrev pub Unmarked : Bool → Commit → Type 0
Unmarked put (Marking sets n) = Unit {0}
Unmarked put (CommitOver ends.Committed) = Unit {0}
Unmarked put (CommitOver (ends.StoreFault stages.Success)) = Unit {0}
Unmarked put _ = put ≡ false

pub record Committing (g : Setting) (opening : Content) (m : Told) (picks : Picks) (put : Bool) (c : Commit) : Type 0 where
  pub alone : InCommit g opening picks m c
  pub unread : Unread g.script picks c
  pub unmarked : Unmarked put c

pub false_unmarked : (put : Bool) → put ≡ false → (c : Commit) → Unmarked put c
false_unmarked put h c = grind arith

module _ (w : Script) where
  none_replaced : (c : Committer) (m : Mode) (picks : Picks) → is_replace m ≡ false → replaced c m w picks ≡ []
  none_replaced c m picks h = grind arith

  abbrev pub is_fetching : Commit → Bool
  is_fetching (Fetching sets n) = true
  is_fetching _ = false

  abbrev pub is_mark_stage : Commit → Bool
  is_mark_stage (Marking sets n) = true
  is_mark_stage _ = false

  module _ (picks : Picks) where
    abbrev U : Commit → Type 0
    U c = Unread w picks c

    unread_fetching : (sets : Sets) → U (Fetching sets 0) → U (fetching w sets)
    unread_fetching sets h = grind arith

    unread_start : ((t : ℕ) → picks t ≡ None) → (missing : Option ℕ) → U (commit_start w missing)
    unread_start h missing = grind arith

    -- If no answer came, the picks are as they were.
    unread_missed : (c : Commit) (lost : Bool) → U c → U (commit_misses w c lost)
    unread_missed c lost h = grind arith

    unread_heard : (c : Commit) → is_fetching c ≡ false → (y : Reply) → U (commit_hears w c y)
    unread_heard c h y = grind arith

  -- While the commit reads, some task has no pick.
  pub undecided : (picks : Picks) (sets : Sets) → length sets < w.tasks → Unread w picks (Fetching sets 0) → is_decided w picks ≡ false
  undecided picks sets h g = grind arith

-- A mode other than replace sweeps nothing.
pub nothing_under : (g : Setting) (opening : Content) (m : Told) (picks : Picks) (c : Commit) → InCommit g opening picks m c
    → is_replace g.script.mode ≡ false → Under g.script c
nothing_under g opening m picks (Replacing sets p ps x n) i keep =
    absurd (some_left i.replaces.0 (i.replaces.1 ∙ none_replaced g.script g.script.committer g.script.mode (picks_of sets) keep))
  where
    some_left : (l : List (List ℕ)) → l ++ p ∷ ps ≡ [] → ⊥
    some_left [] e = cc
    some_left (q ∷ l) e = cc
nothing_under g opening m picks _ i keep = tt

-- ---- an entry of the commit

module _ (g : Setting) (opening : Content) (j : IsLegal g.script) (k : Times) (s : Seen) (m : Told) (n : ℕ)
    (begins_it : is_begun k.commit n ≡ true) (unclean : is_begun k.clean n ≡ false) (cleans : m.cleans_at ≡ k.clean)
    (few : s.scene.content.next ≤ 2 ^ 64) (h : Hold g.script g.minimum s m) (c : Commit) (i : Committing g opening m s.picks s.put_mark c)
    (r : Request)
    (asked : commit_asks g.script c ≡ Some r) where
  abbrev w : Script
  w = g.script

  abbrev picking : Bool
  picking = is_picking k s.begun n

  abbrev u : Outcome → Seen
  u o = see w k s (driver_entry n r o)

  abbrev at : InCommit g opening s.picks m c
  at = i.alone

  -- ---- what the request is

  plain_read : (x : Committer) (t : ℕ) → is_marking w (set_request x w t) ≡ false
  plain_read x t = grind arith

  plain_sweep : (p : List ℕ) (x : Sweep) → (is_marking w (sweep_asks w.dest.bucket p x) ≡ false)
      × ((t : ℕ) → is_reading w t (sweep_asks w.dest.bucket p x) ≡ false)
  plain_sweep p x = grind arith

  -- Only the marker's stage puts the marker, and only the first stage reads a set.
  abbrev Kind : Commit → Request → Type 0
  Kind d y = (is_mark_stage w d ≡ false → is_marking w y ≡ false) × (is_fetching w d ≡ false → (t : ℕ) → is_reading w t y ≡ false)

  kind_by : (d : Commit) → Decides w g.minimum m.publish_sent m.drawn d → commit_asks w d ≡ Some r → Kind d r
  kind_by (Fetching sets x) d e = subst (Kind (Fetching sets x)) (some_is e) (
    (λ z. plain_read w.committer (length sets)),
    (λ z. absurd (false_true z refl)),
  )
  kind_by (Replacing sets p ps x y) d e = subst (Kind (Replacing sets p ps x y)) (some_is e)
      (let z = plain_sweep p x in ((λ v. z.0), (λ v. z.1)))
  kind_by (Completing sets x xs finished) d e = subst (Kind (Completing sets x xs finished)) (some_is e) ((λ z. refl), (λ z t. refl))
  kind_by (Marking sets x) d e = subst (Kind (Marking sets x)) (some_is e) ((λ z. absurd (false_true z refl)), (λ z t. refl))
  kind_by (Reverting q qs x) d e =
      subst (Kind (Reverting q qs x)) (some_is e) (elim (d q (inl refl)).2 [
        | inl y ↦ subst (Kind (Reverting q qs x)) (sym y) ((λ z. refl), (λ z t. refl))
        | inr y ↦ subst (Kind (Reverting q qs x)) (sym y) ((λ z. refl), (λ z t. refl))
      ])
  kind_by (CommitOver end) d e = absurd cc

  pub kind : Kind c r
  kind = kind_by c at.decides asked

  -- ---- the picks

  pub picks_same : is_fetching w c ≡ false → (o : Outcome) → (u o).picks ≡ s.picks
  picks_same z = unread_picks w k s n r (kind.1 z)

  pub mark_same : is_mark_stage w c ≡ false → (o : Outcome) → (u o).put_mark ≡ s.put_mark
  mark_same z = mark_still w k s n r (kind.0 z)

  -- ---- a read that was answered

  module _ (sets : Sets) (x : ℕ) (v : Fetching sets x ≡ c) where
    is_read : r ≡ set_request w.committer w (length sets)
    is_read = sym (some_is (ap (commit_asks w) v ∙ asked))

    low : length sets < w.tasks
    low = subst (Decides w g.minimum m.publish_sent m.drawn) (sym v) at.decides

    unread : (t : ℕ) → length sets ≤ t → t < w.tasks → s.picks t ≡ None
    unread = subst (Unread w s.picks) (sym v) i.unread

    abbrev next : Picks
    next = picks_by w picking s.last s.picks (set_request w.committer w (length sets))

    next_other : (t : ℕ) → t < w.tasks → (t ≡ length sets → ⊥) → next t ≡ s.picks t
    next_other t l ne = ap (λ b. cond (picking && b) (s.last t) (s.picks t)) (reads_other j t (length sets) l low ne) ∙ ap
        (λ b. cond b (s.last t) (s.picks t)) (and-false picking)

    -- If there is no set, nobody has published.
    next_none : s.last (length sets) ≡ None → (t : ℕ) → length sets ≤ t → t < w.tasks → next t ≡ None
    next_none h t g e = grind (arith, same_or_not, cond_both, unread, next_other)

    last_none : sets_at w s.scene (length sets) ≡ None → s.last (length sets) ≡ None
    last_none e = elim (none_or_some (s.last (length sets))) [
      | inl z ↦ z
      | inr a ↦ absurd
          (none_some e (h.standing at.uncleaned (length sets) a.0 low a.1).1)
    ]

    more_unread : (t : ℕ) → length sets + 1 ≤ t → t < w.tasks → next t ≡ None
    more_unread t l k = next_other t k (λ e. absurd (omega (arith, e))) ∙ unread t (omega arith) k

    rest_read : (y : Reply) → y ≡ answer s.scene (set_request w.committer w (length sets)) → Unread w next (fetched w sets (set_read y))
    rest_read y e = by (sets_at w s.scene (length sets)) refl
      where
        by : (o : Option (List ℕ)) → sets_at w s.scene (length sets) ≡ o → Unread w next (fetched w sets (set_read y))
        by None z =
            let a : IsSetAnswer None (answer s.scene (set_request w.committer w (length sets))) = set_reply j h w.committer (length sets)
            None z in
            let stay : Unread w next (Fetching sets 0) = next_none (last_none z) in
            elim a [
              | inl key ↦ subst (λ v. Unread w next (fetched w sets (set_read v))) (sym (e ∙ key)) stay
              | inr file ↦ subst (λ v. Unread w next (fetched w sets (set_read v))) (sym (e ∙ file)) stay
            ]
        by (Some bytes) z =
            let x = h.sets (length sets) bytes low z in
            let a : IsSetAnswer (Some bytes) (answer s.scene (set_request w.committer w (length sets))) = set_reply j h w.committer
            (length sets) (Some bytes) z in
            let more : length (sets ++ files_set w x.by x.commits (knowing (m.drawn x.by)) ∷ []) ≡ length sets + 1 = length-append sets _ in
            subst (λ v. Unread w next (fetched w sets v)) (sym
            (ap set_read e ∙ a ∙ ap ok_set (bytes_read j h few (length sets) bytes low x)))
            (unread_fetching w next (sets ++ files_set w x.by x.commits (knowing (m.drawn x.by)) ∷ [])
            (λ t l k. more_unread t (subst (λ n. n ≤ t) more l) k))

  -- ---- what follows

  unread_answered : (d : Commit) → d ≡ c → (y : Reply) → y ≡ answer s.scene r
      → Unread w (picks_by w picking s.last s.picks r) (commit_hears w c y)
  unread_answered (Fetching sets x) v y honest =
      let is = is_read sets x v in
      subst (λ d. Unread w (picks_by w picking s.last s.picks r) (commit_hears w d y)) v
      (subst (λ z. Unread w (picks_by w picking s.last s.picks z) (fetched w sets (set_read y))) (sym is)
      (rest_read sets x v y (honest ∙ ap (answer s.scene) is)))
  unread_answered _ v y honest = unread_heard w (picks_by w picking s.last s.picks r) c (ap (is_fetching w) (sym v)) y

  unread_next : (o : Outcome) → IsHonestOutcome o (answer s.scene r) → Unread w (u o).picks (commit_tells w c o)
  unread_next (Answered y) honest = unread_answered c refl y honest
  unread_next Slow honest = unread_missed w s.picks c false i.unread
  unread_next _ honest = unread_missed w s.picks c true i.unread

  -- ---- the marker

  pub put_before : (d : Commit) → is_mark_stage w d ≡ false → commit_asks w d ≡ Some r → Unmarked s.put_mark d → s.put_mark ≡ false
  put_before d h g e = grind arith

  marking_next : (sets : Sets) (x : ℕ) (put : Bool) (o : Outcome) → Unmarked put (commit_tells w (Marking sets x) o)
  marking_next sets x put (Answered y) = tt
  marking_next sets x put Slow = cond_both (nat_lt x w.retries) (Marking sets (x + 1)) (CommitOver (ends.StoreFault stages.Success))
      (Unmarked put) (λ t. tt) (λ t. tt)
  marking_next sets x put _ = cond_both (nat_lt x w.retries) (Marking sets (x + 1)) (CommitOver (ends.StoreFault stages.Success))
      (Unmarked put) (λ t. tt) (λ t. tt)

  unmarked_next : (d : Commit) → d ≡ c → (o : Outcome) → Unmarked (u o).put_mark (commit_tells w c o)
  unmarked_next (Marking sets x) v o = subst (λ d. Unmarked (u o).put_mark (commit_tells w d o)) v (marking_next sets x (u o).put_mark o)
  unmarked_next _ v o = let z = ap (is_mark_stage w) (sym v) in false_unmarked (u o).put_mark
      (mark_same z o ∙ put_before c z asked i.unmarked) (commit_tells w c o)

  -- ---- all together

  pub committing_next : (o : Outcome) → IsHonestOutcome o (answer s.scene r)
      → Committing g opening (at_event n (tell_driver m r o)) (u o).picks (u o).put_mark (commit_tells w c o)
  committing_next o honest = record {
    alone = commit_next g j opening k s m n begins_it unclean cleans few h c at r asked o honest;
    unread =
        unread_next o honest;
    unmarked = unmarked_next c refl o;
  }

-- ---- in every run

-- If the driver is running its commit.
abbrev Goes : Setting → Option Operation → Seen → Type 0
Goes g (Some (TheCommit c)) s = Unread g.script s.picks c × Unmarked s.put_mark c
Goes g _ s = Unit {0}

goes_same : (g : Setting) (d : Option Operation) (s u : Seen) → u.picks ≡ s.picks → u.put_mark ≡ s.put_mark → Goes g d s → Goes g d u
goes_same g d s u h e f = grind arith

module _ (g : Setting) (k : Times) (opening : Content) (j : IsLegal g.script) (is : IsOpening g opening) where
  starts : (s : Seen) (m : Told) → Idle g opening s m → (missing : Option ℕ) → Goes g (Some (TheCommit (commit_start g.script missing))) s
  starts s m i missing = (
    unread_start g.script s.picks i.unpicked missing,
    false_unmarked s.put_mark i.unmarked
        (commit_start g.script missing),
  )

  with_rest : (s : Seen) (m : Told) (c : Commit) → At g opening (Some (TheCommit c)) s m → Goes g (Some (TheCommit c)) s
      → Committing g opening m s.picks s.put_mark c
  with_rest s m c at h = record { alone = at; unread = h.0; unmarked = h.1 }

  goes : (es : List Entry) (x : Stand) → Runs g k opening es x → Goes g x.driver x.seen
  goes es x run_begins = tt
  goes es x (actor_begins fs y BeginSetup run may) = tt
  goes es x (actor_begins fs y (BeginCommit reports) run may) =
      let l = late_now g k opening j is fs y run (just_set y.driver may) in
      commit_of_so g (λ op. Goes g (Some op) y.seen) (starts y.seen y.told (just_idle g k opening j is y.driver y.seen y.told l.driver may))
      (λ t. tt) reports
  goes es x (actor_begins fs y BeginClean run may) = clean_of_so g (λ op. Goes g (Some op) y.seen) tt tt
  goes es x (actor_begins fs y b run may) = goes fs y run
  goes es x (driver_sends fs y op n r o run d asked timely few honest) = by op d asked timely
      (subst (λ v. Goes g v y.seen) d (goes fs y run))
    where
      by : (op : Operation) → y.driver ≡ Some op → asks g (who Driver) nothing_learnt op ≡ Some r → IsTimely k n op
          → Goes g (Some op) y.seen → Goes g (Some (tells g (who Driver) op o)) (see g.script k y.seen (driver_entry n r o))
      by (TheCommit c) d asked timely h =
          let l = late_now g k opening j is fs y run (ap is_set d) in
          let i = with_rest y.seen y.told c (subst (λ v. At g opening v y.seen y.told) d l.driver) h in
          let z = committing_next g opening j k y.seen y.told n timely.0 timely.1 (cleans_is g k opening j is fs y run) few l.hold c i r
          asked o honest in
          (z.unread, z.unmarked)
      by (TheCheck t) d asked timely h =
          let l = late_now g k opening j is fs y run (ap is_set d) in
          let next = see g.script k y.seen (driver_entry n r o) in
          let idle = checked_idle g k opening j is y (cleans_is g k opening j is fs y run) n r o (check_plain g.script t.operation r asked)
          timely.1 (subst (λ v. At g opening v y.seen y.told) d l.driver) in
          after_check_so g (λ op. Goes g (Some op) next) (starts next (at_event n (tell_driver y.told r o)) idle None) (λ u. tt)
          (step g.script.retries (check_after g.script) t o)
      by _ d asked timely h = tt
  goes es x (attempt_sends fs y a op n r o run set at asked honest) =
      let l = late_now g k opening j is fs y run set in
      let f = l.fine a op at in
      let own = operation_own g j y.told a f.0 op f.1 r asked in
      let quiet = attempt_quiet g.script k y.seen a n r l.hold.there (λ b q i. own.keys q i) o in
      goes_same g y.driver y.seen (see g.script k y.seen (entry a n r o)) quiet.picks quiet.mark (goes fs y run)
  goes es x (strays fs y n r o run f) = goes_same g y.driver y.seen (see g.script k y.seen (strange_entry n r o)) refl refl (goes fs y run)

  pub committing : (es : List Entry) (x : Stand) → Runs g k opening es x → (c : Commit) → x.driver ≡ Some (TheCommit c)
      → Committing g opening x.told x.seen.picks x.seen.put_mark c
  committing es x h c g = grind (arith, late_now, with_rest, At, goes)
