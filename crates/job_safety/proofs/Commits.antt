-- How the driver's commit ends in a run, and what it leaves.
use Rattle.text_and_lists.proofs.Members.{false_true, in_back, in_filter, none_or_some, none_some, some_is, true_or_false}
use Rattle.text_and_lists.specs.Members.{IsIn}
use Rattle.job_invariant.specs.Standing.{HasPublished}
use Rattle.job_invariant.specs.Told.{Told, nothing_told, tell_all}
use Rattle.job_model.specs.JobScript.{Script}
use Rattle.job_model.specs.Known.{Known}
use Rattle.job_model.specs.Legal.{IsLegal}
use Rattle.job_model.specs.declared.ends.CommitEnd.{CommitEnd}
use Rattle.job_model.specs.declared.events.Op.{Op}
use Rattle.job_outcomes.proofs.Alone.{go_alone}
use Rattle.job_outcomes.proofs.CommitMoments.{commit_moments, see_parts}
use Rattle.job_outcomes.proofs.CommitRuns.{commit_runs, no_entry}
use Rattle.job_outcomes.proofs.RunEntries.{run_entries}
use Rattle.job_outcomes.proofs.Served.{commit_answers}
use Rattle.job_outcomes.specs.CommitRuns.{CommitStands, IsDue}
use Rattle.job_protocol.proofs.Begun.{commit_alone}
use Rattle.job_protocol.specs.JobCommits.{Commit, CommitOver, commit_asks, commit_over, commit_start, commit_tells, is_untouched, set_read}
use Rattle.job_protocol.specs.JobCommits.{set_request}
use Rattle.job_protocol.specs.Operations.{Reports, Running, Setting, TheCommit, advance, over, start_of}
use Rattle.job_protocol.specs.Seen.{Times, is_begun, is_marked, nothing_seen, see_all}
use Rattle.job_protocol.specs.View.{Same, view}
use Rattle.job_safety.proofs.After.{After, IsAfter, after_commit}
use Rattle.job_safety.proofs.Cuts.{moment_cut}
use Rattle.job_safety.proofs.Ending.{Ending, ahead_none, ending, until_own}
use Rattle.job_safety.proofs.History.{Began, IsBegin}
use Rattle.job_safety.proofs.Sorts.{driver_commit, kind_run, memory_commit, over_kind}
use Rattle.job_safety.proofs.Spans.{mine, start}
use Rattle.job_safety.proofs.Timed.{ahead_opened, ahead_start, number_is, opened_commit, picks_then, run_then, taken_then, unclean_then}
use Rattle.job_safety.specs.RunsKeep.{CommitsEndAmong}
use Rattle.job_spec.specs.Ends.{CommitEnded, commit_due, is_driver}
use Rattle.job_spec.specs.Entries.{AreOwn}
use Rattle.job_spec.specs.Follows.{known_then}
use Rattle.job_spec.specs.Headline.{Always}
use Rattle.job_spec.specs.OperationEnds.{CommitServed, NoDeletionWorn, OnlyOpening}
use Rattle.job_spec.specs.Promise.{CommitsEnd, seen_until}
use Rattle.job_spec.specs.States.{Doing, clean_event, first_not, is_reported, missing, reports, same_actor, times}
use Rattle.job_spec.specs.Turns.{by_actor, is_wanting, until}
use Rattle.script_steps.proofs.Actors.{same_is}
use Rattle.script_steps.proofs.Reported.{all_published, last_more, reported}
use Rattle.script_steps.proofs.Running.{is_run}
use Rattle.script_steps.proofs.Told.{told_all}
use Rattle.script_steps.specs.Running.{IsRun, operation_of}
use Rattle.script_steps.specs.Transitions.{Closes, Opens, Play, Reachable, happen, happens, open_running}
use Rattle.protocol_runs.proofs.Changes.{moment_scene}
use Rattle.protocol_runs.proofs.Entries.{always, in_commit, reverted_now, sees, take_all, tells_so}
use Rattle.protocol_runs.proofs.EveryRun.{own_front}
use Rattle.protocol_runs.specs.Runs.{IsOpening}
use Rattle.retries.proofs.First.{computed, none_sent}
use Rattle.retries.specs.Operation.{Follows, run}
use Rattle.retries.specs.Worn.{first_worn}
use Rattle.s3_types.specs.Moment.{after_all, moment}
use Rattle.s3_types.specs.Store.{Content, Scene}
use Rattle.s3_types.specs.declared.journal.Entry.{Entry}
use Rattle.s3_types.specs.declared.journal.Outcome.TheVariants.{Answered}
use Rattle.s3_types.specs.declared.reply.Reply.{Reply}
use Rattle.s3_types.specs.declared.request.Actor.{Actor}
use Rattle.s3_types.specs.declared.request.Actor.TheVariants.{Driver}
use Rattle.std.proofs.Common.{Bool, IsSome, List, None, Option, Some, ap, append_assoc, arith, cond, false, filter, inl, inr, length, refl}
use Rattle.std.proofs.Common.{subst, suc, sym, true, zero, ℕ, [], ◌&&◌, ◌++◌, ◌+◌, ◌<◌, ◌∙◌, ◌∷◌, ◌≡◌, ◌≤◌}
use Rattle.std.proofs.lemmas.Bool.{or_parts}
use Rattle.std.specs.List.{list_any}
use Rattle.std.specs.Option.{option_map}
use Rattle.s3_types.specs.Store as store
use Rattle.job_model.specs.declared.events.Op.TheVariants as ops
use Rattle.job_model.specs.declared.ends.CommitEnd.TheVariants as commits
use Rattle.job_model.specs.declared.ends.FaultStage.TheVariants as stages
use Rattle.job_model.specs.declared.ends.OpEnd.TheVariants as ends

-- ---- simple facts

over_is : (c : Commit) (e : CommitEnd) → commit_over c ≡ Some e → c ≡ CommitOver e
over_is c e h = grind arith

-- A commit that is over, by its end.
pub commit_back : (c : Commit) (e : CommitEnd) → option_map ends.Commit (commit_over c) ≡ Some (ends.Commit e) → c ≡ CommitOver e
commit_back c e h = grind arith

-- A missing task is one of the job's.
missing_below : (w : Script) (f : Actor → Bool) (t : ℕ) → missing w f ≡ Some t → t < w.tasks
missing_below w f t e = let l : t < 0 + w.tasks = by 0 w.tasks e in omega arith
  where
    by : (a n : ℕ) → first_not (is_reported w f) a n ≡ Some t → t < a + n
    by a zero e = absurd (none_some refl e)
    by a (suc n) e = elim (true_or_false (is_reported w f a)) [
      | inl y ↦ let l : t < a + 1 + n = by (a + 1) n (sym (ap (λ b. cond b (first_not (is_reported w f) (a + 1) n) (Some a)) y) ∙ e) in
          omega arith
      | inr y ↦ let s : a ≡ t = some_is (sym (ap (λ b. cond b (first_not (is_reported w f) (a + 1) n) (Some a)) y) ∙ e) in omega (arith, s)
    ]

-- Only the commit ends with a CommitEnd because memory ran out.
wanting_commit : (op : Op) (e : CommitEnd) → is_wanting Driver op (ends.Commit e) ≡ true → op ≡ ops.Commit
wanting_commit op e h = grind arith

-- The place of a member in its list.
pub parted_at : {X : Type 0} (x : X) (xs : List X) → IsIn x xs → (before : List X) × (later : List X) × (xs ≡ before ++ x ∷ later)
parted_at x [] i = absurd i
parted_at x (y ∷ ys) (inl e) = ([], ys, ap (λ v. v ∷ ys) (sym e))
parted_at x (y ∷ ys) (inr i) = let r = parted_at x ys i in (y ∷ r.0, r.1, ap (λ v. y ∷ v) r.2)

module _ (g : Setting) (single : g.shared ≡ false) (opening : Content) (j : IsLegal g.script) (is_opening : IsOpening g opening) (x : Play)
    (run_x : Reachable g opening x) (idle : x.now ≡ None) where
  abbrev w : Script
  w = g.script

  -- The events of the commit and of the first abort or clean, if there are any.
  abbrev k : Times
  k = times w x.ends

  -- ---- a commit that ended

  module _ (i : ℕ) (d : Doing) (e : CommitEnd) (es : List Entry) (n : Ending g opening x i Driver d (ends.Commit e) es) where
    abbrev z : Play
    z = n.closed.at

    abbrev known : Known
    known = known_then g Driver d (by_actor Driver z.journal)

    abbrev IsCommit : Type 0
    IsCommit = (d.op ≡ ops.Commit) × (n.op ≡ TheCommit (commit_start w d.reports.missing))

    begun : IsCommit
    begun =
        let f = (told_all g opening z n.closed.happened).finish n.place (record { actor = Driver; end = ends.Commit e }) n.finished in
        let same : f.doing ≡ d = some_is (sym f.does ∙ n.doing) in
        elim f.end [
          | inl h ↦
              let is = wanting_commit d.op e (subst (λ (v : Doing). is_wanting Driver v.op (ends.Commit e) ≡ true) same h) in
              (is, sym (some_is (sym (ap (λ v. start_of g Driver v d.reports known) is) ∙ n.begun_is)) ∙ commit_alone g d.reports single)
          | inr q ↦
              let o = ap (λ (m : Running). over m.operation) (some_is (sym n.running ∙ q.1)) ∙ q.2 in
              let b =
              driver_commit g d.op d.reports known n.op n.begun_is (sym (kind_run g Driver (record { operation = n.op; known = known }) es)
              ∙ over_kind _ (ends.Commit e) o) in
              (b.0, b.1 ∙ commit_alone g d.reports single)
        ]

    -- The state to which the commit's own entries led.
    abbrev led : Commit
    led = run (commit_tells w) (commit_start w d.reports.missing) es

    leads_alone : (run (advance g Driver) (record { operation = n.op; known = known }) es).operation ≡ TheCommit led
    leads_alone = ap (λ v. (run (advance g Driver) (record { operation = v; known = known }) es).operation) begun.1 ∙ go_alone.commit_run g
        Driver known (commit_start w d.reports.missing) es

    driver_is : operation_of (z.running Driver) ≡ Some (TheCommit led)
    driver_is = ap operation_of n.running ∙ ap (λ v. Some v) leads_alone

    -- The run at the end of the event.
    abbrev then : IsRun g opening (happen g z (Closes n.event_end)) (times w x.ends)
    then = run_then g opening j is_opening x run_x idle i d (ends.Commit e) es n

    at_led : then.stand.driver ≡ Some (TheCommit led)
    at_led = then.driver ∙ driver_is

    -- ---- its event

    abbrev s : Began g opening z Driver d
    s = start g opening x i Driver d (ends.Commit e) es n

    opened_alone : operation_of (open_running g s.at s.event Driver) ≡ Some (TheCommit (commit_start w (missing w s.at.past.reported)))
    opened_alone =
        opened_commit g opening j is_opening x run_x idle i d (ends.Commit e) es n begun.0 s.event
        (subst (λ v. IsBegin s.event Driver v) begun.0 s.begins)
        ∙ ap (λ op. Some op) (commit_alone g (reports w s.at.past.reported) single)

    -- ---- its entries and its missing task

    commit_is_es : then.stand.commit ≡ es
    commit_is_es = run_entries.commit g single k opening z.journal then.stand then.runs led at_led ∙ ap
        (λ v. filter (λ (u : Entry). is_begun v u.event) (by_actor Driver z.journal))
        (number_is g opening j is_opening x run_x idle i d (ends.Commit e) es n begun.0) ∙ sym n.entries_are

    commit_leads : (missing : Option ℕ) → run (commit_tells w) (commit_start w missing) then.stand.commit ≡ run (commit_tells w)
        (commit_start w missing) es
    commit_leads missing = ap (run (commit_tells w) (commit_start w missing)) commit_is_es

    missing_is : (c : Commit) (h : CommitStands g then.stand c) → c ≡ led → h.missing ≡ d.reports.missing
    missing_is c h is = commit_runs.one_start w h.missing d.reports.missing es (sym (commit_leads h.missing) ∙ h.leads ∙ is)

    -- ---- how its requests were answered

    -- The driver had not cleaned up when the commit began.
    unclean : (tell_all w (nothing_told (clean_event w x.ends)) s.at.journal).cleaned ≡ false
    unclean =
        let r = is_run g opening j is_opening (happen g s.at (Opens s.event)) (happens s.at (Opens s.event) s.happened s.may) x.ends
        (ahead_opened g opening j is_opening x run_x idle i d (ends.Commit e) es n) in
        let at : r.stand.driver ≡ Some (TheCommit (commit_start w (missing w s.at.past.reported))) = r.driver ∙ opened_alone in
        sym (ap (λ (m : Told). m.cleaned) (tells_so g k opening j is_opening s.at.journal r.stand r.runs) ∙ ap
        (λ c. (tell_all w (nothing_told c) s.at.journal).cleaned) r.cleans) ∙
        (in_commit g k opening j is_opening s.at.journal r.stand r.runs (commit_start w (missing w s.at.past.reported)) at).2.uncleaned

    -- If the commit has sent a request, no task was missing, and each is published from then on.
    none_missing : (u : Entry) → IsIn u es → d.reports.missing ≡ None
    none_missing u i = elim (none_or_some d.reports.missing) [
      | inl none ↦ none
      | inr t ↦
          let h = commit_runs.stands g j k opening is_opening z.journal then.stand then.runs led at_led in
          let f = subst (λ l. Follows (commit_asks w) (commit_tells w) (CommitOver (commits.Missing t.0)) l) commit_is_es
          (subst (λ o. Follows (commit_asks w) (commit_tells w) (commit_start w o) then.stand.commit) (missing_is led h refl ∙ t.1)
          h.follows) in
          absurd (subst (IsIn u) (no_entry w (commits.Missing t.0) es f) i)
    ]

    published : (u : Entry) → IsIn u es → (b : List Entry) (t : ℕ) → t < w.tasks
        → HasPublished (see_all w k (nothing_seen opening) (s.at.journal ++ b)) t
    published u sent b t low =
        let none : missing w s.at.past.reported ≡ None = sym (ap (λ (r : Reports). r.missing) s.reports_is) ∙ none_missing u sent in
        let told = all_published w s.at.past.reported (see_all w k (nothing_seen opening) s.at.journal)
        (reported g opening j is_opening x.ends s.at s.happened (ahead_start g opening j is_opening x run_x idle i d (ends.Commit e) es
        n) unclean).past none t low in
        subst (λ v. HasPublished v t) (sym (see_parts w k (nothing_seen opening) s.at.journal b))
        (last_more w k (see_all w k (nothing_seen opening) s.at.journal) b t told)

    none_of : (f : Entry → Bool) (u : Entry) (l : List Entry) → list_any f l ≡ false → IsIn u l → f u ≡ false
    none_of f u [] h i = absurd i
    none_of f u (v ∷ l) h (inl is) = ap f is ∙ (or_parts (f v) (list_any f l) h).0
    none_of f u (v ∷ l) h (inr more) = none_of f u l (or_parts (f v) (list_any f l) h).1 more

    -- None of its entries comes after the beginning of an abort or clean.
    before_clean : (u : Entry) → IsIn u es → is_begun k.clean u.event ≡ false
    before_clean u here_in =
        let own = in_filter (λ (v : Entry). same_actor v.actor Driver) u s.entries
        (subst (IsIn u) (mine g opening x i Driver d (ends.Commit e) es n) here_in) in
        let here : IsIn u z.journal = subst (IsIn u) (sym s.all) (in_back u s.at.journal s.entries own.0) in
        let clean = unclean_then g opening j is_opening x run_x idle i d (ends.Commit e) es n led at_led in
        sym (ap (λ a. is_driver a && is_begun k.clean u.event) (same_is u.actor Driver own.1)) ∙ none_of
        (λ v. is_driver v.actor && is_begun k.clean v.event) u z.journal clean here

    read_there : (before : List Entry) (u : Entry) (later : List Entry) (t : ℕ) (r : Reply) → es ≡ before ++ u ∷ later
        → u.request ≡ set_request w.committer w t → u.outcome ≡ Answered r → IsSome (set_read r)
    read_there before u later t r is asks got =
        let one : IsIn u es = subst (IsIn u) (sym is) (in_back u before (u ∷ later) (inl refl)) in
        let own = in_filter (λ (v : Entry). same_actor v.actor Driver) u s.entries
        (subst (IsIn u) (mine g opening x i Driver d (ends.Commit e) es n) one) in
        let at = parted_at u s.entries own.0 in
        let all : z.journal ≡ (s.at.journal ++ at.0) ++ u ∷ at.1 = s.all ∙ ap (λ l. s.at.journal ++ l) at.2 ∙ sym
        (append_assoc s.at.journal at.0 (u ∷ at.1)) in
        elim (commit_answers.there g j k opening is_opening z.journal then.stand then.runs (s.at.journal ++ at.0) u at.1 t r all
        (same_is u.actor Driver own.1) (before_clean u one) asks got) [
          | inl some ↦ some
          | inr none ↦ absurd (none_some none.2 (published u one at.0 none.0 none.1).1)
        ]

    served_so : CommitServed w es
    served_so = record {
      sets = read_there;
      completions = λ before u later why is stage got. commit_answers.refused g j k opening is_opening z.journal then.stand then.runs led
          at_led before u later why (commit_is_es ∙ is) stage got;
    }

    -- ---- a commit that ended without running out of memory

    module _ (o : over (run (advance g Driver) (record { operation = n.op; known = known }) es).operation ≡ Some (ends.Commit e)) where
      leads : led ≡ CommitOver e
      leads = commit_back led e (sym (ap over leads_alone) ∙ o)

      at_end : then.stand.driver ≡ Some (TheCommit (CommitOver e))
      at_end = at_led ∙ ap (λ c. Some (TheCommit c)) leads

      stands : CommitStands g then.stand (CommitOver e)
      stands = commit_runs.stands g j k opening is_opening z.journal then.stand then.runs (CommitOver e) at_end

      -- ---- what the journal shows then

      due_so : CommitEnded w (seen_until w opening x.journal x.ends (i + 1)) d.reports.missing es e
      due_so =
          let o : CommitEnded w then.stand.seen d.reports.missing es e = subst (λ l. CommitEnded w then.stand.seen d.reports.missing l e)
          commit_is_es (commit_runs.ended g j k opening is_opening z.journal then.stand then.runs e at_end d.reports.missing
          (commit_leads d.reports.missing ∙ leads)) in
          record {
            worn = o.worn;
            first = o.first;
            due = elim o.due [
              | inl memory ↦ inl memory
              | inr is ↦ inr (is ∙ ap (λ p. commit_due w p d.reports.missing o.worn)
                  (picks_then g opening j is_opening x run_x idle i d (ends.Commit e) es n))
            ];
            answered = o.answered;
          }

      -- ---- if no stranger sends

      module _ (alone : AreOwn x.journal) where
        alone_then : AreOwn z.journal
        alone_then = own_front z.journal n.closed.entries (subst AreOwn n.closed.all alone)

        own_until : until (i + 1) x.journal ≡ z.journal
        own_until = until_own g opening x run_x idle alone i n.event_end n.closed

        marked_so : e ≡ commits.Committed → is_marked w (seen_until w opening x.journal x.ends (i + 1)) ≡ true
        marked_so is = ap (is_marked w) (sym (sees g k opening j is_opening z.journal then.stand then.runs ∙ ap
            (see_all w k (nothing_seen opening)) (sym (taken_then g opening j is_opening x run_x idle i d (ends.Commit e) es n ∙
            own_until)))) ∙ commit_runs.marked g j k opening is_opening z.journal then.stand then.runs alone_then
            (at_end ∙ ap (λ v. Some (TheCommit (CommitOver v))) is)

        scene_then : moment opening x.journal (length (until (i + 1) x.journal)) ≡ then.stand.seen.scene
        scene_then =
            ap (λ l. moment opening x.journal (length l)) own_until ∙ ap (λ l. moment opening l (length z.journal)) n.closed.all ∙
            moment_cut opening z.journal n.closed.entries
            ∙ sym (ap (after_all (store.opening opening)) (take_all z.journal (length z.journal) (omega arith)))
            ∙ moment_scene g k opening j is_opening z.journal then.stand then.runs

        reverted_so : e ≡ commits.StoreFault stages.Complete → NoDeletionWorn w.retries es
            → OnlyOpening w opening (moment opening x.journal (length (until (i + 1) x.journal))).content
        reverted_so is none =
            let d : then.stand.driver ≡ Some (TheCommit (CommitOver (commits.StoreFault stages.Complete))) = at_end ∙ ap
            (λ v. Some (TheCommit (CommitOver v))) is in
            subst (λ (v : Scene). OnlyOpening w opening v.content) (sym scene_then)
            (reverted_now g k opening j is_opening z.journal then.stand then.runs alone_then d
            (subst (NoDeletionWorn w.retries) (sym commit_is_es) none))

      -- ---- if it ended before its first completion

      missed_below : (t : ℕ) → e ≡ commits.Missing t → t < w.tasks
      missed_below t is =
          let at : IsDue w stands.missing stands.sets (commits.Missing t) = subst (IsDue w stands.missing stands.sets) is stands.at in
          missing_below w s.at.past.reported t (sym (ap (λ (r : Reports). r.missing) s.reports_is) ∙ sym
          (missing_is (CommitOver e) stands (sym leads)) ∙ at.0)

      -- What came after it.
      behind : After g single opening j is_opening (happen g z (Closes n.event_end)) x
      behind = after_commit g single opening j is_opening (happen g z (Closes n.event_end)) x n.closed.since_then
          (subst IsAfter (sym (driver_is ∙ ap (λ c. Some (TheCommit c)) leads)) tt)

      untouched_so : AreOwn x.journal → is_untouched e ≡ true → (m : ℕ) → m ≤ length x.journal
          → Same (view w.dest (moment opening x.journal m).content) (view w.dest opening)
      untouched_so alone u m l =
          let now = is_run g opening j is_opening x run_x x.ends (ahead_none x idle) in
          let all : Always w k opening (z.journal ++ behind.more) = subst (Always w k opening) behind.all
          (always g k opening j is_opening x.journal now.stand now.runs alone) in
          subst (λ v. m ≤ length v → Same (view w.dest (moment opening v m).content) (view w.dest opening)) (sym behind.all)
          (commit_moments.untouched g j k opening is_opening z.journal then.stand then.runs e at_end u missed_below behind.more behind.none
          all m) l

  -- ---- any end

  pub commits_among : CommitsEndAmong w opening x.journal x.ends
  commits_among i d e es h =
      let n = ending g opening x run_x idle i Driver refl d (ends.Commit e) es h in (
        elim n.ended [
          -- Memory ran out.
          | inl memory ↦ record {
            worn = first_worn w.retries es;
            first = computed w.retries [] es (none_sent w.retries);
            due = inl (memory_commit e memory);
            answered = λ c. let no : commits.NoMemory ≡ commits.Committed = sym (memory_commit e memory) ∙ c in absurd cc;
          }
          | inr o ↦ due_so i d e es n o
        ],
        served_so i d e es n,
      )

  pub commits_kept : CommitsEnd w opening x.journal x.ends
  commits_kept i d e es h =
      let n = ending g opening x run_x idle i Driver refl d (ends.Commit e) es h in
      let both = commits_among i d e es h in
      record {
        due = λ own. both.0;
        marked = λ is own. elim n.ended [
          | inl memory ↦ (let no : commits.NoMemory ≡ commits.Committed = sym (memory_commit e memory) ∙ is in
              absurd cc)
          | inr o ↦ marked_so i d e es n o own is
        ];
        untouched = λ u own. elim n.ended [
          | inl memory ↦ absurd (false_true (ap is_untouched (memory_commit e memory)) u)
          | inr o ↦ untouched_so i d e es n o own u
        ];
        reverted = λ is none own. elim n.ended [
          | inl memory ↦ (let no : commits.NoMemory ≡ commits.StoreFault stages.Complete = sym
              (memory_commit e memory) ∙ is in absurd cc)
          | inr o ↦ reverted_so i d e es n o own is none
        ];
        served = λ own. both.1;
      }
