-- How the commit at a shared destination ends in a run, and the check before it.
use Rattle.text_and_lists.proofs.Members.{in_back, in_filter, none_or_some, none_some}
use Rattle.text_and_lists.specs.Members.{IsIn}
use Rattle.job_invariant.specs.Standing.{HasPublished}
use Rattle.job_invariant.specs.Told.{nothing_told, tell_all}
use Rattle.job_model.specs.JobScript.{Script}
use Rattle.job_model.specs.Known.{Known}
use Rattle.job_model.specs.Legal.{IsLegal}
use Rattle.job_model.specs.declared.ends.CheckEnd.{CheckEnd}
use Rattle.job_model.specs.declared.ends.CommitEnd.{CommitEnd}
use Rattle.job_model.specs.declared.ends.OpEnd.{OpEnd}
use Rattle.job_outcomes.proofs.CommitMoments.{see_parts}
use Rattle.job_outcomes.proofs.CommitRuns.{commit_runs, no_entry}
use Rattle.job_outcomes.proofs.Served.{commit_answers}
use Rattle.job_outcomes.specs.CommitRuns.{CommitStands}
use Rattle.job_protocol.specs.JobCommits.{CommitOver, commit_asks, commit_start, commit_tells, set_read, set_request}
use Rattle.job_protocol.specs.Operations.{Operation, Reports, Setting, TheCommit, advance, commit_of, over, wants}
use Rattle.job_protocol.specs.Seen.{Times, is_begun, nothing_seen, see_all}
use Rattle.job_safety.proofs.Commits.{parted_at}
use Rattle.job_safety.proofs.Ending.{Ending, ending}
use Rattle.job_safety.proofs.History.{Began}
use Rattle.job_safety.proofs.Sorts.{OfCommit, driver_commit, end_kind, kind_run, memory_check, memory_commit, over_kind}
use Rattle.job_safety.proofs.Spans.{mine, start}
use Rattle.job_safety.proofs.Timed.{ahead_start, number_is, picks_then, run_then, unclean_then}
use Rattle.job_spec.specs.Ends.{CommitEnded, commit_due, has_cleaned, is_driver}
use Rattle.job_spec.specs.Follows.{known_then}
use Rattle.job_spec.specs.OperationEnds.{CommitServed}
use Rattle.job_spec.specs.Promise.{seen_until}
use Rattle.job_spec.specs.States.{Doing, clean_event, missing, same_actor, times}
use Rattle.job_spec.specs.Turns.{by_actor, since}
use Rattle.script_steps.proofs.Actors.{same_is}
use Rattle.script_steps.proofs.Reported.{all_published, last_more, reported}
use Rattle.script_steps.specs.Running.{IsRun, operation_of}
use Rattle.script_steps.specs.Transitions.{Closes, Play, Reachable, happen}
use Rattle.protocol_runs.proofs.Learnt.{cleaned_is}
use Rattle.protocol_runs.specs.Runs.{IsOpening}
use Rattle.retries.specs.Operation.{Follows, run}
use Rattle.retries.specs.Worn.{WornFirst}
use Rattle.s3_types.specs.Store.{Content}
use Rattle.s3_types.specs.declared.journal.Entry.{Entry}
use Rattle.s3_types.specs.declared.journal.Outcome.TheVariants.{Answered}
use Rattle.s3_types.specs.declared.reply.Reply.{Reply}
use Rattle.s3_types.specs.declared.request.Actor.{Actor}
use Rattle.s3_types.specs.declared.request.Actor.TheVariants.{Driver}
use Rattle.s3_types.specs.declared.request.Mode.TheVariants.{Fail}
use Rattle.s3_types.specs.declared.request.Request.{Request}
use Rattle.std.proofs.Common.{Bool, List, None, Option, Some, ap, append_assoc, arith, cond, false, inl, inr, nat_le, not, refl, subst, sym}
use Rattle.std.proofs.Common.{true, ℕ, [], ◌&&◌, ◌+◌, ◌||◌, ◌∙◌, ◌∷◌, ◌≡◌}
use Rattle.std.proofs.lemmas.Bool.{or_parts}
use Rattle.std.proofs.lemmas.List.Folds.{list_any-append}
use Rattle.std.specs.List.{list_any}
use Rattle.std.specs.Prelude.{IsSome, ◌++◌, ◌<◌}
use Rattle.twin_safety.proofs.Behind.{Behind, IsAt, check_ended, commit_ended, led}
use Rattle.twin_safety.proofs.Checking.{checks_end}
use Rattle.twin_safety.proofs.Ending.{behind_so}
use Rattle.twin_safety.proofs.Pages.{one_rest}
use Rattle.twin_safety.specs.Checks.{CheckIs}
use Rattle.twin_safety.specs.Ends.{commit_entries}
use Rattle.twin_safety.specs.Shared.{EndedBehind, SharedChecks, SharedCommits}
use Rattle.job_model.specs.declared.events.Op.TheVariants as ops
use Rattle.job_model.specs.declared.ends.OpEnd.TheVariants as ends
use Rattle.job_model.specs.declared.ends.CommitEnd.TheVariants as commits

-- ---- lists

none_of : (f : Entry → Bool) (u : Entry) (l : List Entry) → list_any f l ≡ false → IsIn u l → f u ≡ false
none_of f u [] h i = absurd i
none_of f u (v ∷ l) h (inl is) = ap f is ∙ (or_parts (f v) (list_any f l) h).0
none_of f u (v ∷ l) h (inr more) = none_of f u l (or_parts (f v) (list_any f l) h).1 more

-- ---- the entries of the commit, by events

same_driver : (a : Actor) → same_actor a Driver ≡ is_driver a
same_driver a = grind arith

-- Before an abort or clean, the entries of the commit are all entries of the driver since the event of the commit.
pub entries_so : (k : Times) (n : ℕ) → k.commit ≡ Some n → (es : List Entry) → has_cleaned k.clean es ≡ false
    → commit_entries k es ≡ since n (by_actor Driver es)
entries_so k n is [] clean = refl
entries_so k n is (e ∷ es) clean =
    ap (λ c. cond (is_driver e.actor && (is_begun c e.event && not (is_begun k.clean e.event))) (e ∷ commit_entries k es)
    (commit_entries k es)) is
    ∙ by (is_driver e.actor) (is_begun k.clean e.event) (has_cleaned k.clean es) (nat_le n e.event) refl clean
    (λ still. entries_so k n is es still)
    ∙ ap (λ b. since n (cond b (e ∷ by_actor Driver es) (by_actor Driver es))) (sym (same_driver e.actor))
  where
    by : (a c more b : Bool) → nat_le n e.event ≡ b → ((a && c) || more) ≡ false
        → (more ≡ false → commit_entries k es ≡ since n (by_actor Driver es))
        → cond (a && (b && not c)) (e ∷ commit_entries k es) (commit_entries k es) ≡ since n
        (cond a (e ∷ by_actor Driver es) (by_actor Driver es))
    by a c more b h g e = grind arith

module _ (g : Setting) (shared : g.shared ≡ true) (opening : Content) (j : IsLegal g.script) (is_opening : IsOpening g opening) (x : Play)
    (run_x : Reachable g opening x) (idle : x.now ≡ None) where
  abbrev w : Script
  w = g.script

  -- ---- what began as a commit

  module _ (i : ℕ) (d : Doing) (end : OpEnd) (es : List Entry) (n : Ending g opening x i Driver d end es) (sort : end_kind end ≡ OfCommit)
    where
      abbrev known : Known
      known = known_then g Driver d (by_actor Driver n.closed.at.journal)

      abbrev At : Operation → Operation
      At v = (run (advance g Driver) (record { operation = v; known = known }) es).operation

      begun : over (At n.op) ≡ Some end → (d.op ≡ ops.Commit) × (n.op ≡ commit_of g d.reports)
      begun o = driver_commit g d.op d.reports known n.op n.begun_is (sym
          (kind_run g Driver (record { operation = n.op; known = known }) es)
          ∙ over_kind (At n.op) end o ∙ sort)

      leads_so : n.op ≡ commit_of g d.reports → (own : List Entry) × IsAt w d.reports es own (At (commit_of g d.reports))
      leads_so is = led g shared d.reports known es (subst (λ v. Follows (wants g Driver) (advance g Driver)
          (record { operation = v; known = known }) es) is n.follows)

  -- ---- a commit that its check ended

  check_so : (i : ℕ) (d : Doing) (e : CheckEnd) (es : List Entry) (n : Ending g opening x i Driver d (ends.Check e) es)
      → over (At i d (ends.Check e) es n refl n.op) ≡ Some (ends.Check e)
      → (w.mode ≡ Fail) × (d.reports.missing ≡ None) × (worn : Option Request) × WornFirst w.retries es worn × CheckIs w es worn e
  check_so i d e es n o =
      let b = begun i d (ends.Check e) es n refl o in
      let l = leads_so i d (ends.Check e) es n refl b.1 in
      let at = check_ended w d.reports es l.0 e (At i d (ends.Check e) es n refl (commit_of g d.reports)) l.1
      (subst (λ v. over (At i d (ends.Check e) es n refl v) ≡ Some (ends.Check e)) b.1 o) in
      let r = checks_end w d.reports.attempts es at.0 at.1.checked e at.2 in
      (at.1.fails, at.1.none, r.0, r.1, r.2)

  pub checks_kept : SharedChecks w x.journal x.ends
  checks_kept i d e es h =
      let n = ending g opening x run_x idle i Driver refl d (ends.Check e) es h in
      elim n.ended [ inl memory ↦ inl (memory_check e memory) | inr o ↦ inr (check_so i d e es n o) ]

  -- ---- a commit that ended after its check

  module _ (i : ℕ) (d : Doing) (e : CommitEnd) (es : List Entry) (n : Ending g opening x i Driver d (ends.Commit e) es)
      (o : over (At i d (ends.Commit e) es n refl n.op) ≡ Some (ends.Commit e)) where
    abbrev k : Times
    k = times w x.ends

    abbrev z : Play
    z = n.closed.at

    abbrev first : Operation
    first = commit_of g d.reports

    commit_begun : (d.op ≡ ops.Commit) × (n.op ≡ commit_of g d.reports)
    commit_begun = begun i d (ends.Commit e) es n refl o

    led_so : (own : List Entry) × IsAt w d.reports es own (At i d (ends.Commit e) es n refl first)
    led_so = leads_so i d (ends.Commit e) es n refl commit_begun.1

    behind : Behind w d.reports es led_so.0 (CommitOver e) × (At i d (ends.Commit e) es n refl first ≡ TheCommit (CommitOver e))
    behind =
        commit_ended w d.reports es led_so.0 e (At i d (ends.Commit e) es n refl first) led_so.1
        (subst (λ v. over (At i d (ends.Commit e) es n refl v) ≡ Some (ends.Commit e)) commit_begun.1 o)

    -- The run at the end of the event.
    abbrev then : IsRun g opening (happen g z (Closes n.event_end)) (times w x.ends)
    then = run_then g opening j is_opening x run_x idle i d (ends.Commit e) es n

    at_end : then.stand.driver ≡ Some (TheCommit (CommitOver e))
    at_end = then.driver ∙ ap operation_of n.running ∙ ap (λ v. Some (At i d (ends.Commit e) es n refl v)) commit_begun.1 ∙ ap (λ v. Some v)
        behind.1

    all_entries : commit_entries k z.journal ≡ es
    all_entries =
        entries_so k d.since (number_is g opening j is_opening x run_x idle i d (ends.Commit e) es n commit_begun.0) z.journal
        (unclean_then g opening j is_opening x run_x idle i d (ends.Commit e) es n (CommitOver e) at_end)
        ∙ sym n.entries_are

    stood : (r : Reports) × Behind w r (commit_entries k z.journal) then.stand.commit (CommitOver e)
    stood = behind_so g j shared k opening is_opening z.journal then.stand then.runs (CommitOver e) at_end

    stands : CommitStands g then.stand (CommitOver e)
    stands = commit_runs.stands g j k opening is_opening z.journal then.stand then.runs (CommitOver e) at_end

    own_is : then.stand.commit ≡ led_so.0
    own_is =
        one_rest w es stood.1.checks then.stand.commit behind.0.checks led_so.0 stood.0.missing d.reports.missing stood.0.attempts
        d.reports.attempts
        (sym all_entries ∙ stood.1.entries) behind.0.entries stood.1.cleared behind.0.cleared
        stands.missing d.reports.missing stands.follows behind.0.follows

    due_then : CommitEnded w then.stand.seen d.reports.missing led_so.0 e
    due_then =
        subst (λ l. CommitEnded w then.stand.seen d.reports.missing l e) own_is
        (commit_runs.ended g j k opening is_opening z.journal then.stand then.runs e at_end d.reports.missing
        (ap (run (commit_tells w) (commit_start w d.reports.missing)) own_is ∙ behind.0.leads))

    -- ---- how its requests were answered

    abbrev s : Began g opening z Driver d
    s = start g opening x i Driver d (ends.Commit e) es n

    abbrev has_begun : Entry → Bool
    has_begun u = is_driver u.actor && is_begun k.clean u.event

    clean : list_any has_begun z.journal ≡ false
    clean = unclean_then g opening j is_opening x run_x idle i d (ends.Commit e) es n (CommitOver e) at_end

    unclean : (tell_all w (nothing_told (clean_event w x.ends)) s.at.journal).cleaned ≡ false
    unclean =
        let parts : (list_any has_begun s.at.journal || list_any has_begun s.entries) ≡ false =
        sym (list_any-append has_begun s.at.journal s.entries) ∙ ap (list_any has_begun) (sym s.all) ∙ clean in
        cleaned_is w s.at.journal (nothing_told (clean_event w x.ends)) ∙
        (or_parts (list_any has_begun s.at.journal) (list_any has_begun s.entries) parts).0

    -- Each of its own entries is one of the driver's since it began.
    sent : (u : Entry) → IsIn u led_so.0 → IsIn u s.entries × (same_actor u.actor Driver ≡ true)
    sent u there =
        let one : IsIn u es = subst (IsIn u) (sym behind.0.entries) (in_back u behind.0.checks led_so.0 there) in
        in_filter (λ (v : Entry). same_actor v.actor Driver) u s.entries
        (subst (IsIn u) (mine g opening x i Driver d (ends.Commit e) es n) one)

    before_clean : (u : Entry) → IsIn u led_so.0 → is_begun k.clean u.event ≡ false
    before_clean u there =
        let own = sent u there in
        let here : IsIn u z.journal = subst (IsIn u) (sym s.all) (in_back u s.at.journal s.entries own.0) in
        sym (ap (λ a. is_driver a && is_begun k.clean u.event) (same_is u.actor Driver own.1)) ∙ none_of has_begun u z.journal clean here

    -- If it has sent a request, no task was missing, and each is published from then on.
    none_missing : (u : Entry) → IsIn u led_so.0 → d.reports.missing ≡ None
    none_missing u there = elim (none_or_some d.reports.missing) [
      | inl none ↦ none
      | inr t ↦
          let f = subst (λ m. Follows (commit_asks w) (commit_tells w) (commit_start w m) led_so.0) t.1 behind.0.follows in
          absurd (subst (IsIn u) (no_entry w (commits.Missing t.0) led_so.0 f) there)
    ]

    published : (u : Entry) → IsIn u led_so.0 → (fs : List Entry) (t : ℕ) → t < w.tasks
        → HasPublished (see_all w k (nothing_seen opening) (s.at.journal ++ fs)) t
    published u there fs t low =
        let none : missing w s.at.past.reported ≡ None = sym (ap (λ (r : Reports). r.missing) s.reports_is) ∙ none_missing u there in
        let seen = see_all w k (nothing_seen opening) s.at.journal in
        let past = (reported g opening j is_opening x.ends s.at s.happened
        (ahead_start g opening j is_opening x run_x idle i d (ends.Commit e) es n) unclean).past in
        subst (λ v. HasPublished v t) (sym (see_parts w k (nothing_seen opening) s.at.journal fs))
        (last_more w k seen fs t (all_published w s.at.past.reported seen past none t low))

    read_there : (before : List Entry) (u : Entry) (later : List Entry) (t : ℕ) (r : Reply) → led_so.0 ≡ before ++ u ∷ later
        → u.request ≡ set_request w.committer w t → u.outcome ≡ Answered r → IsSome (set_read r)
    read_there before u later t r is asks got =
        let there : IsIn u led_so.0 = subst (IsIn u) (sym is) (in_back u before (u ∷ later) (inl refl)) in
        let own = sent u there in
        let at = parted_at u s.entries own.0 in
        let all : z.journal ≡ (s.at.journal ++ at.0) ++ u ∷ at.1 =
        s.all ∙ ap (λ l. s.at.journal ++ l) at.2 ∙ sym (append_assoc s.at.journal at.0 (u ∷ at.1)) in
        let driver = same_is u.actor Driver own.1 in
        elim (commit_answers.there g j k opening is_opening z.journal then.stand then.runs (s.at.journal ++ at.0) u at.1 t r all driver
        (before_clean u there) asks got) [
          | inl some ↦ some
          | inr none ↦ absurd (none_some none.2 (published u there at.0 none.0 none.1).1)
        ]

    served : CommitServed w led_so.0
    served = record {
      sets = read_there;
      completions = λ before u later why is stage got.
          commit_answers.refused g j k opening is_opening z.journal then.stand then.runs (CommitOver e) at_end before u later why
          (own_is ∙ is) stage got;
    }

    commit_so : EndedBehind w (seen_until w opening x.journal x.ends (i + 1)) d es e
    commit_so =
        let picks = picks_then g opening j is_opening x run_x idle i d (ends.Commit e) es n in
        record {
          checks = behind.0.checks;
          own = led_so.0;
          entries = behind.0.entries;
          cleared = behind.0.cleared;
          ended = record {
            worn = due_then.worn;
            first = due_then.first;
            due = elim due_then.due [
              | inl memory ↦ inl memory
              | inr is ↦ inr (is ∙ ap (λ p. commit_due w p d.reports.missing due_then.worn) picks)
            ];
            answered = due_then.answered;
          };
          served = served;
        }

  pub commits_kept : SharedCommits w opening x.journal x.ends
  commits_kept i d e es h =
      let n = ending g opening x run_x idle i Driver refl d (ends.Commit e) es h in
      elim n.ended [ inl memory ↦ inl (memory_commit e memory) | inr o ↦ inr (commit_so i d e es n o) ]
