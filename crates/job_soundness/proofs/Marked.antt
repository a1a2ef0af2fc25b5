-- Once the job's commit has begun, no success marker exists unless the job has put it: its set-up has deleted the old one.
use Rattle.text_and_lists.proofs.Members.{false_true, none_some, same_or_other, some_is, text_gone, text_true, true_or_false}
use Rattle.job_invariant.proofs.Aborting.{taken_in}
use Rattle.job_invariant.proofs.Cleaning.{clean_hides}
use Rattle.job_invariant.proofs.Effects.{abort_keys, deletion_key, deletion_other, other_key}
use Rattle.job_invariant.proofs.FilePaths.{file_path}
use Rattle.job_invariant.proofs.Going.{Each, effect_so, step_asked}
use Rattle.job_invariant.proofs.Held.{nth_of, of_sets}
use Rattle.job_invariant.proofs.Legal.{some_dest}
use Rattle.job_invariant.proofs.Owning.{operation_own}
use Rattle.job_invariant.proofs.SettingUp.{no_success}
use Rattle.job_invariant.proofs.Shapes.{key_after, store_is}
use Rattle.job_invariant.proofs.Sharing.{check_reads, reads_leave, sparing_hides}
use Rattle.job_invariant.proofs.Shows.{HidesAll}
use Rattle.job_invariant.specs.Driver.{FitsSweep}
use Rattle.job_invariant.specs.Emptying.{SetsUp}
use Rattle.job_invariant.specs.Filed.{IsCommit}
use Rattle.job_invariant.specs.FiledLaws.{Commits}
use Rattle.job_invariant.specs.Stores.{at_key}
use Rattle.job_invariant.specs.Told.{Told, driver_entry, entry}
use Rattle.job_model.specs.JobScript.{Script}
use Rattle.job_model.specs.Legal.{IsLegal}
use Rattle.job_protocol.proofs.Begun.{after_check_so, clean_of_so, commit_of_so}
use Rattle.job_protocol.proofs.Faults.{if_bucket_so}
use Rattle.job_protocol.specs.JobCommits.{Commit, CommitOver, Completing, Fetching, Marking, Replacing, Reverting, all_commits, commit_asks}
use Rattle.job_protocol.specs.JobCommits.{set_request}
use Rattle.job_protocol.specs.Lanes.{abort, completion, deletion, nth}
use Rattle.job_protocol.specs.Operations.{Operation, Setting, TheCheck, TheClean, TheCommit, TheSetup, TheSparing, asks, tells, who}
use Rattle.job_protocol.specs.Rechecks.{check_after}
use Rattle.job_protocol.specs.Seen.{Seen, Times, is_marking, see, seen}
use Rattle.job_protocol.specs.Setup.{Checking, Clearing, Heading, Setup, SetupOver, Sweeping, checked, cleared, dest_prefix, headed}
use Rattle.job_protocol.specs.Setup.{setup_after, setup_asks, setup_hears, sweeping}
use Rattle.job_spec.specs.Entries.{AreOwn}
use Rattle.protocol_runs.proofs.Entries.{front, in_commit, late_now, own_taken, sees}
use Rattle.protocol_runs.proofs.EveryRun.{good, own_front, own_last, shown}
use Rattle.protocol_runs.proofs.Folds.{each_run}
use Rattle.protocol_runs.proofs.Keeping.{attempt_quiet}
use Rattle.protocol_runs.proofs.Plain.{one_scene}
use Rattle.protocol_runs.proofs.Replacing.{taken_after}
use Rattle.protocol_runs.proofs.Running.{At, CommitShows, Shows}
use Rattle.protocol_runs.proofs.Steps.{hidden_same}
use Rattle.protocol_runs.specs.Runs.{BeginClean, BeginCommit, BeginSetup, Beginning, IsOpening, MayBegin, Runs, Stand, begin, is_just_set}
use Rattle.protocol_runs.specs.Runs.{is_set, nothing_learnt}
use Rattle.list_walk.specs.Walks.{Deleting, Listing, Sweep, all_go, page_after, sweep_asks, sweep_hears}
use Rattle.magic_paths.proofs.Tails.{key_magic}
use Rattle.magic_paths.specs.Layout.{magic_prefix, success_key}
use Rattle.magic_paths.specs.Places.{SuccessPlace}
use Rattle.pending_json.specs.Pending.{Pending}
use Rattle.retries.specs.Retries.{Retried, step}
use Rattle.s3_types.specs.Answer.{answer, apply, with_objects}
use Rattle.s3_types.specs.Moment.{IsHonestOutcome, effect, is_effective}
use Rattle.s3_types.specs.Requests.{only_reads}
use Rattle.s3_types.specs.Store.{Content, Scene}
use Rattle.s3_types.specs.declared.journal.Entry.{Entry}
use Rattle.s3_types.specs.declared.journal.Outcome.{Outcome}
use Rattle.s3_types.specs.declared.journal.Outcome.TheVariants.{Answered, ReplyLost}
use Rattle.s3_types.specs.declared.reply.Reply.{Reply}
use Rattle.s3_types.specs.declared.request.Actor.TheVariants.{Driver}
use Rattle.s3_types.specs.declared.request.Committer.{Committer}
use Rattle.s3_types.specs.declared.request.Request.{Request}
use Rattle.s3_types.specs.declared.request.Request.TheVariants.{DeleteObject, HeadObject}
use Rattle.std.proofs.Common.{List, None, Option, Some, ap, arith, false, inl, inr, length, refl, subst, sym, take, true, ℕ, ◌∙◌, ◌∷◌, ◌≡◌}
use Rattle.store_frame.specs.Held.{HasBucket}
use Rattle.twin_facts.proofs.OneSide.{mark_puts, mark_stays}
use Rattle.std.specs.FinMap as fin
use Rattle.job_model.specs.declared.ends.SetupEnd.TheVariants as setups

module _ (w : Script) where
  -- No success marker exists.
  abbrev pub NoMark : Scene → Type 0
  NoMark s = at_key w s.content (success_key w.dest.key) ≡ None

  -- A set-up has deleted the marker once it sweeps, and if it ended Done.
  abbrev AfterSetup : Setup → Scene → Type 0
  AfterSetup (Sweeping t) s = NoMark s
  AfterSetup (SetupOver setups.Done) s = NoMark s
  AfterSetup _ s = Unit {0}

  -- From then on the marker exists only if the job has put it.
  abbrev Clears : Option Operation → Seen → Type 0
  Clears None s = Unit {0}
  Clears (Some (TheSetup t)) s = AfterSetup t.operation s.scene
  Clears (Some _) s = s.put_mark ≡ false → NoMark s.scene

  after_headed : (s : Scene) (x : Reply) → AfterSetup (headed w x) s
  after_headed s x = grind arith

  after_checked : (s : Scene) (keys : List (List ℕ)) (x : Reply) → AfterSetup (checked w keys x) s
  after_checked s keys x = grind arith

  after_cleared : (s : Scene) → NoMark s → (k : Committer) → AfterSetup (cleared k) s
  after_cleared s h k = grind arith

  after_sweeping : (s : Scene) → NoMark s → (t : Option Sweep) → AfterSetup (sweeping t) s
  after_sweeping s h t = grind arith

  just_clears : (d : Option Operation) (s : Seen) → is_just_set d ≡ true → Clears d s → NoMark s.scene
  just_clears d s e h = grind arith

  set_clears : (d : Option Operation) (s : Seen) → is_set d ≡ true → Clears d s → s.put_mark ≡ false → NoMark s.scene
  set_clears d s e h p = grind arith

  module _ (j : IsLegal w) (s : Scene) where
    abbrev mark : List ℕ
    mark = success_key w.dest.key

    -- A request that changes only keys in the job's magic directory puts no success marker.
    hidden_mark : HasBucket s.content w.dest.bucket → (r : Request) → HidesAll w r → (o : Outcome) → NoMark s → NoMark (effect s r o)
    hidden_mark there r h o none = hidden_same w s there r h o mark (key_magic w.dest.key w.job SuccessPlace (some_dest j) tt) ∙ none

    read_mark : (r : Request) → only_reads r ≡ true → (o : Outcome) → NoMark s → NoMark (effect s r o)
    read_mark r reads o none = ap (λ (t : Scene). at_key w t.content mark) (reads_leave s r reads o) ∙ none

    deleted_mark : HasBucket s.content w.dest.bucket → NoMark (apply s (DeleteObject w.dest.bucket mark))
    deleted_mark there =
        let left = with_objects there.0 (fin.remove there.0.objects mark) in
        ap (λ c. at_key w c mark) (store_is w s there.0 there.1 (DeleteObject w.dest.bucket mark))
        ∙ key_after w s there.0 there.1 left s.content.next mark ∙ text_gone there.0.objects mark mark refl

    sweep_hides : (t : Sweep) → FitsSweep w t → HidesAll w (sweep_asks w.dest.bucket (magic_prefix w.dest.key w.job) t)
    sweep_hides (Listing keys) h b q i = absurd i
    sweep_hides (Deleting k ks) h b q i = h q (taken_in 1000 (k ∷ ks) q i)

    heard : (op : Setup) → SetsUp w s.content op → AfterSetup op s → Each (λ q. (x : Reply) → x ≡ answer s q
        → AfterSetup (setup_hears w op x) (apply s q)) (setup_asks w op)
    heard Heading u h = λ x e. let q = HeadObject w.dest.bucket w.dest.key in
        if_bucket_so (λ v. AfterSetup v (apply s q)) x (headed w x) tt (after_headed (apply s q) x)
    heard (Checking keys) u h = λ x e. let q = page_after w.dest.bucket (dest_prefix w) keys in
        if_bucket_so (λ v. AfterSetup v (apply s q)) x (checked w keys x) tt (after_checked (apply s q) keys x)
    heard Clearing u h = λ x e. let q = DeleteObject w.dest.bucket mark in
        if_bucket_so (λ v. AfterSetup v (apply s q)) x (cleared w.committer) tt (after_cleared (apply s q) (deleted_mark u) w.committer)
    heard (Sweeping t) u h = λ x e.
        let q = sweep_asks w.dest.bucket (magic_prefix w.dest.key w.job) t in
        if_bucket_so (λ v. AfterSetup v (apply s q)) x (sweeping (sweep_hears all_go t x)) tt (after_sweeping (apply s q)
        (hidden_mark u.0 q (sweep_hides t u.1) ReplyLost h) (sweep_hears all_go t x))
    heard (SetupOver end) u h = tt

    still : (op : Setup) → SetsUp w s.content op → AfterSetup op s → (o : Outcome)
        → Each (λ q. AfterSetup op (effect s q o)) (setup_asks w op)
    still (Sweeping t) u h o = hidden_mark u.0 (sweep_asks w.dest.bucket (magic_prefix w.dest.key w.job) t) (sweep_hides t u.1) o h
    still (SetupOver end) u h o = tt
    still _ u h o = tt

    setup_clears : (retries : ℕ) (t : Retried Setup) → SetsUp w s.content t.operation → AfterSetup t.operation s → (r : Request)
        → setup_asks w t.operation ≡ Some r → (o : Outcome) → IsHonestOutcome o (answer s r)
        → AfterSetup (step retries (setup_after w) t o).operation (effect s r o)
    setup_clears retries t u h r e o honest = step_asked (λ q v op. AfterSetup op (effect s q v)) retries (setup_after w) t
        (answer s) r e o honest (heard t.operation u h) (λ none. still t.operation u h o) tt

module _ (g : Setting) (k : Times) (opening : Content) (j : IsLegal g.script) (is : IsOpening g opening) where
  abbrev v : Script
  v = g.script

  -- ---- an entry of the commit

  module _ (x : Stand) (n : ℕ) (r : Request) (o : Outcome) where
    abbrev u : Seen
    u = see v k x.seen (driver_entry n r o)

    scene_is : u.scene ≡ effect x.seen.scene r o
    scene_is = one_scene v k x.seen (driver_entry n r o)

    unput : u.put_mark ≡ false → x.seen.put_mark ≡ false
    unput h = elim (true_or_false x.seen.put_mark) [ inl e ↦ absurd (false_true h (mark_stays v k x.seen n r e o)) | inr e ↦ e ]

    -- The entry leaves no marker, if the job has not put one.
    leaves_by : (NoMark v x.seen.scene → NoMark v (effect x.seen.scene r o)) → (x.seen.put_mark ≡ false → NoMark v x.seen.scene)
        → u.put_mark ≡ false → NoMark v u.scene
    leaves_by go old put = subst (NoMark v) (sym scene_is) (go (old (unput put)))

    module _ (c : Commit) (all : Commits v g.minimum x.seen x.told c) (shows : CommitShows g opening x.seen x.told.ended x.commit c)
        (asked : commit_asks v c ≡ Some r) where
      abbrev s : Scene
      s = x.seen.scene

      abbrev key : List ℕ
      key = success_key v.dest.key

      set_reads : (m : Committer) (t : ℕ) → only_reads (set_request m v t) ≡ true
      set_reads m t = grind arith

      no_file : (p : Pending) → IsCommit v g.minimum x.told.publish_sent x.told.drawn p → key ≡ p.destination → ⊥
      no_file p y e = no_success j y.file.0 (file_path j y.by y.file y.mine) (sym (e ∙ ap (λ (q : Pending). q.destination) y.is))

      commit_leaves : (d : Commit) → d ≡ c → u.put_mark ≡ false → NoMark v s → NoMark v (effect s r o)
      commit_leaves (Fetching sets m) is put none =
          subst (λ q. NoMark v (effect s q o)) (some_is (ap (commit_asks v) is
          ∙ asked)) (read_mark v j s (set_request v.committer v (length sets)) (set_reads v.committer (length sets)) o none)
      commit_leaves (Replacing sets p ps t m) is put none =
          let empty = (subst (λ d. CommitShows g opening x.seen x.told.ended x.commit d) (sym is) shows).empty in
          subst (λ q. NoMark v (effect s q o)) (some_is (ap (commit_asks v) is
          ∙ asked)) (elim (taken_after g j opening s all.hold.there p t empty.under o key) [
            | inl same ↦ same
                ∙ none
            | inr gone ↦ gone.0
          ])
      commit_leaves (Completing sets t ts finished) is put none =
          let here = subst (Commits v g.minimum x.seen x.told) (sym is) all in
          let p = nth (all_commits sets) t.number in
          let y = (of_sets j all.hold sets here.fits p (nth_of (all_commits sets) t.number (here.tabled.within t (inl refl)))).1.commit in
          subst (λ q. NoMark v (effect s q o)) (some_is (ap (commit_asks v) is
          ∙ asked)) (effect_so (NoMark v) s (completion p) o none (other_key j all.hold all.gone p y key (no_file p y) ∙ none))
      commit_leaves (Marking sets m) is put none = by o refl
        where
          marking : is_marking v r ≡ true
          marking =
              ap (is_marking v) (sym (some_is (ap (commit_asks v) is ∙ asked)))
              ∙ rw (text_true v.dest.bucket v.dest.bucket refl, text_true key key refl) refl

          by : (q : Outcome) → q ≡ o → NoMark v (effect s r o)
          by (Answered y) e = absurd (false_true put (mark_puts v k x.seen n r marking o (ap is_effective (sym e))))
          by ReplyLost e = absurd (false_true put (mark_puts v k x.seen n r marking o (ap is_effective (sym e))))
          by _ e = subst (λ q. NoMark v (effect s r q)) e none
      commit_leaves (Reverting q qs m) is put none =
          let here = subst (Commits v g.minimum x.seen x.told) (sym is) all in
          let y = here.decides q (inl refl) in
          subst (λ z. NoMark v (effect s z o)) (some_is (ap (commit_asks v) is ∙ asked)) (elim y.2 [
            | inl e ↦ subst (λ z. NoMark v (effect s z o)) (sym e) (effect_so (NoMark v) s (abort y.0) o none
                (abort_keys j all.hold all.gone y.0 y.1 key ∙ none))
            | inr e ↦ subst (λ z. NoMark v (effect s z o)) (sym e) (effect_so (NoMark v) s (deletion y.0) o none (elim
                (same_or_other key y.0.destination) [
                  | inl same ↦ ap (at_key v (apply s (deletion y.0)).content) same ∙ deletion_key j all.hold all.gone y.0 y.1
                  | inr ne ↦ deletion_other j all.hold all.gone y.0 y.1 key ne ∙ none
                ]))
          ])
      commit_leaves (CommitOver end) is put none = absurd (none_some refl (ap (commit_asks v) is ∙ asked))

  -- ---- an entry of the driver

  driver_clears : (es : List Entry) (x : Stand) (op : Operation) (n : ℕ) (r : Request) (o : Outcome) → Runs g k opening es x
      → AreOwn es → x.driver ≡ Some op → asks g (who Driver) nothing_learnt op ≡ Some r → IsHonestOutcome o (answer x.seen.scene r)
      → Clears v (Some op) x.seen → Clears v (Some (tells g (who Driver) op o)) (see v k x.seen (driver_entry n r o))
  driver_clears es x (TheSetup t) n r o run own d asked honest old = elim (good g k opening j is es x run) [
    | inr l ↦ let at = subst (λ q. At g opening q x.seen x.told) d l.driver in absurd (none_some (ap (setup_asks v) at.0) asked)
    | inl e ↦ elim e.setup [
      | inl none ↦ absurd (none_some none d)
      | inr y ↦
          let same : y.0 ≡ t = setup_is (some_is (sym y.1 ∙ d)) in
          let up = subst (λ (q : Retried Setup). SetsUp v x.seen.scene.content q.operation) same y.2 in
          subst (λ q. AfterSetup v (step v.retries (setup_after v) t o).operation q) (sym (scene_is x n r o))
          (setup_clears v j x.seen.scene v.retries t up old r asked o honest)
    ]
  ]
    where
      setup_is : {p q : Retried Setup} → TheSetup p ≡ TheSetup q → p ≡ q
      setup_is e = cc
  driver_clears es x (TheCommit c) n r o run own d asked honest old = λ put.
      let b = in_commit g k opening j is es x run c d in
      let i = b.2 in
      let shows = subst (λ q. Shows g opening q x.seen x.told x.commit) d (shown g k opening j is es x run own) in
      let all : Commits v g.minimum x.seen x.told c = record {
        hold = b.0;
        gone = b.1;
        fits = i.fits;
        tabled = i.tabled;
        turns =
            i.turns;
        decides = i.decides;
      } in
      leaves_by x n r o (commit_leaves x n r o c all shows asked c refl put) old put
  driver_clears es x (TheClean t) n r o run own d asked honest old =
      let l = late_now g k opening j is es x run (ap is_set d) in
      let at = subst (λ q. At g opening q x.seen x.told) d l.driver in
      leaves_by x n r o (hidden_mark v j x.seen.scene l.hold.there r
      (clean_hides v g.minimum k x.seen x.told n j l.hold t.operation at r asked) o) old
  driver_clears es x (TheCheck t) n r o run own d asked honest old =
      let go = leaves_by x n r o (read_mark v j x.seen.scene r (check_reads g j t.operation r asked) o) old in
      after_check_so g (λ q. Clears v (Some q) (see v k x.seen (driver_entry n r o))) go (λ q. go) (step v.retries (check_after v) t o)
  driver_clears es x (TheSparing t) n r o run own d asked honest old =
      let l = late_now g k opening j is es x run (ap is_set d) in
      let at = subst (λ q. At g opening q x.seen x.told) d l.driver in
      leaves_by x n r o (hidden_mark v j x.seen.scene l.hold.there r (sparing_hides g j x.told t.operation at r asked) o) old
  driver_clears es x op n r o run own d asked honest old = elim (good g k opening j is es x run) [
    | inr l ↦ absurd (subst (λ q. At g opening q x.seen x.told) d l.driver)
    | inl e ↦ elim e.setup [ inl none ↦ absurd (none_some none d) | inr y ↦ absurd (no_setup (sym y.1 ∙ d)) ]
  ]
    where
      no_setup : {p : Retried Setup} → Some (TheSetup p) ≡ Some op → ⊥
      no_setup e = cc

  -- ---- whatever begins

  begins_clear : (x : Stand) (b : Beginning) → MayBegin g x b → Clears v x.driver x.seen → Clears v (begin g x b).driver x.seen
  begins_clear x BeginSetup may h = tt
  begins_clear x (BeginCommit reports) may h = let none = just_clears v x.driver x.seen may h in
      commit_of_so g (λ q. Clears v (Some q) x.seen) (λ missing p. none) (λ t p. none) reports
  begins_clear x BeginClean may h = let none = set_clears v x.driver x.seen may h in clean_of_so g (λ q. Clears v (Some q) x.seen) none none
  begins_clear x _ may h = h

  same_clears : (d : Option Operation) (s t : Seen) → at_key v t.scene.content (success_key v.dest.key) ≡ at_key v s.scene.content
      (success_key v.dest.key) → t.put_mark ≡ s.put_mark → Clears v d s → Clears v d t
  same_clears None s t e p h = tt
  same_clears (Some (TheSetup q)) s t e p h = same_after q.operation h
    where
      same_after : (q : Setup) → AfterSetup v q s.scene → AfterSetup v q t.scene
      same_after (Sweeping y) h = e ∙ h
      same_after (SetupOver setups.Done) h = e ∙ h
      same_after _ h = tt
  same_clears (Some _) s t e p h = λ put. e ∙ h (sym p ∙ put)

  clears : (es : List Entry) (x : Stand) → Runs g k opening es x → AreOwn es → Clears v x.driver x.seen
  clears =
      each_run g k opening (λ es x. AreOwn es → Clears v x.driver x.seen) (λ own. tt) (λ es x b run may h own. begins_clear x b may (h own))
      (λ es x op n r o run d asked timely few honest h own. driver_clears es x op n r o run (own_front es _ own) d asked honest (subst
      (λ q. Clears v q x.seen) d (h (own_front es _ own))))
      (λ es x a op n r o run set at asked honest h own.
      let l = late_now g k opening j is es x run set in
      let f = l.fine a op at in
      let mine = operation_own g j x.told a f.0 op f.1 r asked in
      let quiet = attempt_quiet v k x.seen a n r l.hold.there (λ b q i. mine.keys q i) o in
      same_clears x.driver x.seen (see v k x.seen (entry a n r o)) (quiet.keys (success_key v.dest.key)
      (key_magic v.dest.key v.job SuccessPlace (some_dest j) tt)) quiet.mark (h (own_front es _ own)))
      (λ es x n r o run f h own. absurd (false_true refl (own_last es _ own)))

  -- ---- once the commit has begun

  at_clears : (d : Option Operation) (s : Seen) (m : Told) → At g opening d s m → Clears v d s → s.put_mark ≡ false → NoMark v s.scene
  at_clears (Some (TheSetup t)) s m at h put = subst (λ q. AfterSetup v q s.scene) at.0 h
  at_clears None s m at h put = absurd at
  at_clears (Some _) s m at h put = h put

  begun_clears : (es : List Entry) (x : Stand) → Runs g k opening es x → AreOwn es → x.seen.begun ≡ true → x.seen.put_mark ≡ false
      → NoMark v x.seen.scene
  begun_clears es x run own begun put = elim (good g k opening j is es x run) [
    | inl e ↦ absurd (false_true e.unbegun begun)
    | inr l ↦ at_clears x.driver x.seen x.told l.driver (clears es x run own) put
  ]

  -- At each moment of a run in which only the job's actors send.
  pub no_old : (es : List Entry) (x : Stand) → Runs g k opening es x → AreOwn es → (m : ℕ) → (seen v k opening es m).begun ≡ true
      → (seen v k opening es m).put_mark ≡ false → NoMark v (seen v k opening es m).scene
  no_old es x run own m begun put =
      let f = front g k opening j is es x run m in
      let same = sees g k opening j is (take m es) f.0 f.1 in
      subst (λ (s : Seen). NoMark v s.scene) same (begun_clears (take m es) f.0 f.1 (own_taken es m own) (ap (λ
      (s : Seen). s.begun) same ∙ begun) (ap (λ (s : Seen). s.put_mark) same ∙ put))
