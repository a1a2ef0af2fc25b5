-- The operations of a job's actors, request by request, as far as the entries tell.
use Rattle.job_operations.proofs.WorksReported.{AllRead, DriverReads, driver_reads}
use Rattle.job_operations.proofs.WorksTasks.{OwnTask, own_task}
use Rattle.text_and_lists.proofs.Members.{none_some}
use Rattle.job_invariant.specs.Emptying.{SetsUp}
use Rattle.job_invariant.specs.FiledLaws.{Commits}
use Rattle.job_invariant.specs.Told.{Told, nothing_told, tell_all}
use Rattle.job_model.specs.Attempts.{Who, actor_of}
use Rattle.job_model.specs.JobScript.{Script}
use Rattle.job_model.specs.Legal.{IsLegal}
use Rattle.job_model.specs.declared.ends.EventEnd.TheVariants.{Done}
use Rattle.job_protocol.specs.JobCommits.{Commit, Fetching, Replacing, Sets, picks_of, replaced}
use Rattle.job_protocol.specs.Operations.{Operation, Running, Setting, TheCommit, TheSetup}
use Rattle.job_protocol.specs.Seen.{Seen, Times}
use Rattle.job_protocol.specs.Setup.{Setup, SetupOver}
use Rattle.job_refinement.proofs.Kept.{set_stands}
use Rattle.job_refinement.specs.Due.{SetStands}
use Rattle.job_spec.specs.States.{times}
use Rattle.script_steps.proofs.Running.{is_run}
use Rattle.script_steps.proofs.RunningCommits.{goes_on}
use Rattle.script_steps.specs.Running.{IsRun, operation_of}
use Rattle.script_steps.specs.Transitions.{Play, Reachable, scene_of}
use Rattle.protocol_runs.proofs.Changes.{moment_scene}
use Rattle.protocol_runs.proofs.Entries.{late_now, sees, tells_so}
use Rattle.protocol_runs.proofs.EveryRun.{good}
use Rattle.protocol_runs.proofs.Running.{At, Early, InCommit, Late, Replaces}
use Rattle.protocol_runs.specs.Runs.{IsOpening, Stand, is_set}
use Rattle.list_walk.specs.Walks.{Sweep}
use Rattle.retries.specs.Retries.{Retried}
use Rattle.s3_types.specs.Store.{Content}
use Rattle.s3_types.specs.declared.request.Actor.{Actor}
use Rattle.s3_types.specs.declared.request.Actor.TheVariants.{Driver}
use Rattle.s3_types.specs.declared.request.Committer.TheVariants.{Magic}
use Rattle.std.proofs.Common.{List, None, Some, ap, arith, inl, inr, refl, subst, sym, true, ℕ, [], ◌++◌, ◌∙◌, ◌∷◌, ◌≡◌, ◌⊎◌}
use Rattle.job_model.specs.declared.ends.SetupEnd.TheVariants as setups

no_replacing : {X : Type 0} (front : List X) (p : X) (ps : List X) → front ++ p ∷ ps ≡ [] → ⊥
no_replacing [] p ps e = cc
no_replacing (x ∷ front) p ps e = cc

-- The job's commit, with all the facts that it requires.
pub record CommitNow (g : Setting) (s : Seen) (m : Told) (c : Commit) : Type 0 where
  pub commits : Commits g.script g.minimum s m c
  pub stands : SetStands g.script s c

module _ (g : Setting) (opening : Content) (x : Play) (j : IsLegal g.script) (is_opening : IsOpening g opening)
    (past : Reachable g opening x) where
  abbrev w : Script
  w = g.script

  abbrev pub event : Times
  event = times w (x.ends ++ Done ∷ [])

  -- the same run, request by request
  pub run : IsRun g opening x (times w (x.ends ++ Done ∷ []))
  run = is_run g opening j is_opening x past (x.ends ++ Done ∷ []) (goes_on x)

  abbrev pub stand : Stand
  stand = run.stand

  pub scene_is : stand.seen.scene ≡ scene_of opening x
  scene_is = sym (moment_scene g event opening j is_opening x.journal stand run.runs)

  pub driver_is : (a : Actor) (m : Running) → a ≡ Driver → x.running a ≡ Some m → stand.driver ≡ Some m.operation
  driver_is a m e is = run.driver ∙ ap operation_of (ap x.running (sym e) ∙ is)

  pub attempt_is : (b : Who) (m : Running) → x.running (actor_of b) ≡ Some m → stand.attempts b ≡ Some m.operation
  attempt_is b m is = run.attempts b ∙ ap operation_of is

  good_now : Early g opening stand ⊎ Late g opening stand
  good_now = good g event opening j is_opening x.journal stand run.runs

  -- If an attempt runs an operation, the set-up is done.
  pub late_by : (b : Who) (op : Operation) → stand.attempts b ≡ Some op → Late g opening stand
  late_by b op at = elim good_now [ inl e ↦ absurd (none_some (e.none b) at) | inr l ↦ l ]

  pub late_set : is_set stand.driver ≡ true → Late g opening stand
  late_set set = late_now g event opening j is_opening x.journal stand run.runs set

  pub own_now : (b : Who) (op : Operation) → stand.attempts b ≡ Some op → OwnTask w b op
  own_now b op at = own_task g event opening j is_opening x.journal stand run.runs b op at

  -- ---- the driver's set-up

  setup_is : {t u : Retried Setup} → Some (TheSetup t) ≡ Some (TheSetup u) → t ≡ u
  setup_is e = cc

  -- The set-up is over, or nobody else has begun anything.
  pub setup_now : (t : Retried Setup) → stand.driver ≡ Some (TheSetup t) → (t.operation ≡ SetupOver setups.Done)
      ⊎ (SetsUp w stand.seen.scene.content t.operation × ((b : Who) → stand.attempts b ≡ None))
  setup_now t h = grind (arith, good_now, setup_is, At)

  -- ---- the driver's commit

  module _ (c : Commit) (d : stand.driver ≡ Some (TheCommit c)) where
    commit_late : Late g opening stand
    commit_late = late_set (ap is_set d)

    in_commit : InCommit g opening stand.seen.picks stand.told c
    in_commit = subst (λ v. At g opening v stand.seen stand.told) d commit_late.driver

    -- a magic job has no replace mode
    pub never_replaces : w.committer ≡ Magic → (sets : Sets) (p : List ℕ) (ps : List (List ℕ)) (t : Sweep) (n : ℕ)
        → c ≡ Replacing sets p ps t n → ⊥
    never_replaces magic sets p ps t n is =
        let h = subst (Replaces g opening) is in_commit.replaces in
        no_replacing h.0 p ps (h.1 ∙ ap (λ z. replaced z w.mode w (picks_of sets)) magic)

    reads : AllRead w stand.seen c
    reads =
        let clean = sym (ap (λ (z : Told). z.cleaned) (tells_so g event opening j is_opening x.journal stand run.runs) ∙ ap
        (λ c. (tell_all w (nothing_told c) x.journal).cleaned) run.cleans) ∙ in_commit.uncleaned in
        let h = driver_reads g opening j is_opening (x.ends ++ Done ∷ []) x past (goes_on x) clean in
        subst (λ v. DriverReads w stand.seen v) (sym run.driver ∙ d) (subst (λ s. DriverReads w s (operation_of (x.running Driver)))
        (sym (sees g event opening j is_opening x.journal stand run.runs)) h)

    commits : Commits w g.minimum stand.seen stand.told c
    commits = record {
      hold = commit_late.hold;
      gone = commit_late.gone in_commit.uncleaned;
      fits = in_commit.fits;
      tabled =
          in_commit.tabled;
      turns = in_commit.turns;
      decides = in_commit.decides;
    }

    stands : (v : Commit) → v ≡ c → AllRead w stand.seen v → SetStands w stand.seen v
    stands (Fetching sets n) is all = set_stands w g.minimum stand.seen stand.told (Fetching sets n) commit_late.hold
        (subst (λ z. Commits w g.minimum stand.seen stand.told z) (sym is) commits).fits in_commit.uncleaned all
    stands _ is all = tt

    pub commit_now : CommitNow g stand.seen stand.told c
    commit_now = record { commits = commits; stands = stands c refl reads }
