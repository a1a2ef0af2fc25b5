-- Until the driver cleans up, each task that is reported was published.
use Rattle.text_and_lists.proofs.Members.{eq_nat, false_true, nat_true, none_some, same_or_not, some_is, true_or_false}
use Rattle.job_invariant.proofs.Whose.{attempt}
use Rattle.job_invariant.specs.Standing.{HasPublished}
use Rattle.job_invariant.specs.Told.{Told, nothing_told, strange_entry, tell, tell_all, tell_by}
use Rattle.job_model.specs.Attempts.{Declared, Who, actor_of}
use Rattle.job_model.specs.JobScript.{Script}
use Rattle.job_model.specs.Legal.{IsLegal}
use Rattle.job_model.specs.declared.ends.ActorEnd.{ActorEnd}
use Rattle.job_model.specs.declared.ends.EventEnd.{EventEnd}
use Rattle.job_model.specs.declared.ends.OpEnd.{OpEnd}
use Rattle.job_model.specs.declared.ends.TaskEnd.{TaskEnd}
use Rattle.job_model.specs.declared.events.Event.{Event}
use Rattle.job_model.specs.declared.events.Op.TheVariants.{Commit}
use Rattle.job_model.specs.declared.states.ActorStage.{ActorStage}
use Rattle.job_model.specs.declared.states.Life.TheVariants.{Busy}
use Rattle.job_protocol.specs.Operations.{Operation, Running, Setting, TheTaskCommit, over}
use Rattle.job_protocol.specs.Seen.{Seen, Times, is_begun, is_publishing, nothing_seen, see, see_all, see_by, seen}
use Rattle.job_protocol.specs.TaskCommits.{TaskCommit, TaskCommitOver}
use Rattle.job_spec.proofs.Told.{last_still, scene_is}
use Rattle.job_spec.specs.States.{clean_event, first_not, is_committing, is_done, is_reported, missing, open_event, report, times}
use Rattle.job_spec.specs.Turns.{is_memory}
use Rattle.script_steps.proofs.Actors.{one_put}
use Rattle.script_steps.proofs.Running.{carried, closed_ahead, finished_ahead, is_run, not_refused, opened_ahead, refused_ahead, sent_ahead}
use Rattle.script_steps.proofs.Running.{strayed_ahead}
use Rattle.script_steps.proofs.RunningAlong.{busy_at}
use Rattle.script_steps.proofs.RunningStages.{may_end}
use Rattle.script_steps.proofs.RunningTasks.{Held, at_commit}
use Rattle.script_steps.specs.Running.{Ahead, IsRun, operation_of}
use Rattle.script_steps.specs.Transitions.{Closes, Finishes, MayFinish, Opens, Play, Reachable, Refuses, Sends, Strays, happen, happens}
use Rattle.script_steps.specs.Transitions.{nothing_happened}
use Rattle.protocol_runs.proofs.Entries.{see_more, sees, tells_so}
use Rattle.protocol_runs.proofs.Published.{has_published}
use Rattle.protocol_runs.specs.Runs.{IsOpening, Runs, Stand}
use Rattle.retries.specs.Retries.{Retried}
use Rattle.s3_types.specs.Moment.{is_effective}
use Rattle.s3_types.specs.Store.{Content}
use Rattle.s3_types.specs.declared.journal.Entry.{Entry}
use Rattle.s3_types.specs.declared.journal.Outcome.{Outcome}
use Rattle.s3_types.specs.declared.journal.Outcome.TheVariants.{RequestLost, Slow}
use Rattle.s3_types.specs.declared.request.Actor.{Actor}
use Rattle.s3_types.specs.declared.request.Actor.TheVariants.{Attempt, Driver}
use Rattle.s3_types.specs.declared.request.Request.{Request}
use Rattle.std.proofs.Common.{Bool, List, None, Some, ap, arith, cond, false, inl, inr, length, nat_eq, refl, slice_get, subst, suc, sym}
use Rattle.std.proofs.Common.{take, true, zero, ℕ, [], ◌&&◌, ◌++◌, ◌+◌, ◌<◌, ◌||◌, ◌∙◌, ◌∷◌, ◌≡◌, ◌≤◌, ◌⊎◌}
use Rattle.std.proofs.lemmas.Bool.{and_parts, or_cases}
use Rattle.std.specs.List.{list_any}
use Rattle.job_model.specs.declared.ends.TaskEnd.TheVariants as tasks
use Rattle.job_model.specs.declared.ends.OpEnd.TheVariants as ends

-- If the driver has begun to clean up, it has ever after.
tell_keeps : (w : Script) (m : Told) (e : Entry) → m.cleaned ≡ true → (tell w m e).cleaned ≡ true
tell_keeps w m e h = elim e.actor as (λ a. (tell_by w m e.event e.request e.outcome a).cleaned ≡ true)
    [ Driver ↦ ap (λ c. c || is_begun m.cleans_at e.event) h | _ ↦ h ]

cleaned_more : (w : Script) (m : Told) (es : List Entry) (e : Entry) → (tell_all w m es).cleaned ≡ true
    → (tell_all w m (es ++ e ∷ [])).cleaned ≡ true
cleaned_more w m [] e h = tell_keeps w m e h
cleaned_more w m (x ∷ es) e h = cleaned_more w (tell w m x) es e h

-- ---- who has published

-- A task that was published still is after more entries.
pub last_more : (w : Script) (k : Times) (s : Seen) (es : List Entry) (t : ℕ) → HasPublished s t → HasPublished (see_all w k s es) t
last_more w k s [] t h = h
last_more w k s (e ∷ es) t h = last_more w k (see w k s e) es t (last_still w k s e t h)

module _ (w : Script) (k : Times) where
  -- After a publishing request that took effect, the task is published.
  published_here : (s : Seen) (n : ℕ) (r : Request) (o : Outcome) (t a : ℕ) → is_effective o ≡ true → is_publishing w s.scene t r ≡ true
      → HasPublished (see_by w k s n r o (Attempt t a)) t
  published_here s n r Slow t a took h = absurd (false_true refl took)
  published_here s n r RequestLost t a took h = absurd (false_true refl took)
  published_here s n r _ t a took h = (a, rw (nat_true t t refl, h) refl)

  -- It is published ever after.
  published_at : (s : Seen) (es : List Entry) (m : ℕ) (e : Entry) (t a : ℕ) → slice_get es m ≡ Some e → e.actor ≡ Attempt t a
      → is_effective e.outcome ≡ true → is_publishing w (see_all w k s (take m es)).scene t e.request ≡ true
      → HasPublished (see_all w k s es) t
  published_at s [] m e t a at by took h = absurd (none_some refl at)
  published_at s (x ∷ es) zero e t a at by took h =
      let is : x ≡ e = some_is at in
      let here : HasPublished (see w k s e) t = subst (λ c. HasPublished (see_by w k s e.event e.request e.outcome c) t) (sym by)
      (published_here s e.event e.request e.outcome t a took h) in
      last_more w k (see w k s x) es t (subst (λ v. HasPublished (see w k s v) t) (sym is) here)
  published_at s (x ∷ es) (suc m) e t a at by took h = published_at (see w k s x) es m e t a at by took h

module _ (g : Setting) (k : Times) (opening : Content) (j : IsLegal g.script) (is_opening : IsOpening g opening) where
  -- If an attempt's commit is done, its task is published, until the driver cleans up.
  done_published : (es : List Entry) (x : Stand) → Runs g k opening es x → x.told.cleaned ≡ false → (a : Who) (t : Retried TaskCommit)
      → x.attempts a ≡ Some (TheTaskCommit t) → t.operation ≡ TaskCommitOver tasks.Done → HasPublished x.seen a.task
  done_published es x run clean a t at done =
      let over : x.attempts a ≡ Some (TheTaskCommit (record
      { operation = TaskCommitOver tasks.Done; spare = t.spare; repeated = t.repeated })) = at ∙ ap
      (λ v. Some (TheTaskCommit (record { operation = v; spare = t.spare; repeated = t.repeated }))) done in
      let own = (has_published g k opening j is_opening es x run clean a t.spare t.repeated over).1 in
      let then : is_publishing g.script (seen g.script k opening es own.m).scene a.task own.entry.request ≡ true = ap
      (λ s. is_publishing g.script s a.task own.entry.request) (scene_is g.script k opening es own.m) ∙ own.publishes in
      subst (λ s. HasPublished s a.task) (sym (sees g k opening j is_opening es x run))
      (published_at g.script k (nothing_seen opening) es own.m own.entry a.task a.attempt own.is_entry own.by own.effective then)

-- ---- what is reported

abbrev pub AllReported : (Actor → Bool) → Seen → Type 0
AllReported reported s = (t n : ℕ) → reported (Attempt t n) ≡ true → HasPublished s t

-- If no task is missing, all are reported.
none_left : (p : ℕ → Bool) (t n : ℕ) → first_not p t n ≡ None → (u : ℕ) → t ≤ u → u < t + n → p u ≡ true
none_left p t zero e u low high = absurd (omega (arith, low, high))
none_left p t (suc n) e u low high = elim (true_or_false (p t)) [
  | inr q ↦ absurd (none_some (sym (ap (λ b. cond b (first_not p (t + 1) n) (Some t)) q) ∙ e) refl)
  | inl q ↦ elim (same_or_not u t) [
    | inl is ↦ ap p is ∙ q
    | inr ne ↦ none_left p (t + 1) n (sym (ap (λ b. cond b (first_not p (t + 1) n) (Some t)) q) ∙ e) u (omega (arith, low, ne))
        (omega (arith, high))
  ]
]

-- If a task is reported, some attempt has reported it.
reported_by : (reported : Actor → Bool) (t : ℕ) (ds : List Declared)
    → list_any (λ a. nat_eq a.0.task t && reported (actor_of a.0)) ds ≡ true → (n : ℕ) × (reported (Attempt t n) ≡ true)
reported_by reported t [] h = absurd (false_true refl h)
reported_by reported t (d ∷ ds) h = elim (or_cases (nat_eq d.0.task t && reported (actor_of d.0)) _ h) [
  | inl here ↦
      let x = and_parts (nat_eq d.0.task t) (reported (actor_of d.0)) here in
      (d.0.attempt, subst (λ v. reported (Attempt v d.0.attempt) ≡ true) (eq_nat d.0.task t x.0) x.1)
  | inr more ↦ reported_by reported t ds more
]

-- If no task is missing, each is published.
pub all_published : (w : Script) (reported : Actor → Bool) (s : Seen) → AllReported reported s → missing w reported ≡ None → (t : ℕ)
    → t < w.tasks → HasPublished s t
all_published w reported s all none t low = let x = reported_by reported t w.attempts
    (none_left (is_reported w reported) 0 w.tasks none t (omega arith) (omega (arith, low))) in all t x.0 x.1

-- An end that reports: that of an attempt's commit which is done.
record Reporting (a : Actor) (s : ActorStage) (e : OpEnd) (t : ℕ) : Type 0 where
  number : ℕ
  actor : a ≡ Attempt t number
  stage : is_committing s ≡ true
  done : e ≡ ends.Task tasks.Done

done_is : (e : OpEnd) → is_done e ≡ true → e ≡ ends.Task tasks.Done
done_is e h = grind arith

reporting : (a : Actor) (s : ActorStage) (e : OpEnd) (p : Actor → Bool) (t n : ℕ) → report a s e p (Attempt t n) ≡ true
    → (p (Attempt t n) ≡ true) ⊎ Reporting a s e t
reporting (Attempt u m) s e p t n =
    one_put (λ v. v ≡ true → (p (Attempt t n) ≡ true) ⊎ Reporting (Attempt u m) s e t) p (Attempt u m)
    (p (Attempt u m) || (is_committing s && is_done e)) (Attempt t n)
    (λ is h. elim (or_cases (p (Attempt u m)) (is_committing s && is_done e) h) [
      | inl old ↦ inl (ap p is ∙ old)
      | inr now ↦ (let y = and_parts (is_committing s) (is_done e) now in inr
          (record { number = n; actor = sym is; stage = y.0; done = done_is e y.1 }))
    ])
    (λ ne. inl)
reporting _ s e p t n = inl

-- Two ends of attempts' operations that are equal as ends of operations are equal.
task_is : {x y : TaskEnd} → ends.Task x ≡ ends.Task y → x ≡ y
task_is e = cc

done_commit : (op : Operation) → Held Commit (Some op) → over op ≡ Some (ends.Task tasks.Done) → (t : Retried TaskCommit)
    × (op ≡ TheTaskCommit t) × (t.operation ≡ TaskCommitOver tasks.Done)
done_commit op h g = grind arith

-- ---- every run

module _ (g : Setting) (opening : Content) (j : IsLegal g.script) (is_opening : IsOpening g opening) (all_ends : List EventEnd) where
  abbrev w : Script
  w = g.script

  abbrev k : Times
  k = times w all_ends

  abbrev pub seen_of : Play → Seen
  seen_of x = see_all w k (nothing_seen opening) x.journal

  -- The driver has not begun to clean up.
  abbrev pub Unclean : Play → Type 0
  Unclean x = (tell_all w (nothing_told (clean_event w all_ends)) x.journal).cleaned ≡ false

  pub record Reported (x : Play) : Type 0 where
    pub live : AllReported x.live.reported (seen_of x)
    pub past : AllReported x.past.reported (seen_of x)

  opened : (y : Play) (ev : Event) → AllReported y.past.reported (seen_of y) → AllReported (open_event w y.past ev).reported (seen_of y)
  opened y ev h = grind arith

  -- A task that is published is published ever after.
  pub later : (y : Play) (e : Entry) (t : ℕ) → HasPublished (seen_of y) t
      → HasPublished (see_all w k (nothing_seen opening) (y.journal ++ e ∷ [])) t
  later y e t h = subst (λ s. HasPublished s t) (sym (see_more w k (nothing_seen opening) y.journal e)) (last_still w k (seen_of y) e t h)

  -- If the driver has not begun to clean up after an entry, it had not before it.
  pub unclean_before : (y : Play) (e : Entry) → (tell_all w (nothing_told (clean_event w all_ends)) (y.journal ++ e ∷ [])).cleaned ≡ false
      → Unclean y
  unclean_before y e h =
      elim (true_or_false (tell_all w (nothing_told (clean_event w all_ends)) y.journal).cleaned)
      [ inl c ↦ absurd (false_true h (cleaned_more w (nothing_told (clean_event w all_ends)) y.journal e c)) | inr c ↦ c ]

  finishes : (y : Play) → Reachable g opening y → Ahead y all_ends → (v : ActorEnd) → MayFinish y v → Unclean y → Reported y
      → Reported (happen g y (Finishes v))
  finishes y past ahead v may clean old = record {
    live = λ t n h. elim (reporting v.actor (y.live.state v.actor).stage v.end y.live.reported t n h)
        [ inl before ↦ old.live t n before | inr now ↦ published t now (may_end y v may) ];
    past = old.past;
  }
    where
      run : IsRun g opening y (times w all_ends)
      run = is_run g opening j is_opening y past all_ends ahead

      published : (t : ℕ) → Reporting v.actor (y.live.state v.actor).stage v.end t
          → ((is_memory v.end ≡ true) ⊎ ((m : Running) × (y.running v.actor ≡ Some m) × (over m.operation ≡ Some v.end)))
          → HasPublished (seen_of y) t
      published t r (inl memory) = absurd (false_true (ap is_memory r.done) memory)
      published t r (inr q) =
          let b = attempt t r.number in
          let m = q.0 in
          let here : y.running (actor_of b) ≡ Some m = ap y.running (sym r.actor) ∙ q.1 in
          let h = (carried g opening j is_opening y past all_ends ahead).along in
          let busy : (y.live.state (actor_of b)).life ≡ Busy = ap (λ a. (y.live.state a).life) (sym r.actor) ∙ may.busy in
          let staged : is_committing (y.live.state (actor_of b)).stage ≡ true = ap (λ a. is_committing (y.live.state a).stage) (sym r.actor)
          ∙ r.stage in
          let is_task = at_commit (y.live.state (actor_of b)).stage m.operation staged
          (busy_at g opening k j is_opening h (actor_of b) m busy here) in
          let d = done_commit m.operation is_task (q.2 ∙ ap (λ v. Some v) r.done) in
          let told : run.stand.told.cleaned ≡ false = ap (λ (z : Told). z.cleaned)
          (tells_so g k opening j is_opening y.journal run.stand run.runs) ∙ ap (λ c. (tell_all w (nothing_told c) y.journal).cleaned)
          run.cleans ∙ clean in
          let here_at : run.stand.attempts b ≡ Some (TheTaskCommit d.0) = run.attempts b ∙ ap operation_of here ∙ ap (λ v. Some v) d.1 in
          let has = done_published g k opening j is_opening y.journal run.stand run.runs told b d.0 here_at d.2 in
          subst (λ s. HasPublished s b.task) (sees g k opening j is_opening y.journal run.stand run.runs) has

  pub reported : (x : Play) → Reachable g opening x → Ahead x all_ends → Unclean x → Reported x
  reported x (nothing_happened) ahead clean = record {
    live = λ t n h. absurd (false_true refl h);
    past = λ t n h. absurd
        (false_true refl h);
  }
  reported x (happens y (Refuses f) past may) ahead clean = let old = reported y past (refused_ahead g y f all_ends may.1.idle ahead) clean
      in record { live = old.past; past = old.past }
  reported x (happens y (Opens ev) past may) ahead clean = let old = reported y past (opened_ahead g y ev all_ends may.idle ahead) clean in
      record { live = opened y ev old.past; past = old.past }
  reported x (happens y (Sends e) past may) ahead clean =
      let old = reported y past (sent_ahead g y e all_ends ahead) (unclean_before y e clean) in
      record { live = λ t n h. later y e t (old.live t n h); past = λ t n h. later y e t (old.past t n h) }
  reported x (happens y (Strays r o) past may) ahead clean =
      let e = strange_entry (length y.ends) r o in
      let old = reported y past (strayed_ahead g y r o all_ends ahead) (unclean_before y e clean) in
      record { live = λ t n h. later y e t (old.live t n h); past = λ t n h. later y e t (old.past t n h) }
  reported x (happens y (Finishes v) past may) ahead clean = let before = finished_ahead g y v all_ends ahead in finishes y past before v
      may clean (reported y past before clean)
  reported x (happens y (Closes end) past may) ahead clean =
      let old = reported y past (closed_ahead g y end all_ends (not_refused w y.past.state may.event end _ may.turns) ahead) clean in
      record { live = old.live; past = old.live }
