-- The picks at each moment of a run.
use Rattle.text_and_lists.proofs.Members.{false_true, true_or_false}
use Rattle.job_invariant.proofs.Sharing.{check_plain}
use Rattle.job_invariant.proofs.Wanted.{same_picked}
use Rattle.job_invariant.specs.Told.{Told, driver_entry, entry, strange_entry}
use Rattle.job_model.specs.JobScript.{Script}
use Rattle.job_model.specs.Legal.{IsLegal}
use Rattle.job_model.specs.declared.ends.CommitEnd.{CommitEnd}
use Rattle.job_outcomes.proofs.CommitRuns.{attempts_leave, picks_on, stood}
use Rattle.job_outcomes.proofs.Shared.{same_shared}
use Rattle.job_outcomes.specs.CommitMoments.{CommitMoments, NoneRead}
use Rattle.job_outcomes.specs.CommitRuns.{CommitStands, IsDue, PicksGrow}
use Rattle.job_protocol.specs.JobCommits.{Commit, CommitOver, Sets, commit_tells, is_untouched, picks_of}
use Rattle.job_protocol.specs.Operations.{Operation, Setting, TheCheck, TheClean, TheCommit, TheSetup, TheSparing, TheTaskAbort}
use Rattle.job_protocol.specs.Operations.{TheTaskCommit, TheWrite, asks, who}
use Rattle.job_protocol.specs.Outputs.{Picks, is_clash, is_decided, is_picked, picked_below, same_path}
use Rattle.job_protocol.specs.Seen.{Seen, Times, is_begun, nothing_seen, see, see_all, seen}
use Rattle.job_protocol.specs.View.{Same, view}
use Rattle.job_spec.specs.Ends.{commit_due, end_or}
use Rattle.job_spec.specs.Headline.{Always}
use Rattle.protocol_runs.proofs.Entries.{see_more, sees, take_all}
use Rattle.protocol_runs.proofs.EveryRun.{good}
use Rattle.protocol_runs.proofs.Folds.{each_run}
use Rattle.protocol_runs.proofs.Plain.{clean_plain, closed_picks, entry_picks, one_scene, plain_picks, setup_plain}
use Rattle.protocol_runs.proofs.Running.{At}
use Rattle.protocol_runs.specs.Runs.{IsOpening, IsTimely, Runs, Stand, nothing_learnt}
use Rattle.pending_json.specs.declared.records.PendingSet.{PendingSet}
use Rattle.s3_types.specs.Answer.{answer}
use Rattle.s3_types.specs.Moment.{IsHonestOutcome, after_all, moment}
use Rattle.s3_types.specs.Store.{Content, Scene}
use Rattle.s3_types.specs.declared.journal.Entry.{Entry}
use Rattle.s3_types.specs.declared.journal.Outcome.{Outcome}
use Rattle.s3_types.specs.declared.request.Actor.TheVariants.{Driver}
use Rattle.s3_types.specs.declared.request.Request.{Request}
use Rattle.std.proofs.Common.{List, None, Option, Some, ap, arith, false, inl, inr, length, length-append, not, refl, subst, suc, sym, take}
use Rattle.std.proofs.Common.{true, zero, ℕ, [], ◌&&◌, ◌++◌, ◌+◌, ◌-◌, ◌<◌, ◌^◌, ◌||◌, ◌∙◌, ◌∷◌, ◌≡◌, ◌≤◌, ◌⊎◌}
use Rattle.std.proofs.Math.Bool.{and-false}
use Rattle.std.proofs.Math.Seq.{take-append-add}
use Rattle.std.proofs.lemmas.Bool.{and_parts, cases_lt}
use Rattle.std.proofs.lemmas.List.{take-append-le}
use Rattle.std.proofs.lemmas.Option.{slice_get_past}
use Rattle.std.specs.Option.{is_some, option_map}
use Rattle.job_model.specs.declared.ends.CommitEnd.TheVariants as commits
use Rattle.job_model.specs.declared.ends.FaultStage.TheVariants as stages

-- ---- the scene that the journal shows

scene_is : (w : Script) (k : Times) (s : Seen) (es : List Entry) → (see_all w k s es).scene ≡ after_all s.scene es
scene_is w k s [] = refl
scene_is w k s (e ∷ es) = scene_is w k (see w k s e) es ∙ ap (λ v. after_all v es) (one_scene w k s e)

-- ---- entries that read no set

pub later : (w : Script) (k : Times) (s : Seen) (es : List Entry) → NoneRead w es → (t : ℕ) → (see_all w k s es).picks t ≡ s.picks t
later w k s [] h t = refl
later w k s (e ∷ es) h t = later w k (see w k s e) es h.1 t ∙ entry_picks w k s e h.0 t

read_taken : (w : Script) (es : List Entry) (m : ℕ) → NoneRead w es → NoneRead w (take m es)
read_taken w es zero h = tt
read_taken w [] (suc m) h = tt
read_taken w (e ∷ es) (suc m) h = (h.0, read_taken w es m h.1)

pub see_parts : (w : Script) (k : Times) (s : Seen) (es fs : List Entry) → see_all w k s (es ++ fs) ≡ see_all w k (see_all w k s es) fs
see_parts w k s [] fs = refl
see_parts w k s (e ∷ es) fs = see_parts w k (see w k s e) es fs

-- ---- picks that are none yet, or those at the end

module _ (w : Script) where
  abbrev Towards : Picks → Picks → Type 0
  Towards now end = (t : ℕ) → t < w.tasks → (now t ≡ None) ⊎ (now t ≡ end t)

  picked_each : (p : Picks) (n : ℕ) → picked_below p n ≡ true → (t : ℕ) → t < n → is_some (p t) ≡ true
  picked_each p zero h t l = absurd (omega arith)
  picked_each p (suc n) h t l = elim (cases_lt t n) [
    | inl low ↦ picked_each p n (and_parts (picked_below p n) (is_some (p n)) h).0 t (omega arith)
    | inr high ↦ let e : n ≡ t = omega arith in subst (λ v. is_some (p v) ≡ true) e (and_parts (picked_below p n) (is_some (p n)) h).1
  ]

  -- If the picks are decided, they are those at the end.
  decided_end : (now end : Picks) → Towards now end → is_decided w end ≡ false → is_decided w now ≡ false
  decided_end now end h e = elim (true_or_false (is_decided w now)) [
    | inr no_one ↦ no_one
    | inl yes_all ↦
        let p = and_parts (is_picked w now) (not (is_clash w now)) yes_all in
        let agree : (t : ℕ) → t < w.tasks → end t ≡ now t = λ t l. elim (h t l)
        [ inl none ↦ absurd (false_true (ap is_some none) (picked_each now w.tasks p.0 t l)) | inr is ↦ sym is ] in
        let picked : is_picked w end ≡ is_picked w now = same_picked w now end agree in
        let clash : is_clash w end ≡ is_clash w now = ap is_some (same_shared w now end agree) in
        absurd (false_true e (ap (λ b. b && not (is_clash w end)) picked ∙ ap (λ b. is_picked w now && not b) clash ∙ yes_all))
  ]

module _ (g : Setting) (j : IsLegal g.script) (k : Times) (opening : Content) (is_opening : IsOpening g opening) where
  abbrev w : Script
  w = g.script

  -- ---- one entry

  grown : (before now : Picks) (c d : Commit) → PicksGrow w before now c d → (t : ℕ) → t < w.tasks → (now t ≡ before t) ⊎ (before t ≡ None)
  grown before now c d h t g = grind arith

  -- The operation is one of the driver's.
  abbrev IsDriver : Operation → Type 0
  IsDriver (TheWrite t) = ⊥
  IsDriver (TheTaskCommit t) = ⊥
  IsDriver (TheTaskAbort t) = ⊥
  IsDriver _ = Unit {0}

  late_driver : (op : Operation) (s : Seen) (m : Told) → At g opening (Some op) s m → IsDriver op
  late_driver op s m h = grind arith

  pub no_driver : (es : List Entry) (x : Stand) → Runs g k opening es x → (op : Operation) → x.driver ≡ Some op → (IsDriver op → ⊥) → ⊥
  no_driver es x h op g e = grind (arith, good, late_driver, At)

  driver_on : (es : List Entry) (x : Stand) → Runs g k opening es x → (op : Operation) → x.driver ≡ Some op
      → (n : ℕ) (r : Request) (o : Outcome) → asks g (who Driver) nothing_learnt op ≡ Some r → IsTimely k n op
      → x.seen.scene.content.next ≤ 2 ^ 64 → IsHonestOutcome o (answer x.seen.scene r)
      → (t : ℕ) → t < w.tasks → ((see w k x.seen (driver_entry n r o)).picks t ≡ x.seen.picks t) ⊎ (x.seen.picks t ≡ None)
  driver_on es x run (TheCommit c) d n r o asked timely few honest t l =
      grown x.seen.picks (see w k x.seen (driver_entry n r o)).picks c (commit_tells w c o)
      (picks_on g j k opening is_opening es x run c d (stood g j k opening is_opening es x run c d) n r o asked timely few honest) t l
  driver_on es x run (TheSetup c) d n r o asked timely few honest t l = inl (plain_picks w k x.seen n r
      (setup_plain w c.operation r asked).reads o t)
  driver_on es x run (TheClean c) d n r o asked timely few honest t l = inl (plain_picks w k x.seen n r
      (clean_plain w c.operation r asked).1 o t)
  driver_on es x run (TheCheck c) d n r o asked timely few honest t l = inl (plain_picks w k x.seen n r
      (check_plain w c.operation r asked).reads o t)
  driver_on es x run (TheSparing c) d n r o asked timely few honest t l =
      inl (closed_picks w k x.seen n r (ap (λ b. (x.seen.begun || is_begun k.commit n) && not b) timely ∙ and-false
      (x.seen.begun || is_begun k.commit n)) o t)
  driver_on es x run op d n r o asked timely few honest t l = absurd (no_driver es x run op d (λ y. y))

  -- ---- each moment

  abbrev Earlier : List Entry → Stand → Type 0
  Earlier es x = (m : ℕ) → m ≤ length es → Towards w (seen w k opening es m).picks x.seen.picks

  -- One more entry that changes no pick.
  earlier_more : (fs : List Entry) (y : Stand) (e : Entry) → Runs g k opening fs y → Earlier fs y
      → ((t : ℕ) → t < w.tasks → ((see w k y.seen e).picks t ≡ y.seen.picks t) ⊎ (y.seen.picks t ≡ None))
      → (m : ℕ) → m ≤ length (fs ++ e ∷ []) → Towards w (seen w k opening (fs ++ e ∷ []) m).picks (see w k y.seen e).picks
  earlier_more fs y e run old next m l t low = elim (cases_lt (length fs) m) [
    | inr before ↦
        let same = ap (λ xs. (see_all w k (nothing_seen opening) xs).picks t) (take-append-le m fs (e ∷ []) before) in
        elim (old m before t low) [
          | inl none ↦ inl (same ∙ none)
          | inr is ↦ elim (next t low) [ inl stays ↦ inr (same ∙ is ∙ sym stays) | inr none ↦ inl (same ∙ is ∙ none) ]
        ]
    | inl high ↦
        let long : length (fs ++ e ∷ []) ≡ length fs + 1 = length-append fs (e ∷ []) in
        inr (ap (λ xs. (see_all w k (nothing_seen opening) xs).picks t) (take_all (fs ++ e ∷ []) m (omega (arith, long, high))) ∙ ap
        (λ (s : Seen). s.picks t) (see_more w k (nothing_seen opening) fs e ∙ ap (λ s. see w k s e)
        (sym (sees g k opening j is_opening fs y run))))
  ]

  pub earlier : (es : List Entry) (x : Stand) → Runs g k opening es x → Earlier es x
  earlier = each_run g k opening Earlier (λ m l t low. inr (ap (λ xs. (see_all w k (nothing_seen opening) xs).picks t)
      (take_all [] m (omega arith)))) (λ es x b run may h. h)
      (λ es x op n r o run d asked timely few honest h. earlier_more es x (driver_entry n r o) run h
      (driver_on es x run op d n r o asked timely few honest))
      (λ es x a op n r o run set at asked honest h. earlier_more es x (entry a n r o) run h
      (λ t l. inl (ap (λ (p : Picks). p t) (attempts_leave w k x.seen a n r o))))
      (λ es x n r o run f h. earlier_more es x (strange_entry n r o) run h (λ t l. inl refl))

  -- ---- a commit that ended before its first completion

  not_picked : (p : Picks) (n : ℕ) (t : ℕ) → t < n → p t ≡ None → picked_below p n ≡ false
  not_picked p n t l e = elim (true_or_false (picked_below p n)) [
    | inl h ↦ absurd (false_true (ap is_some e) (picked_each w p n h t l))
    | inr h ↦ h
  ]

  undecided : (p : Picks) → is_picked w p ≡ false → is_decided w p ≡ false
  undecided p e = ap (λ b. b && not (is_clash w p)) e

  module _ (x : Stand) (end : CommitEnd) (h : CommitStands g x (CommitOver end)) (task : (t : ℕ) → end ≡ commits.Missing t → t < w.tasks)
    where
      abbrev p : Picks
      p = x.seen.picks

      unread : (t : ℕ) → t < w.tasks → length h.sets ≤ t → p t ≡ None
      unread t l high = h.picks t l ∙ ap (option_map (λ (v : PendingSet). v.attempt)) (slice_get_past h.sets t high)

      clashes : (q : List ℕ) (t u : ℕ) → commits.SamePath q t u ≡ commit_due w (picks_of h.sets) h.missing None → is_clash w p ≡ true
      clashes q t u d = ap is_some (same_shared w (picks_of h.sets) p h.picks) ∙ by h.missing (same_path w (picks_of h.sets)) refl d
        where
          by : (m : Option ℕ) (o : Option CommitEnd) → same_path w (picks_of h.sets) ≡ o
              → commits.SamePath q t u ≡ commit_due w (picks_of h.sets) m None → is_some (same_path w (picks_of h.sets)) ≡ true
          by (Some v) o f e = absurd cc
          by None None f e = let no : commits.SamePath q t u ≡ commits.Committed = e ∙ ap (λ v. end_or v commits.Committed) f in absurd cc
          by None (Some v) f e = ap is_some f

      not_decided : is_untouched end ≡ true → is_decided w p ≡ false
      not_decided before = by end refl h.at before
        where
          by : (v : CommitEnd) → v ≡ end → IsDue w h.missing h.sets v → is_untouched v ≡ true → is_decided w p ≡ false
          by (commits.Missing t) is d b =
              undecided p (not_picked p w.tasks t (task t (sym is)) (unread t (task t (sym is))
              (subst (λ (l : Sets). length l ≤ t) (sym d.1) (omega arith))))
          by (commits.SamePath q t u) is d b = ap (λ c. is_picked w p && not c) (clashes q t u d) ∙ and-false (is_picked w p)
          by (commits.StoreFault stages.Read) is d b = let low : length h.sets < w.tasks = d.1 in undecided p
              (not_picked p w.tasks (length h.sets) low (unread (length h.sets) low (omega arith)))
          by _ is d b = absurd (false_true refl b)

  module _ (es : List Entry) (x : Stand) (run : Runs g k opening es x) (more : List Entry) (none : NoneRead w more) where
    -- At each moment after it the picks are those of its end.
    towards : (m : ℕ) → Towards w (seen w k opening (es ++ more) m).picks x.seen.picks
    towards m t l = elim (cases_lt (length es) m) [
      | inr low ↦
          let same : (seen w k opening (es ++ more) m).picks ≡ (seen w k opening es m).picks =
          ap (λ xs. (see_all w k (nothing_seen opening) xs).picks) (take-append-le m es more low) in
          elim (earlier es x run m low t l) [
            | inl none ↦ inl (ap (λ (q : Picks). q t) same ∙ none)
            | inr is ↦ inr (ap (λ (q : Picks). q t) same ∙ is)
          ]
      | inl high ↦
          let parts : take m (es ++ more) ≡ es ++ take (m - length es) more =
          (let same : m ≡ length es + (m - length es) = omega (arith, high) in ap (λ n. take n (es ++ more)) same ∙ take-append-add es more
          (m - length es)) in
          inr (ap (λ xs. (see_all w k (nothing_seen opening) xs).picks t) parts
          ∙ ap (λ (s : Seen). s.picks t) (see_parts w k (nothing_seen opening) es (take (m - length es) more))
          ∙ later w k (see_all w k (nothing_seen opening) es) (take (m - length es) more) (read_taken w more (m - length es) none) t
          ∙ ap (λ (s : Seen). s.picks t) (sym (sees g k opening j is_opening es x run)))
    ]

    pub untouched : (end : CommitEnd) → x.driver ≡ Some (TheCommit (CommitOver end)) → is_untouched end ≡ true
        → ((t : ℕ) → end ≡ commits.Missing t → t < w.tasks) → Always w k opening (es ++ more) → (m : ℕ) → m ≤ length (es ++ more)
        → Same (view w.dest (moment opening (es ++ more) m).content) (view w.dest opening)
    untouched end d before task always m l =
        let kept = always m l in
        let s = seen w k opening (es ++ more) m in
        let open_so = not_decided x end (stood g j k opening is_opening es x run (CommitOver end) d) task before in
        let still = decided_end w s.picks x.seen.picks (towards m) open_so in
        let scene : s.scene ≡ moment opening (es ++ more) m = scene_is w k (nothing_seen opening) (take m (es ++ more)) in
        subst (λ (v : Scene). Same (view w.dest v.content) (view w.dest opening)) scene
        (elim (true_or_false s.begun) [ inl e ↦ (kept.between e).untouched still | inr e ↦ kept.before e ])

pub commit_moments : CommitMoments
commit_moments = record {
  earlier = λ g j k opening is_opening es x run m l t low. earlier g j k opening is_opening es x run m l t low;
  later = later;
  cleans = λ w c r e. (clean_plain w c r e).1;
  untouched = λ g j k opening is_opening es x run end d before task more none always m l. untouched g j k opening is_opening es x run more
      none end d before task always m l;
}
