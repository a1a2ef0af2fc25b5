-- What a run's entries say at each moment.
use Rattle.job_invariant.specs.Facts.{Hold}
use Rattle.job_invariant.specs.Filed.{Gone}
use Rattle.job_invariant.specs.Told.{Told, driver_entry, entry, nothing_told, strange_entry, tell, tell_all}
use Rattle.job_model.specs.JobScript.{Script}
use Rattle.job_model.specs.Legal.{IsLegal}
use Rattle.job_model.specs.declared.ends.CommitEnd.{CommitEnd}
use Rattle.job_protocol.specs.JobCommits.{Commit, CommitOver, is_untouched}
use Rattle.job_protocol.specs.Operations.{Setting, TheCommit}
use Rattle.job_protocol.specs.Seen.{Seen, Times, nothing_seen, see, see_all}
use Rattle.job_protocol.specs.View.{Same, view}
use Rattle.job_spec.specs.Entries.{AreOwn}
use Rattle.job_spec.specs.Headline.{Always, Kept}
use Rattle.job_spec.specs.OperationEnds.{NoDeletionWorn, OnlyOpening}
use Rattle.protocol_runs.proofs.EveryRun.{cleans_is, good, kept_now, late, own_front, shown}
use Rattle.protocol_runs.proofs.Folds.{each_run, each_seen}
use Rattle.protocol_runs.proofs.Running.{At, InCommit, Late, Shows, left_still, reverted_shows, untouched_shows}
use Rattle.protocol_runs.specs.Runs.{IsOpening, Runs, Stand, attempt_sends, driver_sends, first_stand, is_set, run_begins, strays}
use Rattle.s3_types.specs.Store.{Content}
use Rattle.s3_types.specs.declared.journal.Entry.{Entry}
use Rattle.std.proofs.Common.{List, Some, ap, arith, drop, inl, inr, length, length-append, refl, subst, sym, take, true, ℕ, [], ◌++◌, ◌+◌}
use Rattle.std.proofs.Common.{◌∙◌, ◌∷◌, ◌≡◌, ◌≤◌}
use Rattle.std.proofs.lemmas.Bool.{cases_lt}
use Rattle.std.proofs.lemmas.List.{take-append-drop, take-append-le, take_all as all_taken}
use Rattle.job_model.specs.declared.ends.CommitEnd.TheVariants as commits
use Rattle.job_model.specs.declared.ends.FaultStage.TheVariants as stages

-- ---- one more entry

pub see_more : (w : Script) (k : Times) (s : Seen) (es : List Entry) (e : Entry)
    → see_all w k s (es ++ e ∷ []) ≡ see w k (see_all w k s es) e
see_more w k s [] e = refl
see_more w k s (x ∷ es) e = see_more w k (see w k s x) es e

tell_more : (w : Script) (m : Told) (es : List Entry) (e : Entry) → tell_all w m (es ++ e ∷ []) ≡ tell w (tell_all w m es) e
tell_more w m [] e = refl
tell_more w m (x ∷ es) e = tell_more w (tell w m x) es e

pub take_all : (es : List Entry) (m : ℕ) → length es ≤ m → take m es ≡ es
take_all es m l = all_taken m es l

pub own_taken : (es : List Entry) (m : ℕ) → AreOwn es → AreOwn (take m es)
own_taken es m own = own_front (take m es) (drop m es) (subst AreOwn (sym (take-append-drop m es)) own)

module _ (g : Setting) (k : Times) (opening : Content) (j : IsLegal g.script) (is_opening : IsOpening g opening) where
  abbrev w : Script
  w = g.script

  abbrev all : List Entry → Seen
  all es = see_all w k (nothing_seen opening) es

  -- Each front of a run's entries is that of a run.
  front_more : (es : List Entry) (e : Entry) (z : Stand) → Runs g k opening (es ++ e ∷ []) z
      → ((m : ℕ) → (y : Stand) × Runs g k opening (take m es) y) → (m : ℕ)
      → (y : Stand) × Runs g k opening (take m (es ++ e ∷ [])) y
  front_more es e z run old m = elim (cases_lt (length es) m) [
    | inl high ↦ (
      z,
      subst (λ l. Runs g k opening l z) (sym
          (take_all (es ++ e ∷ []) m (let long : length (es ++ e ∷ []) ≡ length es + 1 = length-append es (e ∷ []) in omega
          (arith, long, high)))) run,
    )
    | inr low ↦ subst (λ l. (y : Stand) × Runs g k opening l y) (sym (take-append-le m es (e ∷ []) low)) (old m)
  ]

  pub front : (es : List Entry) (x : Stand) → Runs g k opening es x → (m : ℕ) → (y : Stand) × Runs g k opening (take m es) y
  front =
      each_run g k opening (λ es x. (m : ℕ) → (y : Stand) × Runs g k opening (take m es) y)
      (λ m. (
        first_stand opening k.clean,
        subst (λ l. Runs g k opening l (first_stand opening k.clean)) (sym (take_all [] m (omega arith)))
            run_begins,
      )) (λ es x b run may h. h)
      (λ es x op n r o run d asked timely few honest h. front_more es (driver_entry n r o) _
      (driver_sends es x op n r o run d asked timely few honest) h)
      (λ es x a op n r o run set at asked honest h. front_more es (entry a n r o) _ (attempt_sends es x a op n r o run set at asked honest)
      h)
      (λ es x n r o run f h. front_more es (strange_entry n r o) _ (strays es x n r o run f) h)

  -- ---- what a run's entries show and say

  pub sees : (es : List Entry) (x : Stand) → Runs g k opening es x → x.seen ≡ all es
  sees = each_seen g k opening (λ es s m. s ≡ all es) refl (λ es x e run h. ap (λ s. see w k s e) h ∙ sym
      (see_more w k (nothing_seen opening) es e))

  pub tells_so : (es : List Entry) (x : Stand) → Runs g k opening es x → x.told ≡ tell_all w (nothing_told x.told.cleans_at) es
  tells_so es x run =
      each_seen g k opening (λ es s m. m ≡ tell_all w (nothing_told k.clean) es) refl
      (λ es x e run h. ap (λ m. tell w m e) h ∙ sym (tell_more w (nothing_told k.clean) es e)) es x run
      ∙ ap (λ c. tell_all w (nothing_told c) es) (sym (cleans_is g k opening j is_opening es x run))

  pub always : (es : List Entry) (x : Stand) → Runs g k opening es x → AreOwn es → Always w k opening es
  always es x run own m l =
      let f = front es x run m in
      subst (Kept w opening) (sees (take m es) f.0 f.1)
      (kept_now g k opening j is_opening f.0 (good g k opening j is_opening (take m es) f.0 f.1)
      (shown g k opening j is_opening (take m es) f.0 f.1 (own_taken es m own)))

  -- ---- what the state of a run says

  pub late_now : (es : List Entry) (x : Stand) → Runs g k opening es x → is_set x.driver ≡ true → Late g opening x
  late_now es x run set = late g k opening j is_opening x (good g k opening j is_opening es x run) set

  -- While the commit goes on.
  pub in_commit : (es : List Entry) (x : Stand) → Runs g k opening es x → (c : Commit) → x.driver ≡ Some (TheCommit c)
      → Hold w g.minimum x.seen x.told × Gone w x.seen.scene.content x.told × InCommit g opening x.seen.picks x.told c
  in_commit es x h c g = grind (arith, late_now, InCommit, At)

  pub untouched_now : (es : List Entry) (x : Stand) → Runs g k opening es x → AreOwn es → (end : CommitEnd)
      → x.driver ≡ Some (TheCommit (CommitOver end)) → is_untouched end ≡ true
      → Same (view w.dest x.seen.scene.content) (view w.dest opening)
  untouched_now es x h g end e f = grind (arith, late_now, Shows, shown, untouched_shows, left_still)

  pub reverted_now : (es : List Entry) (x : Stand) → Runs g k opening es x → AreOwn es
      → x.driver ≡ Some (TheCommit (CommitOver (commits.StoreFault stages.Complete))) → NoDeletionWorn w.retries x.commit
      → OnlyOpening w opening x.seen.scene.content
  reverted_now es x run own d none =
      let l = late_now es x run (ap is_set d) in
      let i = subst (λ v. At g opening v x.seen x.told) d l.driver in
      let v = subst (λ v. Shows g opening v x.seen x.told x.commit) d (shown g k opening j is_opening es x run own) in
      reverted_shows g opening j x.seen x.told l.hold x.commit i v none
