-- While the job's commit reads, the tasks whose sets it has yet to read have no pick.
use Rattle.text_and_lists.proofs.Members.{none_or_some, none_some, same_or_not, some_is}
use Rattle.text_and_lists.proofs.Options.{both_hold}
use Rattle.job_actor.proofs.Picking.{unpicked}
use Rattle.job_invariant.proofs.Reading.{reads_it, reads_other}
use Rattle.job_invariant.proofs.Replies.{bytes_read, set_reply}
use Rattle.job_invariant.proofs.Sharing.{check_plain}
use Rattle.job_invariant.specs.Facts.{Hold, knowing}
use Rattle.job_invariant.specs.Filed.{Decides}
use Rattle.job_invariant.specs.FactsKeep.{IsSetAnswer}
use Rattle.job_invariant.specs.Stores.{sets_at}
use Rattle.job_invariant.specs.Told.{Told, driver_entry, entry}
use Rattle.job_model.specs.Attempts.{Who}
use Rattle.job_model.specs.JobScript.{Script}
use Rattle.job_model.specs.Legal.{IsLegal}
use Rattle.job_model.specs.declared.ends.CommitEnd.{CommitEnd}
use Rattle.job_protocol.proofs.Begun.{after_check_so, clean_of_so, commit_of_so}
use Rattle.job_protocol.specs.JobCommits.{Commit, CommitOver, Completing, Fetching, Marking, Replacing, Reverting, Sets, all_commits}
use Rattle.job_protocol.specs.JobCommits.{commit_asks, commit_misses, commit_start, commit_tells, completing, decided, fetched, fetching}
use Rattle.job_protocol.specs.JobCommits.{is_no_magic, ok_set, picks_of, replaced, replacing, reverting, set_read, set_request, swept}
use Rattle.job_protocol.specs.JobCommits.{worn_completion}
use Rattle.job_protocol.specs.Lanes.{Turn, again, dealt, follow, revert}
use Rattle.job_protocol.specs.Operations.{Operation, Setting, TheCheck, TheCommit, TheSetup, asks, tells, who}
use Rattle.job_protocol.specs.Outputs.{Picks, same_path}
use Rattle.job_protocol.specs.Rechecks.{check_after}
use Rattle.job_protocol.specs.Records.{files_set}
use Rattle.job_protocol.specs.Seen.{Seen, Times, is_picking, picks_by, see}
use Rattle.protocol_runs.proofs.Entries.{late_now}
use Rattle.protocol_runs.proofs.EveryRun.{checked_idle, cleans_is, just_set}
use Rattle.protocol_runs.proofs.Running.{At, InCommit}
use Rattle.protocol_runs.proofs.Steps.{commit_picks}
use Rattle.protocol_runs.specs.Runs.{BeginClean, BeginCommit, BeginSetup, Beginning, IsOpening, IsTimely, MayBegin, Runs, Stand}
use Rattle.protocol_runs.specs.Runs.{actor_begins}
use Rattle.protocol_runs.specs.Runs.{attempt_sends, begin, driver_sends, is_set, nothing_learnt, run_begins, strays}
use Rattle.list_walk.specs.Walks.{Sweep, sweep_hears}
use Rattle.pending_json.specs.declared.records.PendingSet.{PendingSet}
use Rattle.retries.specs.Retries.{step}
use Rattle.s3_types.specs.Answer.{answer}
use Rattle.s3_types.specs.Moment.{IsHonestOutcome}
use Rattle.s3_types.specs.Store.{Content}
use Rattle.s3_types.specs.declared.journal.Entry.{Entry}
use Rattle.s3_types.specs.declared.journal.Outcome.{Outcome}
use Rattle.s3_types.specs.declared.journal.Outcome.TheVariants.{Answered, Slow}
use Rattle.s3_types.specs.declared.reply.Reply.{Reply}
use Rattle.s3_types.specs.declared.request.Actor.TheVariants.{Driver}
use Rattle.s3_types.specs.declared.request.Request.{Request}
use Rattle.std.proofs.Common.{Bool, List, None, Option, Some, ap, arith, cond, false, inl, inr, length, length-append, nat_lt, refl, subst}
use Rattle.std.proofs.Common.{sym, true, ℕ, [], ◌&&◌, ◌++◌, ◌<◌, ◌^◌, ◌∙◌, ◌∷◌, ◌≡◌, ◌≤◌, ◌⊎◌}

-- ---- what a read of a task's set brings

-- Nothing, if none has published the task; else the set of its last publisher.
abbrev pub ReadSo : Option PendingSet → Option ℕ → Type 0
ReadSo read latest = ((read ≡ None) × (latest ≡ None)) ⊎ ((h : PendingSet) × (read ≡ Some h) × (latest ≡ Some h.attempt))

pub reads_so : (w : Script) (minimum : ℕ) → IsLegal w → (s : Seen) (m : Told) → Hold w minimum s m → m.cleaned ≡ false
    → s.scene.content.next ≤ 2 ^ 64 → (t : ℕ) → t < w.tasks
    → (x : Reply) → x ≡ answer s.scene (set_request w.committer w t) → ReadSo (set_read x) (s.last t)
reads_so w minimum j s m h uncleaned few t low x e = by (sets_at w s.scene t) refl
  where
    nothing : (y : Reply) → IsSetAnswer None y → set_read y ≡ None
    nothing y (inl is) = ap set_read is
    nothing y (inr is) = ap set_read is

    none_last : sets_at w s.scene t ≡ None → s.last t ≡ None
    none_last none = elim (none_or_some (s.last t)) [ inl is ↦ is | inr y ↦ absurd (none_some none (h.standing uncleaned t y.0 low y.1).1) ]

    by : (o : Option (List ℕ)) → sets_at w s.scene t ≡ o → ReadSo (set_read x) (s.last t)
    by None none = inl (
      ap set_read e ∙ nothing (answer s.scene (set_request w.committer w t)) (set_reply j h w.committer t None none),
      none_last none,
    )
    by (Some b) stands =
        let y = h.sets t b low stands in
        inr (
          files_set w y.by y.commits (knowing (m.drawn y.by)),
          ap set_read e ∙ set_reply j h w.committer t (Some b) stands ∙ ap ok_set
              (bytes_read j h few t b low y),
          y.latest,
        )

pub left : (b c : Bool) (x y : Option ℕ) → c ≡ false → cond (b && c) x y ≡ y
left true c x y h = ap (λ d. cond d x y) h
left false c x y h = refl

-- The picks after the answer to the read, by the task.
module _ (w : Script) (j : IsLegal w) (s : Seen) (begun : Bool) (has_begun : begun ≡ true) (t : ℕ) (low : t < w.tasks) where
  abbrev pub next : Picks
  next = picks_by w begun s.last s.picks (set_request w.committer w t)

  pub next_here : next t ≡ s.last t
  next_here = both_hold begun _ (s.last t) (s.picks t) has_begun (reads_it j t)

  pub next_other : (u : ℕ) → u < w.tasks → (u ≡ t → ⊥) → next u ≡ s.picks u
  next_other u l ne = left begun _ (s.last u) (s.picks u) (reads_other j u t l low ne)

-- ---- a task whose set is yet to be read has no pick

abbrev pub Free : Script → Picks → Commit → Type 0
Free w p (Fetching sets n) = (t : ℕ) → length sets ≤ t → t < w.tasks → p t ≡ None
Free w p _ = Unit {0}

abbrev pub FreeAt : Script → Picks → Option Operation → Type 0
FreeAt w p (Some (TheCommit c)) = Free w p c
FreeAt w p (Some (TheCheck c)) = (t : ℕ) → p t ≡ None
FreeAt w p _ = Unit {0}

module _ (w : Script) (p : Picks) where
  free_either : (b : Bool) (c d : Commit) → Free w p c → Free w p d → Free w p (cond b c d)
  free_either true c d h g = h
  free_either false c d h g = g

  free_completing : (sets : Sets) (xs : List Turn) (finished : List ℕ) → Free w p (completing sets xs finished)
  free_completing sets [] finished = tt
  free_completing sets (x ∷ xs) finished = tt

  free_replacing : (sets : Sets) (qs : List (List ℕ)) → Free w p (replacing w sets qs)
  free_replacing sets [] = free_completing sets (dealt w.lanes (length (all_commits sets))) []
  free_replacing sets (q ∷ qs) = tt

  free_decided : (sets : Sets) (o : Option CommitEnd) → Free w p (decided w sets o)
  free_decided sets (Some end) = tt
  free_decided sets None = free_replacing sets (replaced w.committer w.mode w (picks_of sets))

  free_fetching : (sets : Sets) → ((t : ℕ) → length sets ≤ t → t < w.tasks → p t ≡ None) → Free w p (fetching w sets)
  free_fetching sets h = free_either (nat_lt (length sets) w.tasks) (Fetching sets 0) (decided w sets (same_path w (picks_of sets))) h
      (free_decided sets (same_path w (picks_of sets)))

  free_swept : (sets : Sets) (q : List ℕ) (qs : List (List ℕ)) (o : Option Sweep) → Free w p (swept w sets q qs o)
  free_swept sets q qs (Some v) = tt
  free_swept sets q qs None = free_replacing sets qs

  free_reverting : (rs : List Request) → Free w p (reverting rs)
  free_reverting [] = tt
  free_reverting (r ∷ rs) = tt

  free_start : ((t : ℕ) → p t ≡ None) → (missing : Option ℕ) → Free w p (commit_start w missing)
  free_start h (Some t) = tt
  free_start h None = free_fetching [] (λ t l k. h t)

  free_missed : (c : Commit) (lost : Bool) → Free w p c → Free w p (commit_misses w c lost)
  free_missed (Fetching sets n) lost h = free_either (nat_lt n w.retries) _ _ h tt
  free_missed (Replacing sets q qs v n) lost h = free_either (nat_lt n w.retries) _ _ tt tt
  free_missed (Completing sets x xs finished) lost h =
      free_either (nat_lt x.missed w.retries) (completing sets (xs ++ again x lost ∷ []) finished) (worn_completion sets x xs finished)
      (free_completing sets (xs ++ again x lost ∷ []) finished) (free_reverting (revert (all_commits sets) x.number xs finished))
  free_missed (Marking sets n) lost h = free_either (nat_lt n w.retries) _ _ tt tt
  free_missed (Reverting r rs n) lost h = free_either (nat_lt n w.retries) _ _ tt (free_reverting rs)
  free_missed (CommitOver end) lost h = tt

module _ (w : Script) (minimum : ℕ) (j : IsLegal w) (k : Times) (s : Seen) (m : Told) (n : ℕ) (hold : Hold w minimum s m)
    (uncleaned : m.cleaned ≡ false) (few : s.scene.content.next ≤ 2 ^ 64) (begun : is_picking k s.begun n ≡ true) where
  abbrev picks_after : Request → Outcome → Picks
  picks_after r o = (see w k s (driver_entry n r o)).picks

  abbrev After : Commit → Request → Outcome → Type 0
  After c r o = Free w (picks_after r o) (commit_tells w c o)

  module _ (sets : Sets) (i : ℕ) (low : length sets < w.tasks) (free : Free w s.picks (Fetching sets i)) where
    abbrev now : Picks
    now = next w j s (is_picking k s.begun n) begun (length sets) low

    other : (t : ℕ) → t < w.tasks → (t ≡ length sets → ⊥) → now t ≡ s.picks t
    other = next_other w j s (is_picking k s.begun n) begun (length sets) low

    unpublished : s.last (length sets) ≡ None → (t : ℕ) → length sets ≤ t → t < w.tasks → now t ≡ None
    unpublished none t l h = elim (same_or_not t (length sets)) [
      | inl is ↦ ap now is ∙ next_here w j s (is_picking k s.begun n) begun (length sets) low ∙ none
      | inr ne ↦ other t h ne ∙ free t l h
    ]

    behind : (h : PendingSet) (t : ℕ) → length (sets ++ h ∷ []) ≤ t → t < w.tasks → now t ≡ None
    behind h t l low_t = let long = length-append sets (h ∷ []) in other t low_t
        (let past : length sets < t = omega arith in λ e. absurd (omega arith)) ∙ free t (omega arith) low_t

    free_read : (x : Reply) → x ≡ answer s.scene (set_request w.committer w (length sets))
        → After (Fetching sets i) (set_request w.committer w (length sets)) (Answered x)
    free_read x e = elim (reads_so w minimum j s m hold uncleaned few (length sets) low x e) [
      | inl none ↦ subst (λ o. Free w now (fetched w sets o)) (sym none.0) (unpublished none.1)
      | inr y ↦ subst (λ o. Free w now (fetched w sets o)) (sym y.1) (free_fetching w now (sets ++ y.0 ∷ []) (behind y.0))
    ]

  free_heard : (c : Commit) → Decides w minimum m.publish_sent m.drawn c → Free w s.picks c → (r : Request) → commit_asks w c ≡ Some r
      → (x : Reply) → x ≡ answer s.scene r → After c r (Answered x)
  free_heard (Fetching sets i) low free r e x honest =
      let is : set_request w.committer w (length sets) ≡ r = some_is e in
      subst (λ q. After (Fetching sets i) q (Answered x)) is (free_read sets i low free x (honest ∙ ap (answer s.scene) (sym is)))
  free_heard (Replacing sets q qs v i) low free r e x honest = free_swept w (picks_after r (Answered x)) sets q qs
      (sweep_hears (is_no_magic w) v x)
  free_heard (Completing sets y ys finished) low free r e x honest = free_completing w (picks_after r (Answered x)) sets
      (ys ++ follow w.lanes (length (all_commits sets)) y.number) (y.number ∷ finished)
  free_heard (Reverting q qs i) low free r e x honest = free_reverting w (picks_after r (Answered x)) qs
  free_heard _ low free r e x honest = tt

  free_next : (c : Commit) → Decides w minimum m.publish_sent m.drawn c → Free w s.picks c → (r : Request) → commit_asks w c ≡ Some r
      → (o : Outcome) → IsHonestOutcome o (answer s.scene r) → After c r o
  free_next c low free r e (Answered x) honest = free_heard c low free r e x honest
  free_next c low free r e Slow honest = free_missed w s.picks c false free
  free_next c low free r e _ honest = free_missed w s.picks c true free

-- An attempt picks nothing.
pub attempt_picks : (w : Script) (k : Times) (s : Seen) (a : Who) (n : ℕ) (r : Request) (o : Outcome)
    → (see w k s (entry a n r o)).picks ≡ s.picks
attempt_picks w k s a n r (Answered x) = refl
attempt_picks w k s a n r _ = refl

-- ---- every run

module _ (g : Setting) (k : Times) (opening : Content) (j : IsLegal g.script) (is_opening : IsOpening g opening) where
  abbrev w : Script
  w = g.script

  sent : (fs : List Entry) (y : Stand) (op : Operation) (n : ℕ) (r : Request) (o : Outcome) → Runs g k opening fs y → y.driver ≡ Some op
      → asks g (who Driver) nothing_learnt op ≡ Some r → IsTimely k n op → y.seen.scene.content.next ≤ 2 ^ 64
      → IsHonestOutcome o (answer y.seen.scene r) → FreeAt w y.seen.picks y.driver
      → FreeAt w (see w k y.seen (driver_entry n r o)).picks (Some (tells g (who Driver) op o))
  sent fs y (TheSetup t) n r o run d asked timely few honest free = tt
  sent fs y (TheCommit c) n r o run d asked timely few honest free =
      let l = late_now g k opening j is_opening fs y run (ap is_set d) in
      let i : InCommit g opening y.seen.picks y.told c = subst (λ v. At g opening v y.seen y.told) d l.driver in
      free_next w g.minimum j k y.seen y.told n l.hold i.uncleaned few (commit_picks k y.seen.begun n timely.0 timely.1) c i.decides
      (subst (FreeAt w y.seen.picks) d free) r asked o honest
  sent fs y (TheCheck t) n r o run d asked timely few honest free =
      let l = late_now g k opening j is_opening fs y run (ap is_set d) in
      let idle = subst (λ v. At g opening v y.seen y.told) d l.driver in
      let after = checked_idle g k opening j is_opening y (cleans_is g k opening j is_opening fs y run) n r o
      (check_plain w t.operation r asked) timely.1 idle in
      after_check_so g (λ op. FreeAt w (see w k y.seen (driver_entry n r o)).picks (Some op))
      (free_start w (see w k y.seen (driver_entry n r o)).picks after.unpicked None) (λ u. after.unpicked)
      (step w.retries (check_after w) t o)
  sent fs y _ n r o run d asked timely few honest free = tt

  begin_unread : (fs : List Entry) (y : Stand) (b : Beginning) → Runs g k opening fs y → MayBegin g y b → FreeAt w y.seen.picks y.driver
      → FreeAt w y.seen.picks (begin g y b).driver
  begin_unread fs y (BeginCommit r) run may free =
      let l = late_now g k opening j is_opening fs y run (just_set y.driver may) in
      let none = unpicked g opening j is_opening y.driver y.seen y.told may l.driver in
      commit_of_so g (λ op. FreeAt w y.seen.picks (Some op)) (free_start w y.seen.picks none) (λ u. none) r
  begin_unread fs y BeginSetup run may free = tt
  begin_unread fs y BeginClean run may free = clean_of_so g (λ op. FreeAt w y.seen.picks (Some op)) tt tt
  begin_unread fs y _ run may free = free

  pub unread : (es : List Entry) (x : Stand) → Runs g k opening es x → FreeAt w x.seen.picks x.driver
  unread es x run_begins = tt
  unread es x (actor_begins fs y b run may) = begin_unread fs y b run may (unread fs y run)
  unread es x (driver_sends fs y op n r o run d asked timely few honest) = sent fs y op n r o run d asked timely few honest
      (unread fs y run)
  unread es x (attempt_sends fs y a op n r o run set at asked honest) = subst (λ p. FreeAt w p y.driver)
      (sym (attempt_picks w k y.seen a n r o)) (unread fs y run)
  unread es x (strays fs y n r o run f) = unread fs y run
