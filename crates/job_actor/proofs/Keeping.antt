-- The picks that the job's commit has are those that the journal shows, after each of its sends.
use Rattle.text_and_lists.proofs.Members.{none_some, same_or_not, some_is}
use Rattle.job_actor.proofs.Tallies.{below_more, below_same}
use Rattle.job_actor.proofs.Unread.{Free, FreeAt, left, next, next_here, next_other, reads_so, unread}
use Rattle.job_actor.specs.Picks.{ArePicksOf}
use Rattle.job_invariant.proofs.Agreeing.{AgreeBelow, Agrees}
use Rattle.job_invariant.specs.Facts.{Hold}
use Rattle.job_invariant.specs.Filed.{Decides}
use Rattle.job_invariant.specs.Told.{Told, driver_entry}
use Rattle.job_model.specs.JobScript.{Script}
use Rattle.job_model.specs.Known.{Known}
use Rattle.job_model.specs.Legal.{IsLegal}
use Rattle.job_model.specs.declared.ends.Pick.{Pick}
use Rattle.job_protocol.specs.JobCommits.{Commit, CommitOver, Completing, Fetching, Marking, Replacing, Reverting, Sets, commit_asks}
use Rattle.job_protocol.specs.JobCommits.{picks_of, set_read, set_request}
use Rattle.job_protocol.specs.Operations.{Setting, TheCommit, wants}
use Rattle.job_protocol.specs.Seen.{Seen, Times, is_begun, is_picking, is_reading, nothing_seen, see, see_all, see_by}
use Rattle.job_spec.specs.Promise.{picks_below}
use Rattle.job_spec.specs.States.{times}
use Rattle.script_steps.proofs.Running.{carried, number, sent_ahead}
use Rattle.script_steps.proofs.RunningNumbers.{begun_at}
use Rattle.script_steps.proofs.RunningStages.{IsTimed}
use Rattle.script_steps.specs.Running.{operation_of}
use Rattle.script_steps.specs.Transitions.{MaySend, Play, Reachable, Sends, happen}
use Rattle.protocol_runs.proofs.Changes.{moment_scene}
use Rattle.protocol_runs.proofs.Entries.{late_now, see_more, sees, take_all}
use Rattle.protocol_runs.proofs.Running.{At, InCommit}
use Rattle.protocol_runs.proofs.Steps.{commit_picks}
use Rattle.protocol_runs.specs.Runs.{IsOpening, is_set}
use Rattle.list_walk.specs.Walks.{Listing}
use Rattle.pending_json.specs.declared.records.PendingSet.{PendingSet}
use Rattle.s3_types.specs.Answer.{answer}
use Rattle.s3_types.specs.Moment.{IsHonestOutcome}
use Rattle.s3_types.specs.Store.{Content, Scene}
use Rattle.s3_types.specs.declared.journal.Entry.{Entry}
use Rattle.s3_types.specs.declared.journal.Outcome.{Outcome}
use Rattle.s3_types.specs.declared.journal.Outcome.TheVariants.{Answered, ReplyLost, RequestLost, Slow}
use Rattle.s3_types.specs.declared.reply.Reply.{Reply}
use Rattle.s3_types.specs.declared.request.Actor.TheVariants.{Driver}
use Rattle.s3_types.specs.declared.request.Request.{Request}
use Rattle.std.proofs.Common.{List, None, Option, Some, ap, arith, false, inl, inr, length, refl, subst, suc, sym, take, true, zero, ℕ, []}
use Rattle.std.proofs.Common.{◌++◌, ◌<◌, ◌^◌, ◌∙◌, ◌∷◌, ◌≡◌, ◌≤◌}
use Rattle.std.specs.Option.{is_some}

-- ---- the picks that a commit has

-- The picks, with the one of a set that was read, if one was.
abbrev pub with_read : List Pick → Option PendingSet → List Pick
with_read ps (Some h) = ps ++ record { task = length ps; attempt = h.attempt } ∷ []
with_read ps None = ps

-- The picks after a send.
abbrev pub picks_then : List Pick → Commit → Outcome → List Pick
picks_then ps (Fetching sets n) (Answered x) = with_read ps (set_read x)
picks_then ps c o = ps

module _ (w : Script) (minimum : ℕ) (j : IsLegal w) (k : Times) (s : Seen) (m : Told) (n : ℕ) (hold : Hold w minimum s m)
    (uncleaned : m.cleaned ≡ false) (few : s.scene.content.next ≤ 2 ^ 64) (begun : is_picking k s.begun n ≡ true)
    (ps : List Pick) (are : ps ≡ picks_below s.picks w.tasks) where
  abbrev After : Commit → Request → Outcome → Type 0
  After c r o = picks_then ps c o ≡ picks_below (see w k s (driver_entry n r o)).picks w.tasks

  there : (sets : Sets) (t : ℕ) → t < length sets → is_some (picks_of sets t) ≡ true
  there [] t l = absurd (omega arith)
  there (x ∷ sets) zero l = refl
  there (x ∷ sets) (suc t) l = there sets t (omega arith)

  module _ (sets : Sets) (i : ℕ) (low : length sets < w.tasks) (agree : AgreeBelow w s.picks sets (length sets))
      (free : Free w s.picks (Fetching sets i)) where
    abbrev now : ℕ → Option ℕ
    now = next w j s (is_picking k s.begun n) begun (length sets) low

    other : (t : ℕ) → t < w.tasks → (t ≡ length sets → ⊥) → now t ≡ s.picks t
    other = next_other w j s (is_picking k s.begun n) begun (length sets) low

    -- Nothing was read, and nothing is picked.
    none_read : s.last (length sets) ≡ None → ps ≡ picks_below now w.tasks
    none_read none = are ∙ below_same s.picks now w.tasks (λ t l. sym (at t l))
      where
        at : (t : ℕ) → t < w.tasks → now t ≡ s.picks t
        at t l = elim (same_or_not t (length sets)) [
          | inl is ↦ ap now is ∙ next_here w j s (is_picking k s.begun n) begun (length sets) low ∙ none ∙ sym
              (free (length sets) (omega arith) low) ∙ ap s.picks (sym is)
          | inr ne ↦ other t l ne
        ]

    one_read : (h : PendingSet) → s.last (length sets) ≡ Some h.attempt → with_read ps (Some h) ≡ picks_below now w.tasks
    one_read h latest =
        ap (λ (v : List Pick). v ++ record { task = length v; attempt = h.attempt } ∷ []) are
        ∙ below_more s.picks now (length sets) w.tasks h.attempt low (λ t l. ap is_some (agree t l) ∙ there sets t l) free other
        (next_here w j s (is_picking k s.begun n) begun (length sets) low ∙ latest)

    read : (x : Reply) → x ≡ answer s.scene (set_request w.committer w (length sets))
        → After (Fetching sets i) (set_request w.committer w (length sets)) (Answered x)
    read x e = elim (reads_so w minimum j s m hold uncleaned few (length sets) low x e) [
      | inl none ↦ ap (with_read ps) none.0 ∙ none_read none.1
      | inr y ↦ ap (with_read ps) y.1 ∙ one_read y.0 y.2
    ]

  -- ---- requests that read no set

  unread_so : (r : Request) (x : Reply) → ((t : ℕ) → is_reading w t r ≡ false)
      → ps ≡ picks_below (see w k s (driver_entry n r (Answered x))).picks w.tasks
  unread_so r x none = are ∙ below_same s.picks (see w k s (driver_entry n r (Answered x))).picks w.tasks
      (λ t l. sym (left (is_picking k s.begun n) (is_reading w t r) (s.last t) (s.picks t) (none t)))

  heard : (c : Commit) → Decides w minimum m.publish_sent m.drawn c → Agrees w s.picks c → Free w s.picks c → (r : Request)
      → commit_asks w c ≡ Some r → (x : Reply) → x ≡ answer s.scene r → After c r (Answered x)
  heard (Fetching sets i) low agree free r e x honest =
      let is : set_request w.committer w (length sets) ≡ r = some_is e in
      subst (λ q. After (Fetching sets i) q (Answered x)) is (read sets i low agree free x (honest ∙ ap (answer s.scene) (sym is)))
  heard (Replacing sets q qs (Listing keys) i) decides agree free r e x honest = unread_so r x (λ t. ap (is_reading w t) (sym (some_is e)))
  heard (Reverting q qs i) decides agree free r e x honest = unread_so r x (λ t. ap (is_reading w t) (sym (some_is e)) ∙ elim
      (decides q (inl refl)).2 [ inl is ↦ ap (is_reading w t) is | inr is ↦ ap (is_reading w t) is ])
  heard (CommitOver end) decides agree free r e x honest = absurd (none_some refl e)
  heard _ decides agree free r e x honest = unread_so r x (λ t. ap (is_reading w t) (sym (some_is e)))

  missed : (c : Commit) (o : Outcome) → ((x : Reply) → o ≡ Answered x → ⊥) → picks_then ps c o ≡ ps
  missed (Fetching sets i) (Answered x) none = absurd (none x refl)
  missed (Fetching sets i) Slow none = refl
  missed (Fetching sets i) RequestLost none = refl
  missed (Fetching sets i) ReplyLost none = refl
  missed (Replacing sets q qs v i) o none = refl
  missed (Completing sets y ys finished) o none = refl
  missed (Marking sets i) o none = refl
  missed (Reverting q qs i) o none = refl
  missed (CommitOver end) o none = refl

  pub sent_picks : (c : Commit) → Decides w minimum m.publish_sent m.drawn c → Agrees w s.picks c → Free w s.picks c → (r : Request)
      → commit_asks w c ≡ Some r → (o : Outcome) → IsHonestOutcome o (answer s.scene r) → After c r o
  sent_picks c decides agree free r e (Answered x) honest = heard c decides agree free r e x honest
  sent_picks c decides agree free r e Slow honest = missed c Slow (λ x d. absurd cc) ∙ are
  sent_picks c decides agree free r e RequestLost honest = missed c RequestLost (λ x d. absurd cc) ∙ are
  sent_picks c decides agree free r e ReplyLost honest = missed c ReplyLost (λ x d. absurd cc) ∙ are

-- ---- in a run

module _ (g : Setting) (opening : Content) (j : IsLegal g.script) (is_opening : IsOpening g opening) (x : Play)
    (past : Reachable g opening x) where
  abbrev w : Script
  w = g.script

  whole : (k : Times) (es : List Entry) → picks_below (see_all w k (nothing_seen opening) (take (length es) es)).picks w.tasks ≡ picks_below
      (see_all w k (nothing_seen opening) es).picks w.tasks
  whole k es = ap (λ v. picks_below (see_all w k (nothing_seen opening) v).picks w.tasks) (take_all es (length es) (omega arith))

  pub picks_go_on : (c : Commit) (known : Known) → x.running Driver ≡ Some (record { operation = TheCommit c; known = known })
      → (ps : List Pick) → ArePicksOf g opening x ps
      → (e : Entry) → e.actor ≡ Driver → MaySend g opening x e → ArePicksOf g opening (happen g x (Sends e)) (picks_then ps c e.outcome)
  picks_go_on c known at ps are e is may xs ahead =
      let k = times w xs in
      let old = sent_ahead g x e xs ahead in
      let h = (carried g opening j is_opening x past xs old).along in
      let s = h.stand.seen in
      let m = h.stand.told in
      let driver : h.stand.driver ≡ Some (TheCommit c) = h.driver ∙ ap operation_of at in
      let l = late_now g k opening j is_opening x.journal h.stand h.runs (ap is_set driver) in
      let i : InCommit g opening s.picks m c = subst (λ v. At g opening v s m) driver l.driver in
      let free : Free w s.picks c = subst (FreeAt w s.picks) driver (unread g k opening j is_opening x.journal h.stand h.runs) in
      let seen_is = sees g k opening j is_opening x.journal h.stand h.runs in
      let scene = moment_scene g k opening j is_opening x.journal h.stand h.runs in
      let same : may.at ≡ record { operation = TheCommit c; known = known } = some_is (sym may.is_at ∙ ap x.running is ∙ at) in
      let asked : commit_asks w c ≡ Some e.request = ap (wants g e.actor) (sym same) ∙ may.asked in
      let honest : IsHonestOutcome e.outcome (answer s.scene e.request) = subst
      (λ (v : Scene). IsHonestOutcome e.outcome (answer v e.request)) scene may.honest in
      let few : s.scene.content.next ≤ 2 ^ 64 = subst (λ (v : Scene). v.content.next ≤ 2 ^ 64) scene may.few in
      let timed = subst (IsTimed (begun_at (times w xs) (number x.now (length x.ends)))) (ap operation_of at) h.timed in
      let here : e.event ≡ number x.now (length x.ends) = may.number ∙ sym (ap (λ o. number o (length x.ends)) may.during) in
      let begun = commit_picks k s.begun e.event (ap (is_begun k.commit) here ∙ timed.0) (ap (is_begun k.clean) here ∙ timed.1) in
      let before : ps ≡ picks_below s.picks w.tasks = are xs old ∙ whole k x.journal ∙ ap (λ (v : Seen). picks_below v.picks w.tasks)
      (sym seen_is) in
      let after = sent_picks w g.minimum j k s m e.event l.hold i.uncleaned few begun ps before c i.decides i.agrees free e.request asked
      e.outcome honest in
      let by : see w k s e ≡ see w k s (driver_entry e.event e.request e.outcome) = ap (see_by w k s e.event e.request e.outcome) is in
      let all : see_all w k (nothing_seen opening) (x.journal ++ e ∷ []) ≡ see w k s e = see_more w k (nothing_seen opening) x.journal e ∙
      ap (λ v. see w k v e) (sym seen_is) in
      after ∙ ap (λ (v : Seen). picks_below v.picks w.tasks) (sym (all ∙ by)) ∙ sym (whole k (x.journal ++ e ∷ []))
