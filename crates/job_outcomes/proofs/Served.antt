-- How the requests of the driver's commit are answered in every run. A completion finds no upload only if an earlier send of it was lost,
-- and a read finds the set of each task that was published.
use Rattle.text_and_lists.proofs.Members.{false_true, none_some, some_is, true_or_false}
use Rattle.job_invariant.proofs.Held.{nth_of, of_sets}
use Rattle.job_invariant.proofs.Reading.{reads_it}
use Rattle.job_invariant.proofs.Replies.{completed}
use Rattle.job_invariant.proofs.Shapes.{answer_is, id_before}
use Rattle.job_invariant.proofs.Sharing.{check_plain}
use Rattle.job_invariant.proofs.Turning.{turn_answered}
use Rattle.job_invariant.specs.Driver.{Reads}
use Rattle.job_invariant.specs.Facts.{Hold}
use Rattle.job_invariant.specs.Filed.{Gone}
use Rattle.job_invariant.specs.Told.{Told, driver_entry, entry, strange_entry}
use Rattle.job_invariant.specs.Turning.{Turns}
use Rattle.job_model.specs.JobScript.{Script}
use Rattle.job_model.specs.Legal.{IsLegal}
use Rattle.job_outcomes.proofs.CommitMoments.{no_driver}
use Rattle.job_outcomes.proofs.CommitRuns.{stood}
use Rattle.job_outcomes.proofs.Picks.{brings}
use Rattle.job_outcomes.specs.CommitRuns.{ArePicks, CommitAnswers, Unpublished}
use Rattle.job_protocol.proofs.Begun.{after_check_so, clean_of_so, commit_of_so}
use Rattle.job_protocol.proofs.LaneEnds.{read_stage}
use Rattle.job_protocol.proofs.Members.{in_append, in_push}
use Rattle.job_protocol.proofs.Tables.{dealt_fresh, follow_cases}
use Rattle.job_protocol.specs.JobCommits.{Commit, CommitOver, Completing, Fetching, Replacing, Reverting, Sets, all_commits, commit_asks}
use Rattle.job_protocol.specs.JobCommits.{commit_start, set_read, set_request, stage_of}
use Rattle.job_protocol.specs.LaneTable.{In, Tabled}
use Rattle.job_protocol.specs.Lanes.{Turn, again, completion, dealt, follow, nth}
use Rattle.job_protocol.specs.Operations.{Operation, Setting, TheCheck, TheClean, TheCommit, TheSetup, TheSparing, asks, who}
use Rattle.job_protocol.specs.Rechecks.{check_after}
use Rattle.job_protocol.specs.Seen.{Seen, Times, is_begun, is_reading}
use Rattle.job_spec.specs.OperationEnds.{is_lost, was_lost}
use Rattle.protocol_runs.proofs.Entries.{in_commit, sees}
use Rattle.protocol_runs.proofs.EveryRun.{check_unsent}
use Rattle.protocol_runs.proofs.Folds.{DriverKeeps, commit_is, each_run}
use Rattle.protocol_runs.proofs.Leads.{Enters, Leads, completes, completes_again, deals, deals_then, fetches, leads}
use Rattle.protocol_runs.proofs.Plain.{clean_plain, commit_unread, setup_plain}
use Rattle.protocol_runs.proofs.Steps.{commit_picks}
use Rattle.protocol_runs.specs.Runs.{BeginClean, BeginCommit, BeginSetup, Beginning, IsOpening, IsTimely, Runs, Stand, begin}
use Rattle.protocol_runs.specs.Runs.{nothing_learnt}
use Rattle.list_walk.specs.Walks.{Listing}
use Rattle.pending_json.specs.Pending.{Pending}
use Rattle.retries.proofs.SameRequest.{same_self}
use Rattle.retries.specs.Retries.{step}
use Rattle.retries.specs.Same.{same_request}
use Rattle.s3_types.specs.Answer.{answer, complete_answer}
use Rattle.s3_types.specs.Blocks.{named_from}
use Rattle.s3_types.specs.Moment.{IsHonestOutcome}
use Rattle.s3_types.specs.Multipart.{joined, live, with_key}
use Rattle.s3_types.specs.Store.{Content}
use Rattle.s3_types.specs.declared.journal.Entry.{Entry}
use Rattle.s3_types.specs.declared.journal.Outcome.{Outcome}
use Rattle.s3_types.specs.declared.journal.Outcome.TheVariants.{Answered}
use Rattle.s3_types.specs.declared.reply.Refusal.{Refusal}
use Rattle.s3_types.specs.declared.reply.Refusal.TheVariants.{NoSuchUpload}
use Rattle.s3_types.specs.declared.reply.Reply.{Reply}
use Rattle.s3_types.specs.declared.reply.Reply.TheVariants.{Refused}
use Rattle.s3_types.specs.declared.request.Actor.TheVariants.{Driver}
use Rattle.s3_types.specs.declared.request.Request.{Request}
use Rattle.std.proofs.Common.{IsSome, List, None, Option, Some, ap, arith, false, inl, inr, is_some, length, refl, subst, sym, true, ℕ, []}
use Rattle.std.proofs.Common.{◌&&◌, ◌++◌, ◌^◌, ◌||◌, ◌∙◌, ◌∷◌, ◌≡◌, ◌≤◌, ◌⊎◌}
use Rattle.std.proofs.Math.Bool.{or-true}
use Rattle.std.proofs.lemmas.List.Folds.{list_any-append}
use Rattle.std.specs.List.{list_any}
use Rattle.job_model.specs.declared.ends.FaultStage.TheVariants as stages

-- ---- a fact about each member of a list, by those before it

abbrev pub Each : {X : Type 0} → (List X → X → Type 0) → List X → Type 0
Each {X} P xs = (before : List X) (x : X) (later : List X) → xs ≡ before ++ x ∷ later → P before x

no_member : {X : Type 0} (before : List X) (x : X) (later : List X) → [] ≡ before ++ x ∷ later → ⊥
no_member [] x later e = cc
no_member (y ∷ before) x later e = cc

pub each_more : {X : Type 0} (P : List X → X → Type 0) (xs : List X) (z : X) → Each P xs → P xs z → Each P (xs ++ z ∷ [])
each_more P [] z old new [] x later e = let is : z ≡ x = cc in subst (P []) is new
each_more P [] z old new (y ∷ before) x later e = let none : [] ≡ before ++ x ∷ later = cc in absurd (no_member before x later none)
each_more P (w ∷ xs) z old new [] x later e = let is : w ≡ x = cc in old [] x xs (ap (λ v. v ∷ xs) is)
each_more P (w ∷ xs) z old new (y ∷ before) x later e =
    let is : w ≡ y = cc in
    let rest : xs ++ z ∷ [] ≡ before ++ x ∷ later = cc in
    subst (λ v. P (v ∷ before) x) is (each_more (λ b. P (w ∷ b)) xs z (λ b v l q. old (w ∷ b) v l (ap (λ t. w ∷ t) q)) new before x later
    rest)

-- ---- sends that were lost

lost_before : (r : Request) (es : List Entry) (e : Entry) → was_lost r es ≡ true → was_lost r (es ++ e ∷ []) ≡ true
lost_before r es e h = list_any-append (λ v. same_request r v.request && is_lost v.outcome) es (e ∷ []) ∙ ap
    (λ b. b || list_any (λ v. same_request r v.request && is_lost v.outcome) (e ∷ [])) h

lost_here : (r : Request) (es : List Entry) (e : Entry) → r ≡ e.request → is_lost e.outcome ≡ true → was_lost r (es ++ e ∷ []) ≡ true
lost_here r es e h g = grind (arith, same_self, list_any-append, or-true)

-- For each turn with a lost send, these entries have that send.
abbrev TurnsLost : List Entry → Sets → List Turn → Type 0
TurnsLost es sets xs = (x : Turn) → In x xs → x.lost ≡ true → was_lost (completion (nth (all_commits sets) x.number)) es ≡ true

abbrev Lost : List Entry → Commit → Type 0
Lost es (Completing sets x xs finished) = TurnsLost es sets (x ∷ xs)
Lost es _ = Unit {0}

module _ (w : Script) (es : List Entry) where
  lost_dealt : (sets : Sets) (xs : List Turn) → xs ≡ dealt w.lanes (length (all_commits sets)) → TurnsLost es sets xs
  lost_dealt sets xs q x i l = absurd (false_true (dealt_fresh w.lanes (length (all_commits sets)) x (subst (In x) q i)).1 l)

  lost_enters : (sets : Sets) {d : Commit} → Enters w sets d → Lost es d
  lost_enters sets (deals {x = x} {xs = xs} e q) = lost_dealt sets (x ∷ xs) q
  lost_enters sets _ = tt

  lost_start : (missing : Option ℕ) → Lost es (commit_start w missing)
  lost_start missing = grind arith

module _ (w : Script) (es : List Entry) (e : Entry) where
  abbrev now : List Entry
  now = es ++ e ∷ []

  lost_leads : {c d : Commit} {o : Outcome} → Leads w c o d → e.outcome ≡ o → commit_asks w c ≡ Some e.request → Lost es c → Lost now d
  lost_leads (fetches {sets = sets} y i n) is asked h = lost_enters w now (sets ++ y ∷ []) n
  lost_leads (deals_then {sets = sets} {y = y} {ys = ys} i q) is asked h = lost_dealt w now sets (y ∷ ys) q
  lost_leads (completes {sets = sets} {x = y} {xs = ys} q) is asked h = λ z i l. elim
      (in_append z ys (follow w.lanes (length (all_commits sets)) y.number) (subst (In z) q i)) [
        | inl old ↦ lost_before (completion (nth (all_commits sets) z.number)) es e (h z (inr old) l)
        -- The lane's next upload was not sent yet.
        | inr new ↦ elim (follow_cases w.lanes (length (all_commits sets)) y.number) [
          | inl h ↦ elim (subst (In z) h.1 new) [
            | inl q ↦ absurd (false_true (sym (ap (λ (v : Turn). v.lost) q)) l)
            | inr none ↦ absurd none
          ]
          | inr h ↦ absurd (subst (In z) h.1 new)
        ]
      ]
  lost_leads (completes_again {sets = sets} {x = y} {xs = ys} {o = o} q) is asked h = λ z i l. elim
      (in_push z ys (again y (is_lost o)) (subst (In z) q i)) [
        | inl old ↦ lost_before (completion (nth (all_commits sets) z.number)) es e (h z (inr old) l)
        | inr new ↦ subst (λ (v : Turn). was_lost (completion (nth (all_commits sets) v.number)) now ≡ true) new
            (elim (true_or_false y.lost) [
              | inl old ↦ lost_before (completion (nth (all_commits sets) y.number)) es e (h y (inl refl) old)
              | inr kept ↦ lost_here (completion (nth (all_commits sets) y.number)) es e (some_is asked)
                  (ap is_lost is ∙ sym (ap (λ b. b || is_lost o) kept) ∙ ap (λ (v : Turn). v.lost) new ∙ l)
            ])
      ]
  lost_leads _ is asked h = tt

-- ---- an answer to a completion

module _ (w : Script) (minimum : ℕ) (s : Seen) (m : Told) (j : IsLegal w) (h : Hold w minimum s m) (gone : Gone w s.scene.content m) where
  -- A refused completion found no upload, and a send of it was lost.
  refused_lost : (sets : Sets) (x : Turn) (xs : List Turn) (finished : List ℕ) → Reads w minimum m.publish_sent m.drawn sets
      → Tabled w (Completing sets x xs finished) → Turns m (Completing sets x xs finished)
      → (why : Refusal) → Refused why ≡ answer s.scene (completion (nth (all_commits sets) x.number)) → (why ≡ NoSuchUpload)
      × (x.lost ≡ true)
  refused_lost sets x xs finished reads tabled turns why e = elim (true_or_false x.lost) [
    | inr fresh ↦ let no = e ∙ turn_answered w minimum s m j h sets x xs finished reads tabled turns fresh in absurd cc
    | inl lost ↦
        let p = nth (all_commits sets) x.number in
        let ps = named_from 1 p.tags in
        let v = (of_sets j h sets reads p (nth_of (all_commits sets) x.number (tabled.within x (inl refl)))).1.commit in
        let due : answer s.scene (completion p) ≡ complete_answer ps (joined (live h.there.0.uploads p.destination p.upload) ps
        s.scene.content.minimum) =
        answer_is w s.scene h.there.0 h.there.1 (completion p) (ap (λ (z : Pending). z.bucket) v.is) in
        elim (true_or_false (m.ended p.upload)) [
          | inl ended ↦
              let none : live h.there.0.uploads p.destination p.upload ≡ None = ap (with_key p.destination)
              (sym (id_before w s.scene h.there.0 h.there.1 p.upload) ∙ (gone p.upload ended).1) in
              let is : Refused why ≡ Refused NoSuchUpload = e ∙ due ∙ ap (λ o. complete_answer ps (joined o ps s.scene.content.minimum))
              none in
              (cc, lost)
          | inr mine ↦
              let open_one : m.ended v.written.drawn.upload ≡ false = ap m.ended (sym (ap (λ (z : Pending). z.upload) v.is)) ∙ mine in
              let no = e ∙ ap (λ (z : Pending). answer s.scene (completion z)) v.is ∙ completed j h v.by v.file v.mine v.written open_one
              (h.kept v.by v.has_sent) in
              absurd cc
        ]
  ]

-- ---- every run

module _ (g : Setting) (k : Times) (opening : Content) (j : IsLegal g.script) (is_opening : IsOpening g opening) where
  abbrev w : Script
  w = g.script

  -- ---- completions

  abbrev IsRefusedLost : List Entry → Entry → Type 0
  IsRefusedLost before e = (why : Refusal) → stage_of e.request ≡ stages.Complete → e.outcome ≡ Answered (Refused why)
      → (why ≡ NoSuchUpload) × (was_lost e.request before ≡ true)

  refused_next : (es : List Entry) (x : Stand) → Runs g k opening es x → (c : Commit) → x.driver ≡ Some (TheCommit c) → Lost x.commit c
      → (n : ℕ) (r : Request) (o : Outcome) → commit_asks w c ≡ Some r → IsHonestOutcome o (answer x.seen.scene r)
      → IsRefusedLost x.commit (driver_entry n r o)
  refused_next es x run (Completing sets y ys finished) d lost n r o asked honest why stage got =
      let i = in_commit g k opening j is_opening es x run (Completing sets y ys finished) d in
      let due : Refused why ≡ answer x.seen.scene r = subst (λ v. IsHonestOutcome v (answer x.seen.scene r)) got honest in
      let z = refused_lost w g.minimum x.seen x.told j i.0 i.1 sets y ys finished i.2.fits i.2.tabled i.2.turns why
      (due ∙ ap (answer x.seen.scene) (sym (some_is asked))) in
      (z.0, subst (λ q. was_lost q x.commit ≡ true) (some_is asked) (lost y (inl refl) z.1))
  refused_next es x run (Fetching sets i) d lost n r o asked honest why stage got =
      let no = sym (read_stage w.committer w (length sets)) ∙ ap stage_of (some_is asked) ∙ stage in absurd cc
  refused_next es x run (Replacing sets p ps (Listing keys) i) d lost n r o asked honest why stage got = let no = ap stage_of
      (some_is asked) ∙ stage in absurd cc
  refused_next es x run (Reverting q qs i) d lost n r o asked honest why stage got =
      let z = (in_commit g k opening j is_opening es x run (Reverting q qs i) d).2.decides q (inl refl) in
      let is = ap stage_of (some_is asked) ∙ stage in
      elim z.2 [ inl y ↦ let no = sym (ap stage_of y) ∙ is in absurd cc | inr y ↦ let no = sym (ap stage_of y) ∙ is in absurd cc ]
  refused_next es x run (CommitOver end) d lost n r o asked honest why stage got = absurd (none_some refl asked)
  refused_next es x run _ d lost n r o asked honest why stage got = let no = ap stage_of (some_is asked) ∙ stage in absurd cc

  abbrev Answers : Stand → Type 0
  Answers x = (c : Commit) → x.driver ≡ Some (TheCommit c) → Lost x.commit c × Each IsRefusedLost x.commit

  driver_answers : DriverKeeps g k opening (λ es x. Answers x)
  driver_answers es x (TheCommit c) n r o run d asked timely few honest old v e =
      let h = old c d in (
        subst (Lost (x.commit ++ driver_entry n r o ∷ [])) (commit_is e) (lost_leads w x.commit (driver_entry n r o) (leads w c o) refl
            asked h.0),
        each_more IsRefusedLost x.commit (driver_entry n r o) h.1 (refused_next es x run c d h.0 n r o asked honest),
      )
  driver_answers es x (TheCheck t) n r o run d asked timely few honest old v e =
      let unsent = check_unsent g k opening j is_opening es x run t d in
      after_check_so g (λ op. Some op ≡ Some (TheCommit v) → Lost x.commit v × Each IsRefusedLost x.commit)
      (λ e. subst (λ l. Lost l v × Each IsRefusedLost l) (sym unsent) (
        subst (Lost []) (commit_is e) (lost_start w [] None),
        λ before z
            later q. absurd (no_member before z later q),
      )) (λ u e. absurd cc) (step w.retries (check_after w) t o) e
  driver_answers es x _ n r o run d asked timely few honest old v e = absurd cc

  begin_answers : (x : Stand) (b : Beginning) → Answers x → Answers (begin g x b)
  begin_answers x (BeginCommit reports) old c e = commit_of_so g (λ op. Some op ≡ Some (TheCommit c) → Lost [] c × Each IsRefusedLost [])
      (λ missing e. (subst (Lost []) (commit_is e) (lost_start w [] missing), λ before z later q. absurd (no_member before z later q)))
      (λ t e. absurd cc) reports e
  begin_answers x BeginSetup old c e = absurd cc
  begin_answers x BeginClean old c e = absurd (clean_of_so g (λ op. Some op ≡ Some (TheCommit c) → ⊥) (λ e. absurd cc) (λ e. absurd cc) e)
  begin_answers x _ old c e = old c e

  pub answers : (es : List Entry) (x : Stand) → Runs g k opening es x → Answers x
  answers =
      each_run g k opening (λ es x. Answers x) (λ c e. absurd (none_some refl e)) (λ es x b run may h. begin_answers x b h) driver_answers
      (λ es x a op n r o run set at asked honest h. h) (λ es x n r o run f h. h)

  -- ---- reads

  abbrev IsThere : List Entry → Entry → Type 0
  IsThere before e = e.actor ≡ Driver → is_begun k.clean e.event ≡ false → (t : ℕ) (y : Reply) → e.request ≡ set_request w.committer w t
      → e.outcome ≡ Answered y → IsSome (set_read y) ⊎ Unpublished w k opening before

  driver_there : (fs : List Entry) (x : Stand) → Runs g k opening fs x → (op : Operation) (n : ℕ) (r : Request) (o : Outcome)
      → x.driver ≡ Some op
      → asks g (who Driver) nothing_learnt op ≡ Some r → IsTimely k n op
      → x.seen.scene.content.next ≤ 2 ^ 64 → IsHonestOutcome o (answer x.seen.scene r) → IsThere fs (driver_entry n r o)
  driver_there fs x run (TheCommit (Fetching sets i)) n r o d asked timely few honest by still t y is got =
      let v = in_commit g k opening j is_opening fs x run (Fetching sets i) d in
      let st = stood g j k opening is_opening fs x run (Fetching sets i) d in
      let due : y ≡ answer x.seen.scene (set_request w.committer w (length sets)) =
      subst (λ u. IsHonestOutcome u (answer x.seen.scene r)) got honest ∙ ap (answer x.seen.scene) (sym (some_is asked)) in
      elim (brings g j k x.seen x.told v.0 v.2.uncleaned few n (commit_picks k x.seen.begun n timely.0 timely.1) sets v.2.fits.0
      (subst (ArePicks w x.seen.picks) (sym st.at.1) st.picks)) [
        | inl none ↦ inr (
          length sets,
          v.2.fits.0,
          ap (λ (s : Seen). s.last (length sets)) (sym (sees g k opening j is_opening fs x run)) ∙
              none.1,
        )
        | inr z ↦ inl (ap is_some (ap set_read due ∙ z.1))
      ]
  driver_there fs x run (TheCommit c) n r o d asked timely few honest by still t y is got =
      absurd (false_true (commit_unread w g.minimum x.told c refl (in_commit g k opening j is_opening fs x run c d).2.decides r asked t)
      (ap (is_reading w t) is ∙ reads_it j t))
  driver_there fs x run (TheSetup c) n r o d asked timely few honest by still t y is got =
      absurd (false_true ((setup_plain w c.operation r asked).reads t) (ap (is_reading w t) is ∙ reads_it j t))
  driver_there fs x run (TheClean c) n r o d asked timely few honest by still t y is got =
      absurd (false_true ((clean_plain w c.operation r asked).1 t) (ap (is_reading w t) is ∙ reads_it j t))
  driver_there fs x run (TheCheck c) n r o d asked timely few honest by still t y is got =
      absurd (false_true ((check_plain w c.operation r asked).reads t) (ap (is_reading w t) is ∙ reads_it j t))
  driver_there fs x run (TheSparing c) n r o d asked timely few honest by still t y is got = absurd (false_true still timely)
  driver_there fs x run op n r o d asked timely few honest by still t y is got = absurd
      (no_driver g j k opening is_opening fs x run op d (λ z. z))

  pub there : (es : List Entry) (x : Stand) → Runs g k opening es x → Each IsThere es
  there = each_run g k opening (λ es x. Each IsThere es) (λ before z later q. absurd (no_member before z later q)) (λ es x b run may h. h)
      (λ es x op n r o run d asked timely few honest h. each_more IsThere es (driver_entry n r o) h
      (driver_there es x run op n r o d asked timely few honest))
      (λ es x a op n r o run set at asked honest h. each_more IsThere es (entry a n r o) h (λ by still t v is got. absurd cc))
      (λ es x n r o run f h. each_more IsThere es (strange_entry n r o) h (λ by still t v is got. absurd cc))

pub commit_answers : CommitAnswers
commit_answers = record {
  refused = λ g j k opening is_opening es x run c d before e later why is. (answers g k opening j is_opening es x run c d).1 before e
      later is why;
  there = λ g j k opening is_opening es x run before e later t r is by still. there g k opening j is_opening es x run before e later is by
      still t r;
}
