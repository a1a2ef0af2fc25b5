-- A commit after an outcome.
use Rattle.text_and_lists.proofs.Naturals.{below_so, not_below}
use Rattle.commit_lanes.proofs.CommitEnds.{read_more}
use Rattle.commit_lanes.specs.Fitting.{SpellsSet, missed_of}
use Rattle.commit_lanes.specs.ReadSets.{AreRead, IsSetOf}
use Rattle.commit_lanes.specs.Tables.{LaneTable}
use Rattle.commit_lanes.specs.inner.Tables.{first_missed}
use Rattle.commit_lanes.specs.Undos.{undo_request}
use Rattle.commit_lanes.specs.declared.places.Place.{Place}
use Rattle.conflict.specs.Deletions.{Deletion}
use Rattle.job_commit.proofs.Steps.{holds_fetching, holds_over, holds_replacing, holds_reverting, some_so}
use Rattle.job_commit.specs.Holds.{picks_from}
use Rattle.job_commit.specs.inner.Holds.{IsNext, PicksHold, Reads, StepHolds, asks, attempts_of}
use Rattle.job_commit.specs.inner.Stages.{counted, missed_in, operation_of, replacing_at, reverting_from}
use Rattle.job_commit.specs.declared.basis.Basis.{Basis}
use Rattle.job_commit.specs.declared.step.Next.{Next}
use Rattle.job_commit.specs.declared.step.Step.{Step}
use Rattle.job_model.specs.Jobs.{Job}
use Rattle.job_model.specs.declared.ends.Pick.{Pick}
use Rattle.job_protocol.specs.AtWork.{read_script, sets_in}
use Rattle.job_protocol.specs.JobCommits.{Commit, CommitOver, Fetching, Marking, Replacing, Reverting, Sets, all_commits, commit_misses}
use Rattle.job_protocol.specs.JobCommits.{completing}
use Rattle.pending_json.specs.declared.records.PendingSet.{PendingSet}
use Rattle.s3_types.specs.declared.request.Request.{Request}
use Rattle.std.proofs.Common.{Bool, List, None, Option, Some, ap, arith, cond, false, length, length-append, map, refl, subst, suc, sym}
use Rattle.std.proofs.Common.{true, ℕ, [], ◌++◌, ◌+◌, ◌<◌, ◌^◌, ◌∙◌, ◌∷◌, ◌≡◌, ◌≤◌}
use Rattle.std.proofs.lemmas.List.{map-append}
use Rattle.job_model.specs.declared.ends.CommitEnd.TheVariants as ends
use Rattle.job_model.specs.declared.ends.FaultStage.TheVariants as stages
use Rattle.job_commit.specs.declared.step.Step.TheVariants as steps

-- ---- a set

picks_more : (t : ℕ) (xs : List ℕ) (a : ℕ) → picks_from t (xs ++ a ∷ []) ≡ picks_from t xs ++ record { task = t + length xs; attempt = a } ∷
    []
picks_more t [] a = (let e : t ≡ t + 0 = omega arith in ap (λ n. let l : List Pick = record { task = n; attempt = a } ∷ [] in l) e)
picks_more t (x ∷ xs) a =
    let e : t + 1 + length xs ≡ t + suc (length xs) = omega arith in
    ap (λ v. (let p : Pick = record { task = t; attempt = x } in p) ∷ v) (picks_more (t + 1) xs a ∙ ap
    (λ n. picks_from (t + 1) xs ++ record { task = n; attempt = a } ∷ []) e)

attempts_length : (picks : List Pick) → length (attempts_of picks) ≡ length picks
attempts_length [] = refl
attempts_length (p ∷ ps) = ap suc (attempts_length ps)

attempts_more : (picks : List Pick) (p : Pick) → attempts_of (picks ++ p ∷ []) ≡ attempts_of picks ++ p.attempt ∷ []
attempts_more picks p = map-append (λ (v : Pick). v.attempt) picks (p ∷ [])

pub picks_hold_more : (j : Job) (sets sets' : Sets) (picks picks' : List Pick) (s : PendingSet) (a : ℕ) → sets' ≡ sets ++ s ∷ []
    → picks' ≡ picks ++ record { task = length picks; attempt = a } ∷ [] → length sets < j.tasks → PicksHold j sets picks
    → PicksHold j sets' picks'
picks_hold_more j sets sets' picks picks' s a e f more h =
    let p : Pick = record { task = length picks; attempt = a } in
    let one : length sets' ≡ length sets + 1 = ap length e ∙ length-append sets (s ∷ []) in
    let two : length picks' ≡ length picks + 1 = ap length f ∙ length-append picks (p ∷ []) in
    let le : length picks ≤ length sets = h.counted in
    let z : length picks ≡ 0 + length (attempts_of picks) = (let g : length (attempts_of picks) ≡ length picks = attempts_length picks in
    omega arith) in
    record {
      picked = f ∙ ap (λ v. v ++ p ∷ []) h.picked ∙ ap (λ n. picks_from 0 (attempts_of picks) ++ record { task = n; attempt = a } ∷ []) z ∙
          sym (picks_more 0 (attempts_of picks) a) ∙ ap (picks_from 0) (sym (attempts_more picks p) ∙ ap attempts_of (sym f));
      counted = omega arith;
      few = omega arith;
    }

pub spelled : {j : Job} {t : ℕ} {o : Option PendingSet} (s : PendingSet) → o ≡ Some s → SpellsSet j t o → IsSetOf j t s
spelled {j = j} {t = t} s e h = let P : Option PendingSet → Type 0 = λ v. SpellsSet j t v in subst P e h

pub more_read : (j : Job) (sets sets' : Sets) (s : PendingSet) (o : Option PendingSet) → Reads j sets → SpellsSet j (length sets) o
    → o ≡ Some s → sets' ≡ sets ++ s ∷ [] → AreRead j sets'
more_read j sets sets' s o reads fits e f = let P : Sets
    → Type 0 = λ v. AreRead j v in subst P (sym f) (read_more j sets s reads.each (spelled s e fits))

pub picks_more_hold : (j : Job) (sets sets' : Sets) (picks picks' : List Pick) (s : PendingSet) (t a : ℕ) → sets' ≡ sets ++ s ∷ []
    → t ≡ length picks → picks' ≡ picks ++ record { task = t; attempt = a } ∷ [] → Reads j sets → PicksHold j sets picks
    → PicksHold j sets' picks'
picks_more_hold j sets sets' picks picks' s t a e f g reads held =
    picks_hold_more j sets sets' picks picks' s a e (g ∙ ap (λ v. picks ++ record { task = v; attempt = a } ∷ []) f) reads.more held

-- The same if the places may have become known.
pub picks_of_more : (b : Basis) (sets : Sets) (b' : Basis) (picks picks' : List Pick) (s : PendingSet) (t a : ℕ) → sets ≡ b.sets ++ s ∷ []
    → b' ≡ record b { sets = sets; places = b'.places } → t ≡ length picks → picks' ≡ picks ++ record { task = t; attempt = a } ∷ []
    → Reads b.plan b.sets → PicksHold b.plan b.sets picks → PicksHold b'.plan b'.sets picks'
picks_of_more b sets b' picks picks' s t a e i f g reads held = let P : Basis
    → Type 0 = λ v. PicksHold v.plan v.sets picks' in subst P (sym i) (picks_more_hold b.plan b.sets sets picks picks' s t a e f g reads
    held)

-- The commit after one more send without an answer.
abbrev pub missed_at : Job → Commit → Bool → Commit
missed_at j c lost = commit_misses (read_script j (sets_in c)) c lost

if_so : {b : Bool} (c d : Commit) → b ≡ true → c ≡ cond b c d
if_so {b = b} c d e = let P : Bool → Type 0 = λ v. c ≡ cond v c d in subst P (sym e) refl

-- ---- requests that are sent again

-- The count of the step is that of the operation.
pub missed_same : (j : Job) (sets : Sets) (places : List Place) (step : Step) → StepHolds j sets places step
    → missed_in step ≡ missed_of (operation_of sets step)
missed_same j sets places (steps.Replacing d m) s = some_so (λ ps. m ≡ missed_of (replacing_at sets m d.sweep ps)) (λ p ps. refl) d.prefixes
    (s.deletes d m refl).some
missed_same j sets places (steps.Completing l) s = elim l.turns as (λ xs. first_missed xs ≡ missed_of (completing sets xs l.finished))
    [ [] ↦ refl | x ∷ xs ↦ refl ]
missed_same j sets places (steps.Reverting u m) s = some_so (λ u. m ≡ missed_of
    (reverting_from m (map (undo_request (all_commits sets)) u))) (λ x xs. refl) u (s.some u m refl)
missed_same j sets places _ s = refl

pub counted_is : (j : Job) (sets : Sets) (places : List Place) (step : Step) (lost : Bool)
    → ((l : LaneTable) → step ≡ steps.Completing l → ⊥) → StepHolds j sets places step → missed_of (operation_of sets step) < j.retries
    → operation_of sets (counted step) ≡ missed_at j (operation_of sets step) lost
counted_is j sets places (steps.Fetching m) lost absent s h = if_so (Fetching sets (m + 1)) _ (below_so m j.retries h)
counted_is j sets places (steps.Replacing d m) lost absent s h =
    some_so (λ ps. missed_of (replacing_at sets m d.sweep ps) < j.retries
    → replacing_at sets (m + 1) d.sweep ps ≡ missed_at j (replacing_at sets m d.sweep ps) lost)
    (λ p ps h. if_so (Replacing sets p ps d.sweep (m + 1)) _ (below_so m j.retries h)) d.prefixes (s.deletes d m refl).some h
counted_is j sets places (steps.Completing l) lost absent s h = absurd (absent l refl)
counted_is j sets places (steps.Marking m) lost absent s h = if_so (Marking sets (m + 1)) _ (below_so m j.retries h)
counted_is j sets places (steps.Reverting u m) lost absent s h =
    let all = undo_request (all_commits sets) in
    some_so (λ u. missed_of (reverting_from m (map all u)) < j.retries
    → reverting_from (m + 1) (map all u) ≡ missed_at j (reverting_from m (map all u)) lost)
    (λ x xs h. if_so (Reverting (all x) (map all xs) (m + 1)) _ (below_so m j.retries h)) u (s.some u m refl) h
counted_is j sets places (steps.Over end) lost absent s h = refl

pub counted_holds : (j : Job) (sets : Sets) (places : List Place) (step : Step) → ((l : LaneTable) → step ≡ steps.Completing l → ⊥)
    → StepHolds j sets places step → StepHolds j sets places (counted step)
counted_holds j sets places (steps.Fetching m) absent s = holds_fetching j sets places (m + 1) (s.reads m refl)
counted_holds j sets places (steps.Replacing d m) absent s = holds_replacing j sets places d (m + 1) (s.deletes d m refl)
counted_holds j sets places (steps.Completing l) absent s = absurd (absent l refl)
counted_holds j sets places (steps.Marking m) absent s =
    record {
      reads = λ k e. absurd (cc);
      deletes = λ d k e. absurd (cc);
      all = λ l e. absurd (cc);
      lanes = λ l e. absurd (cc);
      turns = λ l e. absurd
          (cc);
      placed = λ u k e. absurd (cc);
      undo = λ u k e. absurd (cc);
      some = λ u k e. absurd (cc);
    }
counted_holds j sets places (steps.Reverting u m) absent s = holds_reverting j sets places u (m + 1) (s.placed u m refl) (s.undo u m refl)
    (s.some u m refl)
counted_holds j sets places (steps.Over end) absent s = holds_over j sets places end

pub counted_asks : (j : Job) (sets : Sets) (places : List Place) (step : Step) → ((l : LaneTable) → step ≡ steps.Completing l → ⊥)
    → StepHolds j sets places step → asks j (operation_of sets step) ≡ asks j (operation_of sets (counted step))
counted_asks j sets places (steps.Replacing d m) absent s =
    some_so (λ ps. asks j (replacing_at sets m d.sweep ps) ≡ asks j (replacing_at sets (m + 1) d.sweep ps)) (λ p ps. refl) d.prefixes
    (s.deletes d m refl).some
counted_asks j sets places (steps.Completing l) absent s = absurd (absent l refl)
counted_asks j sets places (steps.Reverting u m) absent s =
    let all = undo_request (all_commits sets) in
    some_so (λ u. asks j (reverting_from m (map all u)) ≡ asks j (reverting_from (m + 1) (map all u))) (λ x xs. refl) u (s.some u m refl)
counted_asks j sets places _ absent s = refl

-- The count fits its type.
pub count_fits : (j : Job) (sets : Sets) (places : List Place) (old step : Step) (n : ℕ) → step ≡ old → StepHolds j sets places old
    → missed_of (operation_of sets old) < j.retries → n ≡ j.retries → n ≤ 9 → missed_in step + 1 < 2 ^ 32
count_fits j sets places old step n is s h e k = let f : missed_in step ≡ missed_of (operation_of sets old) = ap missed_in is ∙ missed_same
    j sets places old s in omega arith

-- Any other request stays, and is counted.
pub again_counted : (j : Job) (sets : Sets) (places : List Place) (old step last : Step) (lost : Bool) (asked : Option Request) → step ≡ old
    → ((l : LaneTable) → step ≡ steps.Completing l → ⊥) → StepHolds j sets places old → missed_of (operation_of sets old) < j.retries
    → asked ≡ asks j (operation_of sets old) → last ≡ counted step
    → IsNext j sets places (missed_at j (operation_of sets old) lost) (record { step = last; asked = asked })
again_counted j sets places old step last lost asked is absent s h e f =
    let absent' : (l : LaneTable) → old ≡ steps.Completing l → ⊥ = λ l k. absent l (is ∙ k) in
    let same : operation_of sets (counted old) ≡ missed_at j (operation_of sets old) lost = counted_is j sets places old lost absent' s h in
    let P : Step → Type 0 = λ x. IsNext j sets places (missed_at j (operation_of sets old) lost) (record { step = x; asked = asked }) in
    subst P (sym (f ∙ ap counted is)) (record {
      is = same;
      asked = e ∙ counted_asks j sets places old absent' s ∙ ap (asks j) same;
      step =
          counted_holds j sets places old absent' s;
    })

-- ---- a request of a deletion exhausted its retries

if_not : {b : Bool} (c d : Commit) → b ≡ false → d ≡ cond b c d
if_not {b = b} c d e = let P : Bool → Type 0 = λ v. d ≡ cond v c d in subst P (sym e) refl

pub worn_deletion : (j : Job) (sets : Sets) (places : List Place) (step : Step) (d : Deletion) (m : ℕ) (lost : Bool) (next : Next)
    → step ≡ steps.Replacing d m → StepHolds j sets places step → j.retries ≤ missed_of (operation_of sets step)
    → next ≡ record { step = steps.Over (ends.StoreFault stages.Delete); asked = None }
    → IsNext j sets places (missed_at j (operation_of sets step) lost) next
worn_deletion j sets places step d m lost next e s h k =
    let x = s.deletes d m e in
    let low : j.retries ≤ missed_of (replacing_at sets m d.sweep d.prefixes) = subst (λ v. j.retries ≤ missed_of (operation_of sets v)) e h
    in
    let is : CommitOver (ends.StoreFault stages.Delete) ≡ missed_at j (replacing_at sets m d.sweep d.prefixes) lost =
    some_so (λ ps. j.retries ≤ missed_of (replacing_at sets m d.sweep ps)
    → CommitOver (ends.StoreFault stages.Delete) ≡ missed_at j (replacing_at sets m d.sweep ps) lost)
    (λ p ps h. if_not (Replacing sets p ps d.sweep (m + 1)) _ (not_below m j.retries h)) d.prefixes x.some low in
    let P : Commit → Type 0 = λ v. IsNext j sets places v next in
    let Q : Next → Type 0 = λ v. IsNext j sets places (CommitOver (ends.StoreFault stages.Delete)) v in
    let S : Step → Type 0 = λ v. IsNext j sets places (missed_at j (operation_of sets v) lost) next in
    subst S (sym e) (subst P is (subst Q (sym k) (record {
      is = refl;
      asked = refl;
      step = holds_over j sets places
          (ends.StoreFault stages.Delete);
    })))
