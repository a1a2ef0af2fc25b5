-- The next step of a commit.
use Rattle.text_and_lists.proofs.Members.{some_is}
use Rattle.text_and_lists.proofs.Naturals.{below_is, below_so}
use Rattle.commit_lanes.specs.Fitting.{FitsReply}
use Rattle.commit_lanes.proofs.Placing.{places_length}
use Rattle.commit_lanes.proofs.SamePaths.{same_path_is}
use Rattle.commit_lanes.specs.Clashes.{IsBest, items_from}
use Rattle.commit_lanes.specs.Places.{places_from}
use Rattle.commit_lanes.specs.ReadSets.{AreRead, HasAll}
use Rattle.commit_lanes.specs.Relatives.{relative_of}
use Rattle.commit_lanes.specs.Tables.{LaneTable, first_of, listed, next_turn}
use Rattle.commit_lanes.specs.Undos.{IsRevert, undo_request}
use Rattle.commit_lanes.specs.declared.places.Place.{Place}
use Rattle.commit_lanes.specs.declared.sharing.Clash.{Clash}
use Rattle.commit_lanes.specs.declared.undo.Undo.{Undo}
use Rattle.conflict.proofs.Tells.{deletions_tell}
use Rattle.conflict.specs.Deletions.{Deletion, FitsDeletion, asks_below, deleted, deletion_asks, deletion_hears, hears_below, spared}
use Rattle.conflict.specs.Deletions.{swept_on}
use Rattle.conflict.specs.ChecksEnd.{commit_deleting, deleting_below, deletion_of}
use Rattle.job_commit.specs.inner.Holds.{Deletes, Heard, IsNext, LanesWithin, Reads, StepHolds, UndoWithin, asks, attempts_of}
use Rattle.job_commit.specs.inner.Stages.{answered, operation_of, replacing_at, reverting_from, worn_out}
use Rattle.job_commit.specs.declared.step.Next.{Next}
use Rattle.job_commit.specs.declared.step.Step.{Step}
use Rattle.job_model.specs.JobScript.{Script}
use Rattle.job_model.specs.Jobs.{Job}
use Rattle.job_model.specs.declared.ends.CommitEnd.{CommitEnd}
use Rattle.job_model.specs.declared.ends.Pick.{Pick}
use Rattle.job_protocol.proofs.Members.{in_append, in_push}
use Rattle.job_protocol.proofs.Tables.{table_dealt}
use Rattle.job_protocol.specs.AtWork.{job_script, picked_after, read_script, sets_after}
use Rattle.job_protocol.specs.Conflicts.{partitions}
use Rattle.job_protocol.specs.JobCommits.{Commit, Fetching, Sets, all_commits, commit_hears, completing, decided, fetching, picks_of}
use Rattle.job_protocol.specs.JobCommits.{replaced, replacing, reverting, set_request, worn_completion}
use Rattle.job_protocol.specs.LaneTable.{In, Table}
use Rattle.job_protocol.specs.Lanes.{Turn, again, dealt, follow, fresh_turn, revert}
use Rattle.job_protocol.specs.Outputs.{Picks, same_path, wanted_paths}
use Rattle.list_walk.specs.Walks.{Sweep, sweep_hears, sweep_start}
use Rattle.path_keys.specs.Paths.{Path}
use Rattle.s3_types.specs.declared.journal.Outcome.TheVariants.{Answered}
use Rattle.s3_types.specs.declared.reply.Reply.{Reply}
use Rattle.s3_types.specs.declared.request.Committer.{Committer}
use Rattle.s3_types.specs.declared.request.Committer.TheVariants.{Magic}
use Rattle.s3_types.specs.declared.request.Mode.{Mode}
use Rattle.s3_types.specs.declared.request.Mode.TheVariants.{Replace}
use Rattle.s3_types.specs.declared.request.Request.{Request}
use Rattle.std.proofs.Common.{Bool, List, None, OnOk, Option, Result, Some, ap, arith, cond, drop, false, inl, inr, length, map, nat_lt}
use Rattle.std.proofs.Common.{refl, subst, sym, true, ℕ, [], ◌++◌, ◌+◌, ◌<◌, ◌∙◌, ◌∷◌, ◌≡◌, ◌≤◌}
use Rattle.std.proofs.lemmas.List.{append-nil}
use Rattle.std.proofs.lemmas.Result.{on_ok_weaker}
use Rattle.std.specs.Prelude.{⊤}
use Rattle.job_model.specs.declared.ends.CommitEnd.TheVariants as ends
use Rattle.job_commit.specs.declared.step.Step.TheVariants as steps

-- A fact about each list with a first item holds for each list that is not empty.
pub some_so : {X : Type 0} (P : List X → Type 0) → ((x : X) (xs : List X) → P (x ∷ xs)) → (xs : List X) → (xs ≡ [] → ⊥) → P xs
some_so P h [] some = absurd (some refl)
some_so P h (x ∷ xs) some = h x xs

-- ---- the facts that each stage keeps

pub holds_fetching : (j : Job) (sets : Sets) (places : List Place) (m : ℕ) → Reads j sets → StepHolds j sets places (steps.Fetching m)
holds_fetching j sets places m h = record {
  reads = λ k e. h;
  deletes = λ d k e. absurd (cc);
  all = λ l e. absurd (cc);
  lanes = λ l e.
      absurd (cc);
  turns = λ l e. absurd (cc);
  placed = λ u k e. absurd (cc);
  undo = λ u k e. absurd (cc);
  some = λ u k e. absurd (cc);
}

undo_same : {u v : List Undo} {m n : ℕ} → steps.Reverting u m ≡ steps.Reverting v n → u ≡ v
undo_same e = cc

pub holds_reverting : (j : Job) (sets : Sets) (places : List Place) (u : List Undo) (m : ℕ) → places ≡ places_from 0 sets
    → UndoWithin sets u → (u ≡ [] → ⊥) → StepHolds j sets places (steps.Reverting u m)
holds_reverting j sets places u m p w some =
    let W : List Undo → Type 0 = λ v. UndoWithin sets v in
    let S : List Undo → Type 0 = λ v. v ≡ [] → ⊥ in
    record {
      reads = λ k e. absurd (cc);
      deletes = λ d k e. absurd (cc);
      all = λ l e. absurd (cc);
      lanes = λ l e. absurd (cc);
      turns = λ l
          e. absurd (cc);
      placed = λ v k e. p;
      undo = λ v k e. subst W (undo_same e) w;
      some = λ v k e. subst S (undo_same e) some;
    }

deletion_same : {d e : Deletion} {m n : ℕ} → steps.Replacing d m ≡ steps.Replacing e n → d ≡ e
deletion_same e = cc

pub holds_replacing : (j : Job) (sets : Sets) (places : List Place) (d : Deletion) (m : ℕ) → Deletes j sets places d
    → StepHolds j sets places (steps.Replacing d m)
holds_replacing j sets places d m h =
    let P : Deletion → Type 0 = λ v. Deletes j sets places v in
    record {
      reads = λ k e. absurd (cc);
      deletes = λ v k e. subst P (deletion_same e) h;
      all = λ l e. absurd (cc);
      lanes = λ l e. absurd
          (cc);
      turns = λ l e. absurd (cc);
      placed = λ u k e. absurd (cc);
      undo = λ u k e. absurd (cc);
      some = λ u k e. absurd (cc);
    }

pub holds_over : (j : Job) (sets : Sets) (places : List Place) (end : CommitEnd) → StepHolds j sets places (steps.Over end)
holds_over j sets places end = record {
  reads = λ k e. absurd (cc);
  deletes = λ d k e. absurd (cc);
  all = λ l e. absurd (cc);
  lanes = λ l e.
      absurd (cc);
  turns = λ l e. absurd (cc);
  placed = λ u k e. absurd (cc);
  undo = λ u k e. absurd (cc);
  some = λ u k e. absurd (cc);
}

-- The same operation in another form.
pub next_same : {j : Job} {sets : Sets} {places : List Place} {next : Next} (c d : Commit) → c ≡ d → IsNext j sets places c next
    → IsNext j sets places d next
next_same {j = j} {sets = sets} {places = places} {next = next} c d e h = let P : Commit
    → Type 0 = λ x. IsNext j sets places x next in subst P e h

-- ---- completing

-- The number of the turn that is next is that of an upload.
pub first_within : (sets : Sets) (xs : List Turn) (done : List ℕ) (x : Turn) → LanesWithin sets (record { turns = xs; finished = done })
    → first_of xs ≡ Some x → x.number < length (all_commits sets)
first_within sets [] done x w e = absurd (cc)
first_within sets (y ∷ ys) done x w e = let i : y ≡ x = some_is e in w.turns x (inl i)

-- ---- lanes after an outcome

follow_is : (lanes total n : ℕ) → listed (next_turn lanes total n) ≡ follow lanes total n
follow_is lanes total n =
    elim (nat_lt (n + lanes) total) as (λ b. let x = fresh_turn (n + lanes) in listed (cond b (Some x) None) ≡ cond b (x ∷ []) [])
    [ true ↦ refl | false ↦ refl ]

follow_within : (lanes total n : ℕ) (b : Bool) → nat_lt (n + lanes) total ≡ b → (y : Turn) → In y (cond b (fresh_turn (n + lanes) ∷ []) [])
    → y.number < total
follow_within lanes total n true e y i = elim i [
  | inl f ↦ let g : n + lanes ≡ y.number = ap (λ (v : Turn). v.number) f in let l : n + lanes
      < total = below_is (n + lanes) total e in omega arith
  | inr h ↦ absurd h
]
follow_within lanes total n false e y i = absurd i

-- The lanes after an answer.
pub answered_lanes : (j : Job) (sets : Sets) (places : List Place) (xs : List Turn) (done : List ℕ) (x : Turn) (l : LaneTable)
    → first_of xs ≡ Some x → places ≡ places_from 0 sets
    → l ≡ record { turns = drop 1 xs ++ listed (next_turn j.lanes (length places) x.number); finished = x.number ∷ done }
    → completing sets l.turns l.finished ≡ answered j sets xs done
answered_lanes j sets places [] done x l e p is = absurd (cc)
answered_lanes j sets places (y ∷ ys) done x l e p is =
    let total : length places ≡ length (all_commits sets) = ap length p ∙ places_length 0 sets in
    let i : x ≡ y = sym (some_is e) in
    ap (λ (v : LaneTable). completing sets v.turns v.finished) is
    ∙ ap (λ n. completing sets (ys ++ listed (next_turn j.lanes n x.number)) (x.number ∷ done)) total
    ∙ ap (λ v. completing sets (ys ++ v) (x.number ∷ done)) (follow_is j.lanes (length (all_commits sets)) x.number)
    ∙ ap (λ (v : Turn). completing sets (ys ++ follow j.lanes (length (all_commits sets)) v.number) (v.number ∷ done)) i

pub answered_within : (j : Job) (sets : Sets) (places : List Place) (xs : List Turn) (done : List ℕ) (x : Turn) (l : LaneTable)
    → first_of xs ≡ Some x → places ≡ places_from 0 sets
    → l ≡ record { turns = drop 1 xs ++ listed (next_turn j.lanes (length places) x.number); finished = x.number ∷ done }
    → LanesWithin sets (record { turns = xs; finished = done }) → LanesWithin sets l
answered_within j sets places [] done x l e p is w = absurd (cc)
answered_within j sets places (y ∷ ys) done x l e p is w =
    let total : length places ≡ length (all_commits sets) = ap length p ∙ places_length 0 sets in
    let i : y ≡ x = some_is e in
    let W : LaneTable → Type 0 = λ v. LanesWithin sets v in
    let F : List Turn → Type 0 = λ v. (z : Turn) → In z v → z.number < length (all_commits sets) in
    let N : ℕ → Type 0 = λ n. (z : Turn) → In z (listed (next_turn j.lanes n x.number)) → z.number < length (all_commits sets) in
    let new = subst N (sym total) (subst F (sym (follow_is j.lanes (length (all_commits sets)) x.number))
    (follow_within j.lanes (length (all_commits sets)) x.number (nat_lt (x.number + j.lanes) (length (all_commits sets))) refl)) in
    subst W (sym is) (record {
      turns = λ z at. elim (in_append z ys (listed (next_turn j.lanes (length places) x.number)) at)
          [ inl a ↦ w.turns z (inr a) | inr b ↦ new z b ];
      done = λ n at. elim at [
        | inl f ↦ let b : x.number < length (all_commits sets) = w.turns x (inl i) in omega arith
        | inr k ↦ w.done n k
      ];
    })

pub again_within : (sets : Sets) (xs : List Turn) (done : List ℕ) (x : Turn) (lost : Bool) (l : LaneTable) → first_of xs ≡ Some x
    → l ≡ record { turns = drop 1 xs ++ listed (Some (again x lost)); finished = done }
    → LanesWithin sets (record { turns = xs; finished = done }) → LanesWithin sets l
again_within sets [] done x lost l e is w = absurd (cc)
again_within sets (y ∷ ys) done x lost l e is w =
    let i : y ≡ x = some_is e in
    let W : LaneTable → Type 0 = λ v. LanesWithin sets v in
    subst W (sym is) (record {
      turns = λ z at. elim (in_push z ys (again x lost) at) [
        | inl a ↦ w.turns z (inr a)
        | inr f ↦ let g : x.number ≡ z.number = ap
            (λ (v : Turn). v.number) f in let b : x.number < length (all_commits sets) = w.turns x (inl i) in omega arith
      ];
      done = w.done;
    })

-- ---- the revert

-- The commit after a completion exhausted its retries.
pub worn_next : (j : Job) (sets : Sets) (places : List Place) (xs : List Turn) (done : List ℕ) (x : Turn) (l : LaneTable) (u : List Undo)
    (next : Next) → first_of xs ≡ Some x → places ≡ places_from 0 sets → l ≡ record { turns = drop 1 xs ++ listed None; finished = done }
    → IsRevert (length places) x.number l.turns l.finished u
    → IsNext j sets places (reverting_from 0 (map (undo_request (all_commits sets)) u)) next
    → IsNext j sets places (worn_out sets xs done) next
worn_next j sets places [] done x l u next e p is r h = absurd (cc)
worn_next j sets places (y ∷ ys) done x l u next e p is r h =
    let total : length (all_commits sets) ≡ length places = sym (ap length p ∙ places_length 0 sets) in
    let same : map (undo_request (all_commits sets)) u ≡ revert (all_commits sets) y.number ys done =
    r (all_commits sets) total
    ∙ ap (λ (v : LaneTable). revert (all_commits sets) x.number v.turns v.finished) is
    ∙ ap (λ v. revert (all_commits sets) x.number v done) (append-nil ys)
    ∙ ap (λ (v : Turn). revert (all_commits sets) v.number ys done) (sym (some_is e)) in
    next_same (reverting_from 0 (map (undo_request (all_commits sets)) u)) (worn_completion sets y ys done)
    (ap (reverting_from 0) same ∙ (elim (revert (all_commits sets) y.number ys done) as (λ rs. reverting_from 0 rs ≡ reverting rs)
    [ [] ↦ refl | r ∷ rs ↦ refl ])) h

-- ---- the stages, with the result of each call

pub next_as : {j : Job} {sets : Sets} {places : List Place} {c : Commit} (n m : Next) → m ≡ n → IsNext j sets places c n
    → IsNext j sets places c m
next_as {j = j} {sets = sets} {places = places} {c = c} n m e h = let P : Next → Type 0 = λ x. IsNext j sets places c x in subst P (sym e) h

-- The number of the lane in turn is that of an upload.
pub turn_within : (sets : Sets) (l : LaneTable) (x : Turn) (n : ℕ) → LanesWithin sets l → Some x ≡ first_of l.turns → n ≡ x.number
    → n < length (all_commits sets)
turn_within sets l x n w f e = let b : x.number < length (all_commits sets) = first_within sets l.turns l.finished x w (sym f) in omega
    arith

best_of : (sets slice : Sets) (best o : Option Clash) → slice ≡ sets → best ≡ o → IsBest (items_from 0 slice) best
    → IsBest (items_from 0 sets) o
best_of sets slice best o e f h =
    let S : Sets → Type 0 = λ v. IsBest (items_from 0 v) o in
    let B : Option Clash → Type 0 = λ v. IsBest (items_from 0 slice) v in
    subst S e (subst B f h)

-- The path that two tasks write.
pub shared_is : (j : Job) (dest : Path) (sets slice : Sets) (best : Option Clash) (clash : Clash) (path : List ℕ) → AreRead j sets
    → length sets ≡ j.tasks → slice ≡ sets → best ≡ Some clash → IsBest (items_from 0 slice) best → dest ≡ j.dest
    → path ≡ relative_of dest clash.key
    → Some (ends.SamePath path clash.first clash.second) ≡ same_path (read_script j sets) (picks_of sets)
shared_is j dest sets slice best clash path each all s b h d e = ap (λ p. Some (ends.SamePath p clash.first clash.second))
    (e ∙ ap (λ v. relative_of v clash.key) d) ∙ same_path_is j sets (Some clash) each all (best_of sets slice best (Some clash) s b h)

pub none_shared : (j : Job) (sets slice : Sets) (best : Option Clash) → AreRead j sets → length sets ≡ j.tasks → slice ≡ sets → best ≡ None
    → IsBest (items_from 0 slice) best → None ≡ same_path (read_script j sets) (picks_of sets)
none_shared j sets slice best each all s b h = same_path_is j sets None each all (best_of sets slice best None s b h)

-- The numbers of the lanes as they are dealt are those of uploads.
pub dealt_within : (j : Job) (sets : Sets) (places : List Place) (l : LaneTable) (lanes n : ℕ) → 1 ≤ lanes → lanes ≡ j.lanes
    → n ≡ length places → places ≡ places_from 0 sets → l ≡ record { turns = dealt lanes n; finished = [] } → LanesWithin sets l
dealt_within j sets places l lanes n some a e p is =
    let total : n ≡ length (all_commits sets) = e ∙ ap length p ∙ places_length 0 sets in
    let all = length (all_commits sets) in
    let same : l ≡ record { turns = dealt j.lanes all; finished = [] } = is ∙ (λ i. record { turns = dealt (a i) (total i); finished = [] })
    in
    let some' : 0 < j.lanes = omega arith in
    let W : LaneTable → Type 0 = λ v. LanesWithin sets v in
    let t : Table j.lanes 0 all (dealt j.lanes all) [] = table_dealt j.lanes 0 all some' in
    subst W (sym same) (record { turns = t.within; done = λ k i. absurd i })

pub dealt_next : {E : Type 0} (r : Result ⊤ E) (j : Job) (sets : Sets) (places : List Place) (l : LaneTable) (lanes n : ℕ) (next : Next)
    → lanes ≡ j.lanes → n ≡ length places → places ≡ places_from 0 sets → l ≡ record { turns = dealt lanes n; finished = [] }
    → OnOk r (IsNext j sets places (completing sets l.turns l.finished) next)
    → OnOk r (IsNext j sets places (completing sets (dealt j.lanes (length (all_commits sets))) []) next)
dealt_next r j sets places l lanes n next a e p is h =
    let total : n ≡ length (all_commits sets) = e ∙ ap length p ∙ places_length 0 sets in
    let same : completing sets l.turns l.finished ≡ completing sets (dealt j.lanes (length (all_commits sets))) [] = ap
    (λ (v : LaneTable). completing sets v.turns v.finished) is ∙ (λ i. completing sets (dealt (a i) (total i)) []) in
    on_ok_weaker r (next_same _ _ same) h

fetching_yes : (j : Job) (sets : Sets) → length sets < j.tasks → Fetching sets 0 ≡ fetching (read_script j sets) sets
fetching_yes j sets h = let P : Bool → Type 0 = λ v. Fetching sets 0 ≡ cond v (Fetching sets 0)
    (decided (read_script j sets) sets (same_path (read_script j sets) (picks_of sets))) in subst P (sym (below_so (length sets) j.tasks h))
    refl

-- The commit reads a set.
pub fetching_is : (j : Job) (sets : Sets) (places : List Place) (count t : ℕ) (r : Request) (next : Next) → AreRead j sets
    → count ≡ length sets → t ≡ j.tasks → count < t → r ≡ set_request j.committer (job_script j) count
    → next ≡ record { step = steps.Fetching 0; asked = Some r }
    → IsNext j sets places (fetching (read_script j sets) sets) next
fetching_is j sets places count t r next each e f h q k =
    let more : length sets < j.tasks = omega arith in
    next_as _ next k (next_same (Fetching sets 0) (fetching (read_script j sets) sets) (fetching_yes j sets more) (record {
      is = refl;
      asked = ap Some (q ∙ ((elim j.committer as (λ c. set_request c (job_script j) count ≡ set_request c (read_script j sets) count)
          [ Magic ↦ refl | _ ↦ refl ])
          ∙ ap (set_request j.committer (read_script j sets)) e));
      step = holds_fetching j sets places 0 (record { each = each; more = more });
    }))

-- ---- a deletion

some_below : (bucket : List ℕ) (sweep : Sweep) (ps : List (List ℕ)) (r : Request) → Some r ≡ asks_below bucket sweep ps → ps ≡ [] → ⊥
some_below bucket sweep [] r e f = absurd (cc)
some_below bucket sweep (p ∷ ps) r e f = absurd (cc)

-- The deletion goes on.
pub deleting_next : (j : Job) (sets : Sets) (places : List Place) (d : Deletion) (bucket : List ℕ) (r : Request) (next : Next)
    → HasAll j sets places → d.spared ≡ spared j.dest → bucket ≡ j.dest.bucket → Some r ≡ deletion_asks bucket d
    → next ≡ record { step = steps.Replacing d 0; asked = Some r }
    → IsNext j sets places (commit_deleting (read_script j sets) sets d) next
deleting_next j sets places d bucket r next all s b e k =
    let f : Some r ≡ asks_below j.dest.bucket d.sweep d.prefixes = e ∙ ap (λ v. asks_below v d.sweep d.prefixes) b in
    let some = some_below j.dest.bucket d.sweep d.prefixes r f in
    let w = read_script j sets in
    next_as _ next k (record {
      is = some_so (λ ps. replacing_at sets 0 d.sweep ps ≡ deleting_below w sets d.sweep ps) (λ p ps. refl) d.prefixes some;
      asked = f ∙ some_so (λ ps. asks_below j.dest.bucket d.sweep ps ≡ asks j (deleting_below w sets d.sweep ps)) (λ p ps. refl) d.prefixes
          some;
      step = holds_replacing j sets places d 0 (record { all = all; spared = s; some = some });
    })

pub over_below : (j : Job) (sets : Sets) (sweep : Sweep) (bucket : List ℕ) (ps : List (List ℕ)) → None ≡ asks_below bucket sweep ps
    → completing sets (dealt j.lanes (length (all_commits sets))) [] ≡ deleting_below (read_script j sets) sets sweep ps
over_below j sets sweep bucket [] e = refl
over_below j sets sweep bucket (p ∷ ps) e = absurd (cc)

-- The deletion begins.
pub begins_deleting : (j : Job) (sets : Sets) (d : Deletion) → j.mode ≡ Replace
    → (let w = read_script j sets in d ≡ record {
      prefixes = deleted j.committer j.dest (partitions (wanted_paths w (picks_of sets)));
      sweep = sweep_start;
      spared = spared j.dest;
    })
    → commit_deleting (read_script j sets) sets d ≡ replacing (read_script j sets) sets
    (replaced j.committer j.mode (read_script j sets) (picks_of sets))
begins_deleting j sets d m e =
    let w = read_script j sets in
    ap (commit_deleting w sets) e
    ∙ (sym (deletions_tell.starts w sets (deleted j.committer j.dest (partitions (wanted_paths w (picks_of sets)))))
    ∙ ap (replacing w sets) (sym (deletions_tell.prefixes w (picks_of sets) m)))

pub spared_is : (d : Deletion) (j : Job) (ps : List (List ℕ)) (sweep : Sweep)
    → d ≡ record { prefixes = ps; sweep = sweep; spared = spared j.dest } → d.spared ≡ spared j.dest
spared_is d j ps sweep e = ap (λ (v : Deletion). v.spared) e

-- A mode that keeps all files.
kept_prefixes : (c : Committer) (m : Mode) (w : Script) (picks : Picks) → (m ≡ Replace → ⊥) → [] ≡ replaced c m w picks
kept_prefixes Magic m w picks h = refl
kept_prefixes _ Replace w picks h = absurd (h refl)
kept_prefixes _ _ w picks h = refl

pub kept_next : {E : Type 0} (r : Result ⊤ E) (j : Job) (sets : Sets) (places : List Place) (mode : Mode) (next : Next) → mode ≡ j.mode
    → (mode ≡ Replace → ⊥)
    → OnOk r (IsNext j sets places (completing sets (dealt j.lanes (length (all_commits sets))) []) next)
    → OnOk r (IsNext j sets places (replacing (read_script j sets) sets (replaced j.committer j.mode (read_script j sets)
    (picks_of sets))) next)
kept_next r j sets places mode next a b h =
    let w = read_script j sets in
    on_ok_weaker r (next_same _ _ (ap (replacing w sets) (kept_prefixes j.committer j.mode w (picks_of sets) (λ e. b (a ∙ e))))) h

-- ---- a deletion after a reply

still_spared : (d : Deletion) (ps : List (List ℕ)) (r : Reply) → (hears_below d ps r).spared ≡ d.spared
still_spared d [] r = refl
still_spared d (p ∷ ps) r = elim (sweep_hears _ d.sweep r) as (λ o. (swept_on d.spared p ps o).spared ≡ d.spared)
    [ Some s ↦ refl | None ↦ refl ]

pub spared_still : (d e : Deletion) (r : Reply) (x : List ℕ) → e ≡ deletion_hears d r → d.spared ≡ x → e.spared ≡ x
spared_still d e r x f s = ap (λ (v : Deletion). v.spared) f ∙ (still_spared d d.prefixes r ∙ s)

-- A reply that fits the commit fits the deletion.
pub fits_deletion : (j : Job) (sets : Sets) (m : ℕ) (d : Deletion) (r : Reply) → FitsReply j (replacing_at sets m d.sweep d.prefixes) r
    → FitsDeletion d r
fits_deletion j sets m d r h =
    (elim d.prefixes as (λ ps. FitsReply j (replacing_at sets m d.sweep ps) r
    → FitsDeletion (record { prefixes = ps; sweep = d.sweep; spared = d.spared }) r)
    [ [] ↦ λ h. tt | p ∷ ps ↦ λ h. h ]) h

-- The commit goes on as the deletion does.
pub deletion_heard : (j : Job) (sets : Sets) (places : List Place) (m : ℕ) (d : Deletion) (r : Reply) → Deletes j sets places d
    → (let w = read_script j sets in commit_deleting w sets (deletion_hears d r) ≡ commit_hears w (replacing_at sets m d.sweep d.prefixes)
    r)
deletion_heard j sets places m d r h =
    let w = read_script j sets in
    ap (λ s. commit_deleting w sets (deletion_hears (record { prefixes = d.prefixes; sweep = d.sweep; spared = s }) r)) h.spared
    ∙ some_so (λ ps. commit_deleting w sets (deletion_hears (deletion_of w ps d.sweep) r) ≡ commit_hears w (replacing_at sets m d.sweep ps)
    r)
    (λ p ps. sym (deletions_tell.goes w sets p ps d.sweep m r)) d.prefixes h.some

-- A result for the deletion is a result for the commit.
pub deletion_told : {E : Type 0} (x : Result ⊤ E) (j : Job) (sets : Sets) (places : List Place) (picks : List Pick) (step : Step)
    (d : Deletion) (m : ℕ) (r : Reply) (next : Next) → step ≡ steps.Replacing d m → StepHolds j sets places step
    → OnOk x (IsNext j sets places (commit_deleting (read_script j sets) sets (deletion_hears d r)) next)
    → OnOk x (Heard j sets picks (operation_of sets step) r sets places picks next)
deletion_told x j sets places picks step d m r next e s h =
    let k = s.deletes d m e in
    let S : Step → Type 0 = λ v. OnOk x (Heard j sets picks (operation_of sets v) r sets places picks next) in
    let kept = some_so (λ ps. sets_after (replacing_at sets m d.sweep ps) (Answered r) ≡ sets) (λ p ps. refl) d.prefixes k.some in
    subst S (sym e) (on_ok_weaker x (λ i. record {
      next = next_same _ _ (deletion_heard j sets places m d r k ∙ ap (λ v. commit_hears (read_script j v)
          (replacing_at sets m d.sweep d.prefixes) r) (sym kept)) i;
      picked = some_so (λ ps. attempts_of picks ≡ picked_after (attempts_of picks) (replacing_at sets m d.sweep ps) (Answered r))
          (λ p ps. refl) d.prefixes k.some;
    }) h)
