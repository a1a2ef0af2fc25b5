-- The lanes after an outcome, with the result of each call.
use Rattle.commit_lanes.proofs.Placing.{places_length}
use Rattle.commit_lanes.specs.Places.{places_from}
use Rattle.commit_lanes.specs.Tables.{LaneTable, first_of, listed, next_turn}
use Rattle.commit_lanes.specs.Undos.{IsRevert, NumbersWithin, undo_request}
use Rattle.commit_lanes.specs.declared.places.Place.{Place}
use Rattle.commit_lanes.specs.declared.undo.Undo.{Undo}
use Rattle.job_commit.proofs.Steps.{again_within, answered_lanes, answered_within, first_within, next_same, worn_next}
use Rattle.job_commit.specs.inner.Holds.{IsNext, LanesWithin, UndoWithin}
use Rattle.job_commit.specs.inner.Stages.{answered, reverting_from, worn_out}
use Rattle.job_commit.specs.declared.step.Next.{Next}
use Rattle.job_model.specs.Jobs.{Job}
use Rattle.job_protocol.specs.JobCommits.{Sets, all_commits, completing}
use Rattle.job_protocol.specs.LaneTable.{In}
use Rattle.job_protocol.specs.Lanes.{Turn, again}
use Rattle.std.proofs.Common.{Bool, List, None, OnOk, Option, Result, Some, ap, arith, drop, length, map, subst, sym, ℕ, ◌++◌, ◌<◌, ◌∙◌}
use Rattle.std.proofs.Common.{◌∷◌, ◌≡◌}
use Rattle.std.proofs.lemmas.Result.{on_ok_weaker}
use Rattle.std.specs.Prelude.{⊤}

-- ---- after an answer

-- The table after the turn was taken out, the lane's next turn added at the end, and the upload marked as completed.
record Answered (j : Job) (sets : Sets) (places : List Place) (old new : LaneTable) : Type 0 where
  turn : Turn
  first : Some turn ≡ first_of old.turns
  is : new ≡ record {
    turns = drop 1 old.turns ++ listed (next_turn j.lanes (length places) turn.number);
    finished = turn.number ∷
        old.finished;
  }

answered_table : (j : Job) (sets : Sets) (places : List Place) (l l1 l2 : LaneTable) (x : Turn) (o : Option Turn) (n m lanes count : ℕ)
    → Some x ≡ first_of l.turns → n ≡ x.number → m ≡ x.number → lanes ≡ j.lanes → count ≡ length places → o ≡ next_turn lanes count n
    → l1 ≡ record { turns = drop 1 l.turns ++ listed o; finished = l.finished }
    → l2 ≡ record { turns = l1.turns; finished = m ∷ l1.finished } → Answered j sets places l l2
answered_table j sets places l l1 l2 x o n m lanes count f a b c d e g h = record {
  turn = x;
  first = f;
  is =
      let D : Option Turn → LaneTable = λ v. record { turns = drop 1 l.turns ++ listed v; finished = x.number ∷ l.finished } in
      let M : LaneTable → ℕ → LaneTable = λ v k. record { turns = v.turns; finished = k ∷ v.finished } in
      h ∙ ap (λ k. M l1 k) b ∙ ap (λ v. M v x.number) g ∙ ap D (e ∙ (λ i. next_turn (c i) (d i) (a i)));
}

pub answered_still : (j : Job) (sets : Sets) (places : List Place) (l l1 l2 : LaneTable) (x : Turn) (o : Option Turn) (n m lanes count : ℕ)
    → Some x ≡ first_of l.turns → n ≡ x.number → m ≡ x.number → lanes ≡ j.lanes → count ≡ length places → o ≡ next_turn lanes count n
    → l1 ≡ record { turns = drop 1 l.turns ++ listed o; finished = l.finished }
    → l2 ≡ record { turns = l1.turns; finished = m ∷ l1.finished } → places ≡ places_from 0 sets → LanesWithin sets l
    → LanesWithin sets l2
answered_still j sets places l l1 l2 x o n m lanes count f a b c d e g h p w =
    let t = answered_table j sets places l l1 l2 x o n m lanes count f a b c d e g h in
    answered_within j sets places l.turns l.finished t.turn l2 (sym t.first) p t.is w

pub answered_next : {E : Type 0} (r : Result ⊤ E) (j : Job) (sets : Sets) (places : List Place) (l l1 l2 : LaneTable) (x : Turn)
    (o : Option Turn) (n m lanes count : ℕ) (next : Next) → Some x ≡ first_of l.turns → n ≡ x.number → m ≡ x.number → lanes ≡ j.lanes
    → count ≡ length places → o ≡ next_turn lanes count n
    → l1 ≡ record { turns = drop 1 l.turns ++ listed o; finished = l.finished }
    → l2 ≡ record { turns = l1.turns; finished = m ∷ l1.finished } → places ≡ places_from 0 sets
    → OnOk r (IsNext j sets places (completing sets l2.turns l2.finished) next)
    → OnOk r (IsNext j sets places (answered j sets l.turns l.finished) next)
answered_next r j sets places l l1 l2 x o n m lanes count next f a b c d e g h p k =
    let t = answered_table j sets places l l1 l2 x o n m lanes count f a b c d e g h in
    on_ok_weaker r (next_same _ _ (answered_lanes j sets places l.turns l.finished t.turn l2 (sym t.first) p t.is)) k

-- ---- after no answer

again_table : (l l1 : LaneTable) (x y : Turn) (lost : Bool) → y ≡ again x lost
    → l1 ≡ record { turns = drop 1 l.turns ++ listed (Some y); finished = l.finished }
    → l1 ≡ record { turns = drop 1 l.turns ++ listed (Some (again x lost)); finished = l.finished }
again_table l l1 x y lost e h = h ∙ ap (λ v. let k : LaneTable = record { turns = drop 1 l.turns ++ listed (Some v); finished = l.finished }
    in k) e

pub again_still : (sets : Sets) (l l1 : LaneTable) (x y : Turn) (lost : Bool) → Some x ≡ first_of l.turns → y ≡ again x lost
    → l1 ≡ record { turns = drop 1 l.turns ++ listed (Some y); finished = l.finished } → LanesWithin sets l → LanesWithin sets l1
again_still sets l l1 x y lost f e h w = again_within sets l.turns l.finished x lost l1 (sym f) (again_table l l1 x y lost e h) w

-- ---- after a completion that exhausted its retries

pub done_within : (sets : Sets) (places : List Place) (l l1 : LaneTable) (count : ℕ) → places ≡ places_from 0 sets → count ≡ length places
    → l1 ≡ record { turns = drop 1 l.turns ++ listed None; finished = l.finished } → LanesWithin sets l → (n : ℕ) → In n l1.finished
    → n < count
done_within sets places l l1 count p c h w n i =
    let b : n < length places =
    (let total : length places ≡ length (all_commits sets) = ap length p ∙ places_length 0 sets in let P : LaneTable
    → Type 0 = λ v. In n v.finished in
    let b : n < length (all_commits sets) = w.done n (subst P h i) in omega arith) in omega arith

pub worn_within : (sets : Sets) (places : List Place) (l : LaneTable) (x : Turn) (n count : ℕ) → Some x ≡ first_of l.turns → n ≡ x.number
    → places ≡ places_from 0 sets → count ≡ length places → LanesWithin sets l → n < count
worn_within sets places l x n count f e p c w =
    let total : length places ≡ length (all_commits sets) = ap length p ∙ places_length 0 sets in
    let b : x.number < length (all_commits sets) = first_within sets l.turns l.finished x w (sym f) in
    omega arith

pub undo_still : (sets : Sets) (places : List Place) (count : ℕ) (u : List Undo) → places ≡ places_from 0 sets → count ≡ length places
    → NumbersWithin count u → UndoWithin sets u
undo_still sets places count u p c h = let P : ℕ → Type 0 = λ n. NumbersWithin n u in subst P (c ∙ ap length p ∙ places_length 0 sets) h

pub worn_on : {E : Type 0} (r : Result ⊤ E) (j : Job) (sets : Sets) (places : List Place) (l l1 : LaneTable) (x : Turn) (n count : ℕ)
    (u : List Undo) (next : Next) → Some x ≡ first_of l.turns → n ≡ x.number → places ≡ places_from 0 sets → count ≡ length places
    → l1 ≡ record { turns = drop 1 l.turns ++ listed None; finished = l.finished }
    → IsRevert count n l1.turns l1.finished u → OnOk r (IsNext j sets places (reverting_from 0 (map (undo_request (all_commits sets)) u))
    next) → OnOk r (IsNext j sets places (worn_out sets l.turns l.finished) next)
worn_on r j sets places l l1 x n count u next f e p c h v k =
    let V : ℕ → ℕ → Type 0 = λ a b. IsRevert a b l1.turns l1.finished u in
    let W : ℕ → Type 0 = λ a. V a n in
    let v' : V (length places) x.number = subst (V (length places)) e (subst W c v) in
    on_ok_weaker r (worn_next j sets places l.turns l.finished x l1 u next (sym f) p h v') k
